-- The VIEW-CHANGE that bytes are.
use Rattle.std.specs.Prelude.{Option, Some, None}
use Rattle.message.specs.Messages.{ViewChange as Change}
use Rattle.message.specs.declared.message.Message.{Message}
use Rattle.message.specs.declared.message.Message.TheVariants.{Prepare, Commit, Checkpoint, ViewChange, NewView}

-- the VIEW-CHANGE that a message is, if it is one
abbrev pub change_of : Option Message → Option Change
change_of None = None
change_of (Some (Prepare p)) = None
change_of (Some (Commit c)) = None
change_of (Some (Checkpoint c)) = None
change_of (Some (ViewChange c)) = Some c
change_of (Some (NewView w)) = None
