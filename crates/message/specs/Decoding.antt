-- Any message: its type, its bytes, its statement, and how bytes are read.
use Rattle.std.specs.Prelude.{ℕ, List, ◌++◌, Option, None, if◌then◌else◌, nat_eq}
use Rattle.std.specs.Option.{option_map}
use Rattle.counter.specs.Statements.{Stated}
use Rattle.xdr.specs.Layout.{fixed}
use Rattle.xdr.specs.Reading.{and_then, int_from}
use Rattle.parts.specs.Encoding.{prepare_type, commit_type, checkpoint_type, view_change_type, new_view_type, untagged_prepare, untagged_commit, untagged_checkpoint}
use Rattle.parts.specs.Reading.{whole, prepare_rest, commit_rest, checkpoint_rest}
use Rattle.parts.specs.Statements.{prepare_says, commit_says, checkpoint_says}
use Rattle.message.specs.Encoding.{untagged_view_change, untagged_new_view}
use Rattle.message.specs.Reading.{view_change_rest, new_view_rest}
use Rattle.message.specs.Statements.{view_change_says, new_view_says}
use Rattle.message.specs.declared.message.Message.{Message}
use Rattle.message.specs.declared.message.Message.TheVariants.{Prepare, Commit, Checkpoint, ViewChange, NewView}

-- the number of its type
abbrev pub type_number : Message → ℕ
type_number (Prepare p) = 1
type_number (Commit c) = 2
type_number (Checkpoint c) = 3
type_number (ViewChange c) = 4
type_number (NewView n) = 5

-- a message without its tag
abbrev pub untagged : Message → List ℕ
untagged (Prepare p) = untagged_prepare p
untagged (Commit c) = untagged_commit c
untagged (Checkpoint c) = untagged_checkpoint c
untagged (ViewChange c) = untagged_view_change c
untagged (NewView n) = untagged_new_view n

abbrev pub tag_of : Message → List ℕ
tag_of (Prepare p) = p.tag
tag_of (Commit c) = c.tag
tag_of (Checkpoint c) = c.tag
tag_of (ViewChange c) = c.tag
tag_of (NewView n) = n.tag

-- its bytes, the tag last
abbrev pub encode : Message → List ℕ
encode m = untagged m ++ fixed (tag_of m)

-- the statement for which it is tagged in a group of n
abbrev pub says : ℕ → Message → Stated
says n (Prepare p) = prepare_says n p
says n (Commit c) = commit_says n c
says n (Checkpoint c) = checkpoint_says n c
says n (ViewChange c) = view_change_says n c
says n (NewView v) = new_view_says n v

-- the message that bytes are: the first four are the type, and the rest is read by that type
unfoldable pub decode : List ℕ → Option Message
decode bytes =
    and_then (int_from bytes) (λ type rest.
    if nat_eq type prepare_type then option_map Prepare (whole (prepare_rest rest))
    else (if nat_eq type commit_type then option_map Commit (whole (commit_rest rest))
    else (if nat_eq type checkpoint_type then option_map Checkpoint (whole (checkpoint_rest rest))
    else (if nat_eq type view_change_type then option_map ViewChange (whole (view_change_rest rest))
    else (if nat_eq type new_view_type then option_map NewView (whole (new_view_rest rest))
    else None)))))
