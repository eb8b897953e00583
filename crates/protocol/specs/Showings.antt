-- What a message shows: the seats that it names as senders, the statements that its tags are for, and the PREPAREs that
-- stand in it. Nested messages count at any depth.
use Rattle.std.specs.Prelude.{ℕ, List, [], ◌∷◌, ◌++◌, map, flat_map}
use Rattle.counter.specs.Statements.{Stated}
use Rattle.parts.specs.Messages.{Prepare as Proposal, Checkpoint as Mark}
use Rattle.parts.specs.Statements.{prepare_says, checkpoint_says}
use Rattle.message.specs.Decoding.{says, tag_of}
use Rattle.message.specs.Messages.{ViewChange as Change, NewView as Opening}
use Rattle.message.specs.Statements.{view_change_says}
use Rattle.message.specs.declared.message.Message.{Message}
use Rattle.message.specs.declared.message.Message.TheVariants.{Prepare, Commit, Checkpoint, ViewChange, NewView}

-- the senders; PREPAREs and NEW-VIEWs name none
abbrev pub change_senders : Change → List ℕ
change_senders c = c.sender ∷ map (λ k. k.sender) c.proof

abbrev pub senders : Message → List ℕ
senders (Prepare p) = []
senders (Commit c) = c.sender ∷ []
senders (Checkpoint c) = c.sender ∷ []
senders (ViewChange c) = change_senders c
senders (NewView w) = flat_map change_senders w.changes

-- a statement, and the tag that is shown for it
pub record Showing : Type 0 where
  pub statement : Stated
  pub tag : List ℕ

abbrev pub prepare_shows : ℕ → Proposal → Showing
prepare_shows n p = record { statement = prepare_says n p; tag = p.tag }

abbrev pub checkpoint_shows : ℕ → Mark → Showing
checkpoint_shows n c = record { statement = checkpoint_says n c; tag = c.tag }

-- a VIEW-CHANGE, its proof and its entries
abbrev pub change_shows : ℕ → Change → List Showing
change_shows n c =
    record { statement = view_change_says n c; tag = c.tag } ∷ map (checkpoint_shows n) c.proof ++ map (prepare_shows n) c.entries

-- what is nested in a message
abbrev pub nested_shows : ℕ → Message → List Showing
nested_shows n (Prepare p) = []
nested_shows n (Commit c) = []
nested_shows n (Checkpoint c) = []
nested_shows n (ViewChange c) = map (checkpoint_shows n) c.proof ++ map (prepare_shows n) c.entries
nested_shows n (NewView w) = flat_map (change_shows n) w.changes ++ map (prepare_shows n) w.prepares

abbrev pub shows : ℕ → Message → List Showing
shows n m = record { statement = says n m; tag = tag_of m } ∷ nested_shows n m

-- the PREPAREs that stand in a message, alone or nested
abbrev pub standing_in : Message → List Proposal
standing_in (Prepare p) = p ∷ []
standing_in (Commit c) = []
standing_in (Checkpoint c) = []
standing_in (ViewChange c) = c.entries
standing_in (NewView w) = flat_map (λ c. c.entries) w.changes ++ w.prepares

-- the NEW-VIEW that a message is, if it is one
abbrev pub new_views_in : Message → List Opening
new_views_in (Prepare p) = []
new_views_in (Commit c) = []
new_views_in (Checkpoint c) = []
new_views_in (ViewChange c) = []
new_views_in (NewView w) = w ∷ []
