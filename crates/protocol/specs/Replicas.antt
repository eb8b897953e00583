-- All that a replica holds, as plain values.
use Rattle.std.specs.Prelude.{ℕ, Bool, false, List, [], ◌∷◌, replicate, Option, None}
use Rattle.terms.specs.Numbers.{largest_group}
use Rattle.counter.specs.Statements.{Stated}
use Rattle.parts.specs.Messages.{Prepare, Checkpoint}
use Rattle.message.specs.Messages.{ViewChange}

-- an entry of the record: a PREPARE, and for each seat whether its vote is held
pub record Entry : Type 0 where
  pub proposal : Prepare
  pub votes : List Bool

-- an accepted view, with the low and the top of its NEW-VIEW
pub record Noted : Type 0 where
  pub view : ℕ
  pub low : ℕ
  pub top : ℕ

pub record Replica (St : Type 0) : Type 0 where
  -- its counter: the group's size, its seat, the tag rule, and three values
  pub size : ℕ
  pub seat : ℕ
  pub rule : Stated → List ℕ
  pub values : List ℕ
  -- its view
  pub view : ℕ
  -- its low mark with the proof
  pub low : ℕ
  pub proof : List Checkpoint
  -- its record: the view that it is of, and the PREPAREs of that view for low + 1 to end, with votes
  pub from : ℕ
  pub entries : List Entry
  -- the last views that it accepted, the latest last
  pub noted : List Noted
  -- for each seat the VIEW-CHANGE and the latest CHECKPOINT that it holds
  pub changes : List (Option ViewChange)
  pub checkpoints : List (Option Checkpoint)
  -- how many requests it carried out
  pub count : ℕ
  -- the state of its service
  pub state : St

-- nobody's vote, and nothing held of any seat
abbrev pub no_votes : List Bool
no_votes = replicate largest_group false

abbrev pub nothing_held : {A : Type 0} → List (Option A)
nothing_held = replicate largest_group None

-- a replica that was just made: all is 0 or empty, and view 0 counts as accepted with low and top 0
abbrev pub founded : {St : Type 0} → ℕ → ℕ → (Stated → List ℕ) → List ℕ → St → Replica St
founded size seat rule values state = record {
  size = size;
  seat = seat;
  rule = rule;
  values = values;
  view = 0;
  low = 0;
  proof = [];
  from = 0;
  entries = [];
  noted = record { view = 0; low = 0; top = 0 } ∷ [];
  changes = nothing_held;
  checkpoints = nothing_held;
  count = 0;
  state = state;
}
