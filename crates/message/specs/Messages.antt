-- What the messages that hold others say.
use Rattle.std.specs.Prelude.{ℕ, List}
use Rattle.parts.specs.Messages.{Prepare, Checkpoint}

-- a replica suspects the leader and tells what it knows
pub record ViewChange : Type 0 where
  pub sender : ℕ
  -- the view that it asks for
  pub target : ℕ
  -- the value that its counter had before
  pub previous : ℕ
  -- the view of its entries, its low mark and the proof of that
  pub from : ℕ
  pub low : ℕ
  pub proof : List Checkpoint
  pub entries : List Prepare
  pub tag : List ℕ

-- the leader of a new view shows a quorum that asks for it, and proposes again
pub record NewView : Type 0 where
  pub view : ℕ
  pub changes : List ViewChange
  pub prepares : List Prepare
  pub tag : List ℕ
