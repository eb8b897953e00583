-- The record, as a plain value.
use Rattle.std.specs.Prelude.{ℕ, ◌+◌, Bool, List, map}
use Rattle.parts.specs.Messages.{Prepare}
use Rattle.protocol.specs.Changes.{ascend}
use Rattle.protocol.specs.Replicas.{Entry}

-- the view of the proposals, the low mark, and the proposals above it with the votes for each
pub record Recorded : Type 0 where
  pub from : ℕ
  pub low : ℕ
  pub entries : List Entry

-- proposals whose orders ascend above a low mark
abbrev pub ascends : ℕ → List Prepare → Bool
ascends low ps = ascend (low + 1) (map (λ p. p.order) ps)
