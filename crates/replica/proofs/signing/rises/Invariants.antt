use Rattle.std.proofs.Common.{◌≡◌, drop}
use Rattle.protocol.specs.Open.{rise}
use Rattle.replica.specs.Signing.{bare}
use Rattle.replica.proofs.signing.rises.Given as goal

-- what is left rises from the highest so far exactly if all rises
abbrev pub invariant-loop-draft : goal.invariant-loop-draft
invariant-loop-draft l = rise l.highest (bare (drop l.draft-index l.again)) ≡ rise l.present (bare l.again)
