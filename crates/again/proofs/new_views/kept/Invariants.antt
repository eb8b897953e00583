use Rattle.std.proofs.Common.{◌≡◌, ◌++◌, map}
use Rattle.drafts.specs.Says.{kept_prepare}
use Rattle.again.proofs.new_views.kept.Given as goal

-- the PREPAREs that are kept so far, and those that are left
abbrev pub invariant-loop-prepare : goal.invariant-loop-prepare
invariant-loop-prepare l = map kept_prepare l.list.items ++ l.prepare-iterator ≡ l.prepares
