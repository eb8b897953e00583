-- What is asked of the places that are left.
use Rattle.std.proofs.Common.{◌≡◌, ◌==◌, drop}
use Rattle.std.specs.List.{list_all}
use Rattle.protocol.specs.Standing.{held}
use Rattle.again.proofs.new_views.all_for.Given as goal

abbrev pub invariant-loop-place : goal.invariant-loop-place
invariant-loop-place l = list_all (λ c. c.target == l.view.0) (held (drop l.place-index l.changes)) ≡ list_all (λ c. c.target == l.view.0) (held l.changes)
