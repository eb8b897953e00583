-- The message is still ahead, by as many places as are left.
use Rattle.std.proofs.Common.{◌≡◌, ◌-◌, slice_get}
use Rattle.parts.specs.Lists.{items_from}
use Rattle.parts.specs.Reading.{of_type}
use Rattle.parts.proofs.nested.Nested.get.Given as goal

abbrev pub invariant-loop : goal.invariant-loop
invariant-loop g l = slice_get (items_from (of_type g.M.Delivered.number g.M.Delivered.rest_from) (l.self.count - l.counter) l.rest) (l.place - l.counter) ≡ slice_get (items_from (of_type g.M.Delivered.number g.M.Delivered.rest_from) l.self.count l.self.bytes.now) l.place
