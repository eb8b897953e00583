-- As many have been read as the loop has turned.
use Rattle.std.proofs.Common.{◌≡◌, Some}
use Rattle.xdr.specs.Reading.{times_from}
use Rattle.parts.specs.Lists.{items_from}
use Rattle.parts.specs.Reading.{of_type}
use Rattle.parts.proofs.nested.Nested.read.Given as goal

abbrev pub invariant-loop : goal.invariant-loop
invariant-loop g l = times_from (of_type g.M.Delivered.number g.M.Delivered.rest_from) l.counter l.bytes ≡ Some (items_from (of_type g.M.Delivered.number g.M.Delivered.rest_from) l.counter l.bytes, l.rest)
