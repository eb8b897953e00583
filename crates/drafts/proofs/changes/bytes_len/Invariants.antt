-- The bytes of the first places, whose VIEW-CHANGEs are within their limits.
use Rattle.std.proofs.Common.{◌≡◌, length, take}
use Rattle.std.specs.List.{flat_map, AllByRecursion}
use Rattle.message.specs.Encoding.{encode_view_change}
use Rattle.drafts.specs.Says.{bytes_at}
use Rattle.drafts.proofs.Placed.{PlaceFits}
use Rattle.drafts.proofs.changes.bytes_len.Given as goal

abbrev pub invariant-loop-place : goal.invariant-loop-place
invariant-loop-place l = record {
  value : l.length ≡ length (flat_map (bytes_at encode_view_change) (take l.place-index l.changes));
  fit : AllByRecursion PlaceFits (take l.place-index l.changes);
}
