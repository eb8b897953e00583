-- The difference so far, and the bytes that are left, say whether the tags are the same.
use Rattle.std.proofs.Common.{◌≡◌, length}
use Rattle.std.specs.Str.{bytes_eq}
use Rattle.counters.proofs.Differences.{same_so_far}
use Rattle.counters.proofs.tags.same_tag.Given as goal

abbrev pub invariant-loop-ours : goal.invariant-loop-ours
invariant-loop-ours l = same_so_far l.difference l.tag l.shown (length l.yielded) ≡ bytes_eq l.tag l.shown
