-- The first that agree of those so far.
use Rattle.std.proofs.Common.{◌≡◌, ◌≤◌, length, map, take}
use Rattle.std.specs.Option.{option_map}
use Rattle.drafts.specs.Says.{kept_checkpoint}
use Rattle.protocol.specs.Standing.{held}
use Rattle.holdings.specs.Claimed.{agreeing}
use Rattle.holdings.proofs.checkpoints.first_agreeing.Given as goal

abbrev pub invariant-loop-place : goal.invariant-loop-place
invariant-loop-place l = record {
  few : length l.proof.items ≤ l.most;
  made : map kept_checkpoint l.proof.items ≡ take l.most (agreeing (held (map (option_map kept_checkpoint) (take l.place-index l.places))) (kept_checkpoint l.claim));
}
