-- The words so far, with as many as are left, are the schedule.
use Rattle.std.proofs.Common.{◌≡◌, ◌-◌, length, take}
use Rattle.sha256.specs.Sha256.{extended, schedule}
use Rattle.sha256.proofs.compression.message_schedule.Given as goal

abbrev pub invariant-loop-t : goal.invariant-loop-t
invariant-loop-t l = record { long : length l.w ≡ 64; so_far : extended (64 - l.t) (take l.t l.w) ≡ schedule l.block }
