-- The bytes wait behind those that waited.
use Rattle.std.proofs.Common.{◌≡◌, ◌+◌, ◌-◌, ◌%◌, ◌^◌, ◌≤◌, ◌++◌, length, take, refl, ap, ◌∙◌, arith, rules}
use borrow.Rule.Slice.PartMut.{put_mid}
use Rattle.std.proofs.lemmas.Slice.{take-put_mid}
use Rattle.sha256.proofs.Streams.{held}
use Rattle.sha256.proofs.hashing.Sha256.hold.Goals as goal

pub returns : goal.returns
returns c =
    let self = c.args.self.now in
    let bytes = c.args.bytes.now in
    let start = c.fill-start.result in
    let new = c.copy_from_slice.new.self in
    let copied = c.copy_from_slice.ensures.after in
    let many = ap length copied in
    let block = put_mid start (start + length bytes - start) self.block new in
    let end : (self.count + length bytes) % 2 ^ 64 % 64 ≡ start + length bytes = omega arith in
    let room : start ≤ length self.block = search rules in
    let wait : take ((self.count + length bytes) % 2 ^ 64 % 64) block ≡ take (self.count % 64) self.block ++ bytes =
    rw end (take-put_mid start (start + length bytes - start) self.block new (start + length bytes) (omega arith) room ∙ rw (copied, c.fill-start.ensures) refl) in
    held self _ bytes refl refl wait
