-- The bytes that waited and the new ones are the block that is compressed.
use Rattle.std.proofs.Common.{◌≡◌, ◌-◌, ◌%◌, [], ◌++◌, length, take, drop, refl, ap, ◌∙◌, arith, rules}
use borrow.Rule.Slice.PartMut.{put_mid}
use Rattle.std.proofs.lemmas.List.{append-nil, drop_all, length-drop, length-append, length-take-le}
use Rattle.sha256.proofs.Streams.{completed}
use Rattle.sha256.proofs.hashing.Sha256.complete.Goals as goal

pub returns : goal.returns
returns c =
    let self = c.args.self.now in
    let bytes = c.args.bytes.now in
    let start = c.fill-start.result in
    let new = c.copy_from_slice.new.self in
    let block = put_mid start (64 - start) self.block new in
    let long : length self.block ≡ 64 = search rules in
    let none : drop (64 - start) (drop start self.block) ≡ [] = drop_all (64 - start) (drop start self.block) (simp length-drop (omega arith)) in
    let whole : block ≡ take (self.count % 64) self.block ++ bytes = rw (none, append-nil, c.copy_from_slice.ensures.after, c.fill-start.ensures) refl in
    let front : length (take (self.count % 64) self.block) ≡ self.count % 64 = length-take-le (self.count % 64) self.block (omega arith) in
    let full : length block ≡ 64 = ap length whole ∙ simp length-append (omega arith) in
    completed self _ bytes refl c.requires whole full c.compress-self.ensures
