-- Each place has its own bytes, no more than the longest VIEW-CHANGE, and what stands in it is within its limits.
use Rattle.std.proofs.Common.{length, take, ap, ◌∙◌, subst, arith}
use Rattle.std.specs.List.{AllByRecursion}
use Rattle.std.proofs.lemmas.List.{take_all}
use Rattle.message.specs.Encoding.{encode_view_change}
use Rattle.drafts.specs.Says.{bytes_at}
use Rattle.drafts.proofs.Pieces.{length-taken_next, all_taken_next}
use Rattle.drafts.proofs.Placed.{PlaceFits, placed_first, placed_short, placed_bytes, placed_fit, place_short}
use Rattle.drafts.proofs.changes.bytes_len.Goals as goal

pub overflow_add-length : goal.overflow_add-length
overflow_add-length c =
    let places = c.args.changes.now in
    let i = c.loop-place.place-index in
    let few = placed_first i places in
    let short = placed_short (take i places) c.loop-place.invariant.fit in
    let one = place_short c.place-item.result c.bytes_at.ensures.fits in
    let long = ap length c.bytes_at.ensures.value in
    omega (arith, few, short, one, long, c.loop-place.invariant.value, c.requires)

pub loop-place-preserved : goal.loop-place-preserved
loop-place-preserved c =
    let more = length-taken_next (bytes_at encode_view_change) c.args.changes.now c.loop-place.place-index c.place-item.result c.loop-place-test.true c.place-item.is in
    let long = ap length c.bytes_at.ensures.value in
    let fit = all_taken_next PlaceFits c.args.changes.now c.loop-place.place-index c.place-item.result c.loop-place-test.true c.place-item.is c.loop-place.invariant.fit c.bytes_at.ensures.fits in
    record { value = omega (arith, more, long, c.loop-place.invariant.value); fit = fit }

pub returns : goal.returns
returns c =
    let places = c.args.changes.now in
    let all = take_all c.loop-place.place-index places c.loop-place-test.false in
    let fit : AllByRecursion PlaceFits places = subst (λ ps. AllByRecursion PlaceFits ps) all c.loop-place.invariant.fit in
    let value = rw all at c.loop-place.invariant.value in
    let same = ap length (placed_bytes encode_view_change places) in
    let short = placed_short places fit in
    record { value = value ∙ same; short = omega (arith, value, short, c.requires); fit = placed_fit places fit }
