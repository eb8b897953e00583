-- The rounds in rows of eight are the rounds over the schedule.
use Rattle.std.proofs.Common.{◌≡◌, ◌/◌, length, refl, ap, ◌∙◌, rules}
use Rattle.std.specs.List.{fold, zip}
use Rattle.std.specs.Simd.{first_chunks}
use Rattle.std.proofs.lemmas.Iterator.{YieldsList-from_slice, YieldsList-from_zip}
use Rattle.std.proofs.lemmas.Iterator.Consumers.{fold_from_yields_List}
use Rattle.sha256.specs.Sha256.{K, sums, compressed, rounds}
use Rattle.sha256.proofs.Schedules.{row_rounds, rounds_by_rows}
use Rattle.sha256.proofs.compression.compress.Goals as goal

pub returns : goal.returns
unfolding compressed
returns c =
    let h = c.args.h in
    let w = c.message_schedule-w.result in
    let k_rows = c.as_chunks.result.0.now in
    let w_rows = c.as_chunks-2.result.0.now in
    let w_long : length w ≡ 64 = search rules in
    let k_is : k_rows ≡ first_chunks 8 8 K = unfold K in c.as_chunks.ensures.front in
    let w_is : w_rows ≡ first_chunks 8 8 w = c.as_chunks-2.ensures.front ∙ ap (λ n. first_chunks 8 (n / 8) w) w_long in
    let folded : c.fold-s.result ≡ fold row_rounds h (zip k_rows w_rows) =
    fold_from_yields_List _ row_rounds h _ c.fold-s.ensures.ran
    (YieldsList-from_zip (YieldsList-from_slice k_rows (cc)) (YieldsList-from_slice w_rows (cc))) (λ a x b q called. search rules) in
    let all = folded ∙ rounds_by_rows 8 h K w k_rows w_rows k_is w_is (unfold K in refl) w_long ∙ ap (rounds h K) c.message_schedule-w.ensures in
    c.added.ensures ∙ ap (λ s. sums s h) all
