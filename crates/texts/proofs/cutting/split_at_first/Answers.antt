-- The slice is split at the first byte that passes.
use Rattle.std.proofs.Common.{◌≡◌, ap, ◌∙◌, length, rules}
use Rattle.std.proofs.lemmas.Iterator.{YieldsList-from_slice}
use Rattle.std.proofs.lemmas.Iterator.Search.{position_from_yields_List}
use Rattle.std.specs.List.{position_or_len}
use Rattle.std.specs.Option.{unwrap_or}
use Rattle.texts.proofs.Runs.{position_or}
use Rattle.texts.proofs.cutting.split_at_first.Goals as goal

pub returns-clause-parts : goal.returns-clause-parts
returns-clause-parts g c p computes =
    let bytes = c.args.bytes.now in
    let at = position_from_yields_List p _ _ c.position.result c.position.ensures.ran (YieldsList-from_slice bytes cc) (λ x b q k. (search rules, computes _ _ (search rules))) in
    let end : c.unwrap_or-end.result ≡ position_or_len p bytes = c.unwrap_or-end.ensures ∙ ap (λ o. unwrap_or o (length bytes)) at ∙ position_or p bytes in
    (rw end at c.split_at.ensures.front, rw end at c.split_at.ensures.back)
