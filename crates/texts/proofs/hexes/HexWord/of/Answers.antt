-- All pairs of the word write bytes, so the word does.
use Rattle.std.proofs.Common.{◌/◌, length, is_some, rules, ap, ◌∙◌}
use Rattle.std.proofs.lemmas.List.{drop_all}
use Rattle.texts.specs.Hexes.{bytes_of_pairs}
use Rattle.texts.proofs.Pairs.{whole_word}
use Rattle.texts.proofs.hexes.HexWord.of.Goals as goal

pub returns-clause-value : goal.returns-clause-value
returns-clause-value c =
    let pairs = c.as_chunks.result.0.now in
    let none_left = drop_all c.loop-high.high-index pairs c.loop-high-test.false in
    whole_word (length c.args.word.now / 2) c.args.word.now pairs c.as_chunks.ensures.front (search rules) (c.loop-high.invariant ∙ ap (λ left. is_some (bytes_of_pairs left)) none_left)
