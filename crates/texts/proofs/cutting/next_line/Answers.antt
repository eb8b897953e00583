-- The first line and the lines behind it, with and without a line end.
use Rattle.std.proofs.Common.{rules, ◌≡◌, ap, ◌∙◌, sym, length, take, drop, ◌-◌, arith}
use Rattle.std.proofs.lemmas.List.{take_rest, drop-drop, nil_from_length}
use Rattle.std.specs.List.{after_first, position_or_len}
use Rattle.texts.specs.Cutting.{is_line_end}
use Rattle.texts.proofs.Rows.{one_line}
use Rattle.texts.proofs.cutting.next_line.Goals as goal

behind_end : (c : goal.In-len1-up) → take (length c.split_at_first.result.1.now - 1) (drop 1 c.split_at_first.result.1.now) ≡ after_first is_line_end c.args.text.now
behind_end c =
    let text = c.args.text.now in
    take_rest c.split_at_first.result.1.now 1
    ∙ ap (drop 1) (c.split_at_first.ensures.parts is_line_end (λ b r e. search rules)).1
    ∙ drop-drop 1 (position_or_len is_line_end text) text

pub returns-in-len1-up-clause-value : goal.returns-in-len1-up-clause-value
returns-in-len1-up-clause-value c =
    let parts = c.split_at_first.ensures.parts is_line_end (λ b r e. search rules) in
    grind (arith, behind_end c)

pub returns-in-len1-up-clause-lines : goal.returns-in-len1-up-clause-lines
returns-in-len1-up-clause-lines c =
    let parts = c.split_at_first.ensures.parts is_line_end (λ b r e. search rules) in
    let first = one_line c.args.text.now (search rules) in
    cc (behind_end c)

pub returns-in-empty-clause-lines : goal.returns-in-empty-clause-lines
returns-in-empty-clause-lines c =
    let text = c.args.text.now in
    let parts = c.split_at_first.ensures.parts is_line_end (λ b r e. search rules) in
    let nil = nil_from_length c.split_at_first.result.1.now (search rules) in
    let none = sym (drop-drop 1 (position_or_len is_line_end text) text) ∙ ap (drop 1) (sym parts.1 ∙ nil) in
    let first = one_line text (search rules) in
    cc
