-- The lines of a text, one after the other.
use Rattle.std.proofs.Common.{◌≡◌, ℕ, ◌<◌, true, false, List, [], ◌∷◌, ◌++◌, length, refl, ap, ◌∙◌, ⊎_elim, arith}
use Rattle.std.proofs.lemmas.List.{append_assoc}
use Rattle.std.proofs.lemmas.Bool.{cases_Bool}
use Rattle.std.specs.List.{before_first, after_first, onto_first, AllByRecursion}
use Rattle.texts.specs.Cutting.{is_line_end, lines_of, ended, LinesCutBack}
use Rattle.texts.proofs.Runs.{before_on, after_on}

-- a byte in front of a line
longer : (b : ℕ) (bs : List ℕ) → onto_first b (lines_of bs) ≡ (b ∷ before_first is_line_end bs) ∷ lines_of (after_first is_line_end bs)
unfolding lines_of
longer b [] = refl
longer b (c ∷ cs) =
    ⊎_elim
    (λ (end : is_line_end c ≡ true). simp end)
    (λ (more : is_line_end c ≡ false). rw (before_on is_line_end c cs more, after_on is_line_end c cs more) (simp more (ap (onto_first b) (longer c cs))))
    (cases_Bool (is_line_end c))

pub no_line : (text : List ℕ) → length text ≡ 0 → lines_of text ≡ []
unfolding lines_of
no_line [] none = refl
no_line (b ∷ bs) none = absurd (omega arith)

-- a text that is not empty has a line, and the lines behind it
pub one_line : (text : List ℕ) → 0 < length text → lines_of text ≡ before_first is_line_end text ∷ lines_of (after_first is_line_end text)
unfolding lines_of
one_line [] some = absurd (omega arith)
one_line (b ∷ bs) some =
    ⊎_elim
    (λ (end : is_line_end b ≡ true). simp end)
    (λ (more : is_line_end b ≡ false). rw (before_on is_line_end b bs more, after_on is_line_end b bs more) (simp more (longer b bs)))
    (cases_Bool (is_line_end b))

-- a line and its end in front of more text
line_on : (line text : List ℕ) → AllByRecursion (λ b. is_line_end b ≡ false) line → lines_of (line ++ (10 ∷ text)) ≡ line ∷ lines_of text
unfolding lines_of
line_on [] text each = refl
line_on (b ∷ bs) text each = simp (each.0, line_on bs text each.1)

pub lines_cut_back : LinesCutBack
unfolding lines_of
lines_cut_back [] each = refl
lines_cut_back (line ∷ lines) each =
    simp append_assoc (line_on line (ended lines) each.0 ∙ ap (λ (ls : List (List ℕ)). line ∷ ls) (lines_cut_back lines each.1))

-- what the goals of `next_line` want
pub ruleset rows = (no_line, lines_cut_back)
