-- The words of a line, one after the other.
use Rattle.std.proofs.Common.{Bool, ◌≡◌, ℕ, ◌<◌, true, false, cond, filter, nat_lt, List, [], ◌∷◌, length, refl, ap, ◌∙◌, ⊎_elim, arith}
use Rattle.std.proofs.lemmas.Bool.{cases_Bool}
use Rattle.std.proofs.lemmas.Bool.Decides.{nat_tests}
use Rattle.std.proofs.lemmas.List.Elements.{All-from_recursion, All-nil, All-cons, All-append, All-weaker}
use Rattle.std.proofs.lemmas.List.Splits.{slice_split_none, slice_split_at}
use Rattle.std.specs.List.{All, AllByRecursion, before_first, slice_split, join_with_byte}
use Rattle.texts.specs.Cutting.{is_blank, not_blank, is_hash, ends_word, from_first, words_of, IsWord, WordsCutBack}
use Rattle.texts.proofs.Runs.{before_on, before_off, from_on, from_off, before_all}

-- what a byte is to a word: a part of it, or the comment or the blank that ends it
data Kind (b : ℕ) : Type 0 where
  part : ends_word b ≡ false → is_blank b ≡ false → is_hash b ≡ false → Kind b
  comment : ends_word b ≡ true → is_blank b ≡ false → is_hash b ≡ true → Kind b
  gap : ends_word b ≡ true → is_blank b ≡ true → is_hash b ≡ false → Kind b

kind : (b : ℕ) → Kind b
kind b =
    ⊎_elim
    (λ (blank : is_blank b ≡ true). let plain : is_hash b ≡ false = grind (arith, nat_tests) in gap (simp blank) blank plain)
    (λ (solid : is_blank b ≡ false).
    ⊎_elim
    (λ (hash : is_hash b ≡ true). comment (simp (solid, hash)) solid hash)
    (λ (plain : is_hash b ≡ false). part (simp (solid, plain)) solid plain)
    (cases_Bool (is_hash b)))
    (cases_Bool (is_blank b))

-- the pieces that are not empty
abbrev full : List (List ℕ) → List (List ℕ)
full ps = filter (λ piece. nat_lt 0 (length piece)) ps

-- a line without its comment, cut at every blank
abbrev pieces : List ℕ → List (List ℕ)
pieces line = slice_split is_blank (before_first is_hash line)

-- blanks in front make no words
skip : (s : List ℕ) → full (pieces s) ≡ full (pieces (from_first not_blank s))
skip [] = refl
skip (b ∷ bs) = elim (kind b) [
  | part _ solid _ ↦ simp solid
  | comment _ solid _ ↦ simp solid
  | gap _ blank plain ↦ rw (before_on is_hash b bs plain, from_on not_blank b bs (simp blank)) (simp blank (skip bs))
]

-- the pieces behind a word, by the byte that ends it
unfoldable later : List ℕ → List (List ℕ)
later [] = []
later (b ∷ bs) = cond (is_hash b) [] (pieces bs)

first_piece : (s : List ℕ) → pieces s ≡ before_first ends_word s ∷ later (from_first ends_word s)
unfolding later
first_piece [] = refl
first_piece (b ∷ bs) = elim (kind b) [
  | part on solid plain ↦ rw (before_on is_hash b bs plain, before_on ends_word b bs on, from_on ends_word b bs on) (simp (solid, first_piece bs))
  | comment off solid hash ↦ rw (before_off is_hash b bs hash, before_off ends_word b bs off, from_off ends_word b bs off) (simp hash)
  | gap off blank plain ↦ rw (before_on is_hash b bs plain, before_off ends_word b bs off, from_off ends_word b bs off) (simp (plain, blank))
]

-- a word's end makes no word of its own
later_words : (s : List ℕ) → full (later (from_first ends_word s)) ≡ full (pieces (from_first ends_word s))
unfolding later
later_words [] = refl
later_words (b ∷ bs) = elim (kind b) [
  | part on solid plain ↦ rw (from_on ends_word b bs on) (later_words bs)
  | comment off solid hash ↦ rw (from_off ends_word b bs off) (simp hash)
  | gap off blank plain ↦ rw (from_off ends_word b bs off, before_on is_hash b bs plain) (simp (plain, blank))
]

-- a piece that is not empty is a word
full_on : (piece : List ℕ) (ps : List (List ℕ)) → 0 < length piece → full (piece ∷ ps) ≡ piece ∷ full ps
full_on piece ps some = grind (arith, nat_tests)

-- behind the blanks of a line: no word, or one and the rest of the words
pub no_word : (line : List ℕ) → length (before_first ends_word (from_first not_blank line)) ≡ 0 → words_of line ≡ []
unfolding words_of
no_word [] none = refl
no_word (b ∷ bs) none = elim (kind b) [
  | part on solid plain ↦ absurd (omega (arith, rw (from_off not_blank b bs (simp solid), before_on ends_word b bs on) at none))
  | comment off solid hash ↦ simp hash
  | gap off blank plain ↦ rw (before_on is_hash b bs plain) (simp blank (no_word bs (rw (from_on not_blank b bs (simp blank)) at none)))
]

pub one_word : (line : List ℕ) → 0 < length (before_first ends_word (from_first not_blank line))
    → words_of line ≡ before_first ends_word (from_first not_blank line) ∷ words_of (from_first ends_word (from_first not_blank line))
unfolding words_of
one_word line some =
    let rest = from_first not_blank line in
    skip line ∙ ap full (first_piece rest) ∙ full_on (before_first ends_word rest) (later (from_first ends_word rest)) some
    ∙ ap (λ (ws : List (List ℕ)). before_first ends_word rest ∷ ws) (later_words rest)

-- no byte of a word is a blank or a comment's beginning
-- what ends no word is in none
within_word : (test : ℕ → Bool) → ((b : ℕ) → ends_word b ≡ false → test b ≡ false) → (w : List ℕ) → IsWord w → All (λ b. test b ≡ false) w
within_word test apart w word = All-weaker (λ b. ends_word b ≡ false) _ apart w (All-from_recursion _ w word.1)

solid_word : (w : List ℕ) → IsWord w → All (λ b. is_blank b ≡ false) w
solid_word = within_word is_blank (λ b on. grind (arith, nat_tests))

plain_word : (w : List ℕ) → IsWord w → All (λ b. is_hash b ≡ false) w
plain_word = within_word is_hash (λ b on. grind (arith, nat_tests))

-- words with one blank between them: none is a comment, and they are the pieces
module _ (blank : ℕ) (is : is_blank blank ≡ true) where
  plain_words : (ws : List (List ℕ)) → AllByRecursion IsWord ws → All (λ b. is_hash b ≡ false) (join_with_byte blank ws)
  plain_words [] each = All-nil _
  plain_words (w ∷ []) each = plain_word w each.0
  plain_words (w ∷ v ∷ ws) each =
      let plain : is_hash blank ≡ false = grind (arith, nat_tests) in
      All-append (λ b. is_hash b ≡ false) w (blank ∷ join_with_byte blank (v ∷ ws)) (plain_word w each.0) (All-cons (λ b. is_hash b ≡ false) blank (join_with_byte blank (v ∷ ws)) plain (plain_words (v ∷ ws) each.1))

  cut_words : (w : List ℕ) (ws : List (List ℕ)) → AllByRecursion IsWord (w ∷ ws) → slice_split is_blank (join_with_byte blank (w ∷ ws)) ≡ w ∷ ws
  cut_words w [] each = slice_split_none is_blank w (solid_word w each.0)
  cut_words w (v ∷ ws) each =
      slice_split_at is_blank w blank (join_with_byte blank (v ∷ ws)) (solid_word w each.0) is
      ∙ ap (λ (vs : List (List ℕ)). w ∷ vs) (cut_words v ws each.1)

full_words : (ws : List (List ℕ)) → AllByRecursion IsWord ws → full ws ≡ ws
full_words [] each = refl
full_words (w ∷ ws) each = full_on w ws each.0.0 ∙ ap (λ (vs : List (List ℕ)). w ∷ vs) (full_words ws each.1)

pub words_cut_back : WordsCutBack
unfolding words_of
words_cut_back blank [] is each = refl
words_cut_back blank (w ∷ ws) is each =
    ap (λ line. full (slice_split is_blank line)) (before_all is_hash _ (plain_words blank is (w ∷ ws) each))
    ∙ ap full (cut_words blank is w ws each) ∙ full_words (w ∷ ws) each

-- what the goals of `next_word` want
pub ruleset words = (no_word, one_word, words_cut_back)
