-- A glyph's place among the rows, and what setting a row there leaves.
use Rattle.std.proofs.lemmas.Grind.{common_steps}
use Rattle.std.proofs.Common.{◌≡◌, ℕ, zero, suc, ◌+◌, ◌<◌, ◌≤◌, true, cond, ltb, List, [], ◌∷◌, length, get_or, set, is_some, Some, None, Result, Ok, Err, MatchResult, sym, refl, ap, ◌∙◌, subst, ⊎_elim, arith}
use Rattle.std.specs.List.{insert}
use Rattle.std.specs.List.Sorted.{IsSearchInRange, IsBinarySearchResult, IsNonDecreasingBy}
use Rattle.std.specs.Ordering.{nat_cmp, ordering_index}
use Rattle.std.proofs.lemmas.Cmp.{ranked}
use Rattle.std.proofs.lemmas.Bool.{false≢true, and_parts, and_from, ltb-true, lt-ltb, cases_order}
use Rattle.std.proofs.lemmas.Bool.Decides.{nat_tests}
use Rattle.registers.specs.declared.glyph_rows.GlyphRow.{GlyphRow}
use Rattle.registers.specs.Rows.{new_row, row_of, placed, all_above, ascending, Found, Missing}

-- a glyph's place: so many rows at the front have a lower one
abbrev pub place_of : List GlyphRow → ℕ → ℕ
place_of [] glyph = 0
place_of (row ∷ rows) glyph = cond (ltb row.glyph glyph) (suc (place_of rows glyph)) 0

pub place_within : (rows : List GlyphRow) (glyph : ℕ) → place_of rows glyph ≤ length rows
place_within [] glyph = omega arith
place_within (row ∷ rows) glyph = let rest = place_within rows glyph in grind (arith, nat_tests)

-- ---- one row more in front: its glyph is lower, the same or higher

module _ (row : GlyphRow) (rows : List GlyphRow) where
  place_lower : (glyph : ℕ) → row.glyph < glyph → place_of (row ∷ rows) glyph ≡ suc (place_of rows glyph)
  place_lower glyph less = grind arith

  place_front : (glyph : ℕ) → glyph ≤ row.glyph → place_of (row ∷ rows) glyph ≡ 0
  place_front glyph le = grind arith

  row_other : (glyph : ℕ) → (row.glyph ≡ glyph → ⊥) → row_of (row ∷ rows) glyph ≡ row_of rows glyph
  row_other glyph other = grind arith

  row_first : (glyph : ℕ) → row.glyph ≡ glyph → row_of (row ∷ rows) glyph ≡ Some row
  row_first glyph same = grind arith

  placed_lower : (new : GlyphRow) → row.glyph < new.glyph → placed (row ∷ rows) new ≡ row ∷ placed rows new
  placed_lower new less = grind arith

  placed_same : (new : GlyphRow) → row.glyph ≡ new.glyph → placed (row ∷ rows) new ≡ new ∷ rows
  placed_same new same = grind arith

  placed_higher : (new : GlyphRow) → new.glyph < row.glyph → placed (row ∷ rows) new ≡ new ∷ row ∷ rows
  placed_higher new less = grind arith

-- the place by what stands before it and at it
pub place_is : (rows : List GlyphRow) (glyph place : ℕ) → place ≤ length rows → ((k : ℕ) → k < place → (get_or rows k (new_row 0)).glyph < glyph) → (place < length rows → glyph ≤ (get_or rows place (new_row 0)).glyph) → place ≡ place_of rows glyph
place_is [] glyph place within lower next = omega arith
place_is (row ∷ rows) glyph zero within lower next = grind (arith, common_steps)
place_is (row ∷ rows) glyph (suc place) within lower next =
    ap suc (place_is rows glyph place (omega arith) (λ k less. lower (suc k) (omega arith)) (λ less. next (omega arith)))
    ∙ sym (place_lower row rows glyph (lower 0 (omega arith)))

-- ---- what stands at the place

-- a row with the glyph, where it stands
pub row_found : (rows : List GlyphRow) (glyph : ℕ) (d : GlyphRow) → place_of rows glyph < length rows → (get_or rows (place_of rows glyph) d).glyph ≡ glyph → row_of rows glyph ≡ Some (get_or rows (place_of rows glyph) d)
row_found [] glyph d within same = absurd (omega arith)
row_found (row ∷ rows) glyph d within same = grind (arith, common_steps, row_found rows glyph d)

none_above : (rows : List GlyphRow) (low glyph : ℕ) → all_above low rows ≡ true → glyph ≤ low → row_of rows glyph ≡ None
none_above [] low glyph above under = refl
none_above (row ∷ rows) low glyph above under =
    let both = and_parts (ltb low row.glyph) (all_above low rows) above in
    let first = ltb-true low row.glyph both.0 in
    row_other row rows glyph (λ e. omega arith) ∙ none_above rows low glyph both.1 under

-- no row with the glyph, if the rows ascend
pub row_missing : (rows : List GlyphRow) (glyph : ℕ) (d : GlyphRow) → ascending rows ≡ true → (place_of rows glyph < length rows → (get_or rows (place_of rows glyph) d).glyph ≡ glyph → ⊥) → row_of rows glyph ≡ None
row_missing [] glyph d ordered missing = refl
row_missing (row ∷ rows) glyph d ordered missing =
    let both = and_parts (all_above row.glyph rows) (ascending rows) ordered in
    ⊎_elim
    (λ here. absurd (missing (rw (place_front row rows glyph (omega arith)) (omega arith)) (rw (place_front row rows glyph (omega arith)) here)))
    (⊎_elim
    (λ less.
    let place = place_lower row rows glyph less in
    row_other row rows glyph (λ e. omega arith) ∙ row_missing rows glyph d both.1 (λ w e. missing (rw place (omega arith)) (rw place e)))
    (λ more. row_other row rows glyph (λ e. omega arith) ∙ none_above rows row.glyph glyph both.0 (omega arith)))
    (cases_order row.glyph glyph)

-- ---- setting a row in its place

pub placed_over : (rows : List GlyphRow) (new d : GlyphRow) → place_of rows new.glyph < length rows → (get_or rows (place_of rows new.glyph) d).glyph ≡ new.glyph → placed rows new ≡ set rows (place_of rows new.glyph) new
placed_over [] new d within same = absurd (omega arith)
placed_over (row ∷ rows) new d within same = grind (arith, common_steps, placed_over rows new d)

pub placed_between : (rows : List GlyphRow) (new d : GlyphRow) → (place_of rows new.glyph < length rows → (get_or rows (place_of rows new.glyph) d).glyph ≡ new.glyph → ⊥) → placed rows new ≡ insert rows (place_of rows new.glyph) new
placed_between [] new d missing = refl
placed_between (row ∷ rows) new d missing = grind (arith, common_steps, placed_between rows new d)

above_placed : (rows : List GlyphRow) (new : GlyphRow) (low : ℕ) → all_above low rows ≡ true → low < new.glyph → all_above low (placed rows new) ≡ true
above_placed [] new low above less = grind (arith, common_steps)
above_placed (row ∷ rows) new low above less =
    let both = and_parts (ltb low row.glyph) (all_above low rows) above in
    let first = lt-ltb low new.glyph less in
    ⊎_elim
    (λ here. rw (placed_same row rows new here) (and_from _ _ first both.1))
    (⊎_elim
    (λ lower. rw (placed_lower row rows new lower) (and_from _ _ both.0 (above_placed rows new low both.1 less)))
    (λ higher. rw (placed_higher row rows new higher) (and_from _ _ first above)))
    (cases_order row.glyph new.glyph)

above_below : (rows : List GlyphRow) (low lower : ℕ) → all_above low rows ≡ true → lower ≤ low → all_above lower rows ≡ true
above_below [] low lower above le = refl
above_below (row ∷ rows) low lower above le =
    let both = and_parts (ltb low row.glyph) (all_above low rows) above in
    let first = ltb-true low row.glyph both.0 in
    and_from _ _ (lt-ltb lower row.glyph (omega arith)) (above_below rows low lower both.1 le)

-- rows that ascend still do
pub placed_ascends : (rows : List GlyphRow) (new : GlyphRow) → ascending rows ≡ true → ascending (placed rows new) ≡ true
placed_ascends [] new ordered = refl
placed_ascends (row ∷ rows) new ordered =
    let both = and_parts (all_above row.glyph rows) (ascending rows) ordered in
    ⊎_elim
    (λ here. rw (placed_same row rows new here) (and_from _ _ (above_below rows row.glyph new.glyph both.0 (omega arith)) both.1))
    (⊎_elim
    (λ lower. rw (placed_lower row rows new lower) (and_from _ _ (above_placed rows new row.glyph both.0 lower) (placed_ascends rows new both.1)))
    (λ higher.
    rw (placed_higher row rows new higher)
    (and_from _ _ (and_from _ _ (lt-ltb new.glyph row.glyph higher) (above_below rows row.glyph new.glyph both.0 (omega arith))) ordered)))
    (cases_order row.glyph new.glyph)

pub length-placed_new : (rows : List GlyphRow) (new : GlyphRow) → length (placed rows new) ≤ length rows + 1
length-placed_new [] new = omega arith
length-placed_new (row ∷ rows) new = grind (arith, common_steps, length-placed_new rows new)

-- a glyph that has a row takes no other
pub length-placed_known : (rows : List GlyphRow) (new : GlyphRow) → ascending rows ≡ true → is_some (row_of rows new.glyph) ≡ true → length (placed rows new) ≡ length rows
length-placed_known [] new ordered known = absurd (false≢true known)
length-placed_known (row ∷ rows) new ordered known =
    let both = and_parts (all_above row.glyph rows) (ascending rows) ordered in
    ⊎_elim
    (λ here. rw (placed_same row rows new here) refl)
    (⊎_elim
    (λ lower.
    let rest = rw (row_other row rows new.glyph (λ e. omega arith)) at known in
    rw (placed_lower row rows new lower) (omega (arith, length-placed_known rows new both.1 rest)))
    (λ higher.
    let none = row_other row rows new.glyph (λ e. omega arith) ∙ none_above rows row.glyph new.glyph both.0 (omega arith) in
    absurd (false≢true (rw none at known))))
    (cases_order row.glyph new.glyph)

-- ---- reading after a set

pub row_after : (rows : List GlyphRow) (new : GlyphRow) → row_of (placed rows new) new.glyph ≡ Some new
row_after [] new = row_first new [] new.glyph refl
row_after (row ∷ rows) new = grind (arith, common_steps, row_after rows new)

pub row_after_other : (rows : List GlyphRow) (new : GlyphRow) (glyph : ℕ) → (glyph ≡ new.glyph → ⊥) → row_of (placed rows new) glyph ≡ row_of rows glyph
row_after_other [] new glyph other = grind (arith, common_steps)
row_after_other (row ∷ rows) new glyph other = grind (arith, common_steps, row_after_other rows new glyph other)

-- ---- what `find` answers

pub found_at : (rows : List GlyphRow) (glyph place : ℕ) → place ≡ place_of rows glyph → place < length rows → (get_or rows place (new_row 0)).glyph ≡ glyph → Found rows glyph place
found_at rows glyph place is within same =
    let P : ℕ → Type 0 = λ n. n < length rows → (get_or rows n (new_row 0)).glyph ≡ glyph → Found rows glyph n in
    let here : P (place_of rows glyph) = λ w e. record {
      within = w;
      row = row_found rows glyph (new_row 0) w e;
      put = λ new named. let Q : ℕ → Type 0 = λ g. place_of rows g < length rows → (get_or rows (place_of rows g) (new_row 0)).glyph ≡ g → placed rows new ≡ set rows (place_of rows g) new in subst Q named (placed_over rows new (new_row 0)) w e;
    } in
    subst P (sym is) here within same

pub missing_at : (rows : List GlyphRow) (glyph place : ℕ) → place ≡ place_of rows glyph → ascending rows ≡ true → (place < length rows → (get_or rows place (new_row 0)).glyph ≡ glyph → ⊥) → Missing rows glyph place
missing_at rows glyph place is ordered absent =
    let P : ℕ → Type 0 = λ n. (n < length rows → (get_or rows n (new_row 0)).glyph ≡ glyph → ⊥) → Missing rows glyph n in
    let here : P (place_of rows glyph) = λ a. record {
      within = place_within rows glyph;
      row = row_missing rows glyph (new_row 0) ordered a;
      put = λ new named. let Q : ℕ → Type 0 = λ g. (place_of rows g < length rows → (get_or rows (place_of rows g) (new_row 0)).glyph ≡ g → ⊥) → placed rows new ≡ insert rows (place_of rows g) new in subst Q named (placed_between rows new (new_row 0)) a;
    } in
    subst P (sym is) here absent

-- ---- what a binary search answers

above_each : (rows : List GlyphRow) (low k : ℕ) (d : GlyphRow) → all_above low rows ≡ true → k < length rows → low < (get_or rows k d).glyph
above_each [] low k d above within = absurd (omega arith)
above_each (row ∷ rows) low zero d above within = grind (arith, common_steps)
above_each (row ∷ rows) low (suc k) d above within = grind (arith, common_steps, above_each rows low k d)

-- in rows that ascend a row further back has a higher glyph
pub ascends : (rows : List GlyphRow) (i j : ℕ) (d : GlyphRow) → ascending rows ≡ true → i < j → j < length rows → (get_or rows i d).glyph < (get_or rows j d).glyph
ascends [] i j d ordered less within = absurd (omega arith)
ascends (row ∷ rows) i zero d ordered less within = absurd (omega arith)
ascends (row ∷ rows) zero (suc j) d ordered less within = above_each rows row.glyph j d (and_parts (all_above row.glyph rows) (ascending rows) ordered).0 (omega arith)
ascends (row ∷ rows) (suc i) (suc j) d ordered less within = ascends rows i j d (and_parts (all_above row.glyph rows) (ascending rows) ordered).1 (omega arith) (omega arith)

module _ (rows : List GlyphRow) (ordered : ascending rows ≡ true) (glyph : ℕ) where
  comparisons_rise : IsNonDecreasingBy (λ row. ordering_index (nat_cmp row.glyph glyph)) rows
  comparisons_rise i j d le within =
      let rise : (get_or rows i d).glyph ≤ (get_or rows j d).glyph = grind (arith, ascends rows i j d ordered, λ (same : i ≡ j). ap (λ k. (get_or rows k d).glyph) same) in
      grind (arith, nat_tests)

  -- a binary search ends at the glyph's row, or at the place for it
  pub searched : (r : Result ℕ ℕ) → IsSearchInRange r (length rows) → IsBinarySearchResult (λ row. nat_cmp row.glyph glyph) rows r → MatchResult r (Found rows glyph) (Missing rows glyph)
  searched (Ok place) within equal =
      let same : (get_or rows place (new_row 0)).glyph ≡ glyph = ranked _ glyph _ (sym (equal (new_row 0))) in
      let is = place_is rows glyph place (omega arith) (λ k less. omega (arith, ascends rows k place (new_row 0) ordered less within)) (λ _. omega arith) in
      found_at rows glyph place is within same
  searched (Err place) within parted =
      let parts = parted comparisons_rise in
      let lower : (k : ℕ) → k < place → (get_or rows k (new_row 0)).glyph < glyph = λ k less. ranked _ glyph _ (sym (parts.0 k (new_row 0) (omega arith) less)) in
      let higher : place < length rows → glyph < (get_or rows place (new_row 0)).glyph = λ less. ranked _ glyph _ (sym (parts.1 place (new_row 0) (omega arith) less)) in
      missing_at rows glyph place (place_is rows glyph place within lower (λ less. omega (arith, higher less))) ordered (λ less e. omega (arith, higher less))
