-- The laws of the glyph register.
use Rattle.std.proofs.lemmas.Grind.{common_steps}
use Rattle.std.proofs.Common.{◌≡◌, ℕ, ◌≤◌, true, ltb, ◌⊎◌, List, length, is_some, Some, None, Option, refl, ap, ◌∙◌, ⊎_elim, arith}
use Rattle.std.proofs.lemmas.Bool.{or_cases, ltb-true}
use Rattle.terms.specs.declared.requests.Request.{Request}
use Rattle.service.specs.Laws.{Valueless}
use Rattle.registers.specs.declared.glyph_rows.GlyphRow.{GlyphRow}
use Rattle.registers.specs.declared.operations.Measure.{Measure}
use Rattle.registers.specs.declared.operations.Measure.TheVariants.{Advance, Bearing}
use Rattle.registers.specs.declared.operations.Operation.{Operation}
use Rattle.registers.specs.declared.operations.Operation.TheVariants.{Set, Read}
use Rattle.registers.specs.GlyphLaws.{Sets, Reads, GlyphLaws}
use Rattle.registers.specs.Operations.{operation_of}
use Rattle.registers.specs.Rows.{measure_of, with_measure, row_of, placed, ascending}
use Rattle.registers.specs.Glyphs.{places, has_place, row_or_new, set_reply, read_reply, after_set, operation_reply, after_operation, glyph_reply, glyph_next}
use Rattle.registers.proofs.Places.{row_after, row_after_other, placed_ascends, length-placed_new, length-placed_known}
use Rattle.registers.proofs.Sets.{set_glyph}

-- ---- a set succeeds, or leaves everything

module _ (rows : List GlyphRow) (measure : Measure) (glyph value : ℕ) where
  record Stands : Type 0 where
    some : has_place rows glyph ≡ true
    reply : set_reply rows glyph value ≡ (0, value)
    after : after_set rows measure glyph value ≡ placed rows (with_measure measure value (row_or_new rows glyph))

  record Fails : Type 0 where
    reply : (set_reply rows glyph value).0 ≡ 0 → ⊥
    after : after_set rows measure glyph value ≡ rows

  set_cases : Stands ⊎ Fails
  set_cases = grind arith

  ordered_set : ascending rows ≡ true → ascending (after_set rows measure glyph value) ≡ true
  ordered_set ordered =
      ⊎_elim
      (λ (stands : Stands). ap ascending stands.after ∙ placed_ascends rows _ ordered)
      (λ (fails : Fails). ap ascending fails.after ∙ ordered)
      set_cases

  few_set : ascending rows ≡ true → length rows ≤ places → length (after_set rows measure glyph value) ≤ places
  few_set ordered few =
      let new = with_measure measure value (row_or_new rows glyph) in
      let named = set_glyph rows measure glyph value in
      ⊎_elim
      (λ (stands : Stands). rw stands.after (⊎_elim
      (λ known. omega (arith, length-placed_known rows new ordered (rw named known)))
      (λ free. omega (arith, length-placed_new rows new, ltb-true (length rows) places free))
      (or_cases (is_some (row_of rows glyph)) (ltb (length rows) places) stands.some)))
      (λ (fails : Fails). rw fails.after few)
      set_cases

  -- what a set that succeeded leaves at its glyph
  row_set : (set_reply rows glyph value).0 ≡ 0 → row_of (after_set rows measure glyph value) glyph ≡ Some (with_measure measure value (row_or_new rows glyph))
  row_set ok =
      let new = with_measure measure value (row_or_new rows glyph) in
      let named = set_glyph rows measure glyph value in
      ⊎_elim
      (λ (stands : Stands). rw stands.after (rw named at (row_after rows new)))
      (λ (fails : Fails). absurd (fails.reply ok))
      set_cases

  row_set_other : (other : ℕ) → (other ≡ glyph → ⊥) → row_of (after_set rows measure glyph value) other ≡ row_of rows other
  row_set_other other apart =
      let new = with_measure measure value (row_or_new rows glyph) in
      let named = set_glyph rows measure glyph value in
      ⊎_elim
      (λ (stands : Stands). rw stands.after (row_after_other rows new other (λ e. apart (e ∙ named))))
      (λ (fails : Fails). rw fails.after refl)
      set_cases

-- ---- a row with one number set

measure_same : (measure : Measure) (value : ℕ) (row : GlyphRow) → measure_of measure (with_measure measure value row) ≡ value
measure_same Advance value row = refl
measure_same Bearing value row = refl

measure_other : (measure other : Measure) (value : ℕ) (row : GlyphRow) → (other ≡ measure → ⊥) → measure_of other (with_measure measure value row) ≡ measure_of other row
measure_other Advance Advance value row apart = absurd (apart refl)
measure_other Advance Bearing value row apart = refl
measure_other Bearing Advance value row apart = refl
measure_other Bearing Bearing value row apart = absurd (apart refl)

-- ---- replies without a value

-- ---- by operation

module _ (rows : List GlyphRow) (r : Request) where
  ordered_by : (o : Option Operation) → ascending rows ≡ true → ascending (after_operation rows r o) ≡ true
  ordered_by None ordered = ordered
  ordered_by (Some (Set measure)) ordered = ordered_set rows measure r.key r.value ordered
  ordered_by (Some (Read measure)) ordered = ordered

  few_by : (o : Option Operation) → ascending rows ≡ true → length rows ≤ places → length (after_operation rows r o) ≤ places
  few_by None ordered few = few
  few_by (Some (Set measure)) ordered few = few_set rows measure r.key r.value ordered few
  few_by (Some (Read measure)) ordered few = few

  quiet_by : (o : Option Operation) → ((operation_reply rows r o).0 ≡ 0 → ⊥) → after_operation rows r o ≡ rows
  quiet_by None failed = refl
  quiet_by (Some (Set measure)) failed = grind (arith, common_steps)
  quiet_by (Some (Read measure)) failed = refl

  valueless_by : (o : Option Operation) → Valueless (operation_reply rows r o)
  valueless_by None = λ _. refl
  valueless_by (Some (Set measure)) = grind (arith, common_steps)
  valueless_by (Some (Read measure)) = grind (arith, common_steps)

  other_by : (o : Option Operation) (other : ℕ) → (other ≡ r.key → ⊥) → row_of (after_operation rows r o) other ≡ row_of rows other
  other_by None other apart = refl
  other_by (Some (Set measure)) other apart = row_set_other rows measure r.key r.value other apart
  other_by (Some (Read measure)) other apart = refl

module _ (rows : List GlyphRow) (measure : Measure) (set read : Request) where
  -- the reply to a read after a set that succeeded
  read_after_set : (other : Measure) → Sets measure set → (glyph_reply rows set).0 ≡ 0 → Reads other read → read.key ≡ set.key → glyph_reply (glyph_next rows set) read ≡ (0, measure_of other (with_measure measure set.value (row_or_new rows set.key)))
  read_after_set other sets ok reads same =
      let done = rw sets at ok in
      let row = row_set rows measure set.key set.value done in
      rw (reads, sets, same, row) refl

pub glyph_laws : GlyphLaws
glyph_laws = record {
  reads = λ rows measure r reads. rw reads refl;
  same_number = λ rows measure set read sets ok reads same. read_after_set rows measure set read measure sets ok reads same ∙ ap (λ n. (0, n)) (measure_same measure set.value (row_or_new rows set.key));
  other_number = λ rows measure other set read apart sets ok reads same. read_after_set rows measure set read other sets ok reads same ∙ ap (λ n. (0, n)) (measure_other measure other set.value (row_or_new rows set.key) apart);
  other_glyph = λ rows measure r read reads apart. rw reads (ap (read_reply measure) (other_by rows r (operation_of r.code) read.key apart));
  ordered = λ rows r ordered. ordered_by rows r (operation_of r.code) ordered;
  few = λ rows r ordered few. few_by rows r (operation_of r.code) ordered few;
  quiet = λ rows r failed. quiet_by rows r (operation_of r.code) failed;
  valueless = λ rows r. valueless_by rows r (operation_of r.code);
  largest = λ rows r code value some. rw (code, value, some) refl;
  too_large = λ rows r code value. rw (code, value) refl;
}
