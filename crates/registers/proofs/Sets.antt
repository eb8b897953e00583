-- A set of one number: the row that it makes, its answer and what it leaves.
use Rattle.std.proofs.lemmas.Grind.{common_steps}
use Rattle.std.proofs.Common.{arith}
use Rattle.std.proofs.Common.{◌≡◌, ℕ, ◌≤◌, false, List, [], ◌∷◌, refl, ◌∙◌}
use Rattle.registers.specs.declared.glyph_rows.GlyphRow.{GlyphRow}
use Rattle.registers.specs.declared.operations.Measure.{Measure}
use Rattle.registers.specs.declared.operations.Measure.TheVariants.{Advance, Bearing}
use Rattle.registers.specs.Rows.{with_measure}
use Rattle.registers.specs.Glyphs.{largest_measure, has_place, row_or_new, set_reply, after_set}

measure_keeps_glyph : (measure : Measure) (value : ℕ) (row : GlyphRow) → (with_measure measure value row).glyph ≡ row.glyph
measure_keeps_glyph Advance value row = refl
measure_keeps_glyph Bearing value row = refl

-- the row that is found has the glyph that was asked for
row_or_new_glyph : (rows : List GlyphRow) (glyph : ℕ) → (row_or_new rows glyph).glyph ≡ glyph
row_or_new_glyph [] glyph = refl
row_or_new_glyph (row ∷ rows) glyph = grind (arith, common_steps, row_or_new_glyph rows glyph)

pub set_glyph : (rows : List GlyphRow) (measure : Measure) (glyph value : ℕ) → (with_measure measure value (row_or_new rows glyph)).glyph ≡ glyph
set_glyph rows measure glyph value = measure_keeps_glyph measure value (row_or_new rows glyph) ∙ row_or_new_glyph rows glyph

module _ (rows : List GlyphRow) (measure : Measure) (glyph value : ℕ) (small : value ≤ largest_measure) where
  pub set_refused : has_place rows glyph ≡ false → (set_reply rows glyph value ≡ (2, 0)) × (after_set rows measure glyph value ≡ rows)
  set_refused none = grind arith
