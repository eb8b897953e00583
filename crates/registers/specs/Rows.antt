-- The glyph register's rows: looking one up, setting one in its place, and their order.
use Rattle.std.specs.Prelude.{◌≡◌, ℕ, ◌<◌, ◌≤◌, Bool, true, if◌then◌else◌, ◌&&◌, List, [], ◌∷◌, length, Some, None, Option, ◌==◌, nat_lt, slice_index_or, slice_set}
use Rattle.std.specs.List.{flat_map, insert}
use Rattle.xdr.specs.Layout.{int}
use Rattle.registers.specs.declared.glyph_rows.GlyphRow.{GlyphRow}
use Rattle.registers.specs.declared.operations.Measure.{Measure}
use Rattle.registers.specs.declared.operations.Measure.TheVariants.{Advance, Bearing}

-- the row of a glyph of which nothing was set yet
abbrev pub new_row : ℕ → GlyphRow
new_row glyph = record { glyph = glyph; advance = 0; bearing = 0 }

-- one of a row's numbers
abbrev pub measure_of : Measure → GlyphRow → ℕ
measure_of Advance row = row.advance
measure_of Bearing row = row.bearing

-- the row with one of its numbers set
abbrev pub with_measure : Measure → ℕ → GlyphRow → GlyphRow
with_measure Advance value row = record { glyph = row.glyph; advance = value; bearing = row.bearing }
with_measure Bearing value row = record { glyph = row.glyph; advance = row.advance; bearing = value }

-- glyph, advance, bearing
abbrev pub row_bytes : GlyphRow → List ℕ
row_bytes row = flat_map int (row.glyph ∷ row.advance ∷ row.bearing ∷ [])

-- the row of a glyph, where there is one
abbrev pub row_of : List GlyphRow → ℕ → Option GlyphRow
row_of [] glyph = None
row_of (row ∷ rows) glyph = if row.glyph == glyph then Some row else row_of rows glyph

-- the rows with one more in its place, or in the place of the row that its glyph had
abbrev pub placed : List GlyphRow → GlyphRow → List GlyphRow
placed [] new = new ∷ []
placed (row ∷ rows) new =
    if nat_lt row.glyph new.glyph then row ∷ placed rows new else
    if row.glyph == new.glyph then new ∷ rows else
    new ∷ row ∷ rows

-- every row's glyph is above this one
abbrev pub all_above : ℕ → List GlyphRow → Bool
all_above glyph [] = true
all_above glyph (row ∷ rows) = nat_lt glyph row.glyph && all_above glyph rows

-- every row's glyph is below all that follow
abbrev pub ascending : List GlyphRow → Bool
ascending [] = true
ascending (row ∷ rows) = all_above row.glyph rows && ascending rows

-- a glyph's row stands at this place
pub record Found (rows : List GlyphRow) (glyph place : ℕ) : Type 0 where
  pub within : place < length rows
  pub row : row_of rows glyph ≡ Some (slice_index_or rows place (new_row 0))
  pub put : (new : GlyphRow) → new.glyph ≡ glyph → placed rows new ≡ slice_set rows place new

-- a glyph has no row, and would have it at this place
pub record Missing (rows : List GlyphRow) (glyph place : ℕ) : Type 0 where
  pub within : place ≤ length rows
  pub row : row_of rows glyph ≡ None
  pub put : (new : GlyphRow) → new.glyph ≡ glyph → placed rows new ≡ insert rows place new
