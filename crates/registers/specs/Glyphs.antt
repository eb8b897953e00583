-- The glyph register: what a request answers and leaves.
use Rattle.std.specs.Prelude.{ℕ, Bool, true, false, if◌then◌else◌, Ok, Err, Result, ◌&&◌, ◌||◌, List, length, is_some, Some, None, Option, nat_le, nat_lt}
use Rattle.std.specs.Option.{unwrap_or}
use Rattle.terms.specs.declared.requests.Request.{Request}
use Rattle.xdr.specs.Layout.{counted}
use Rattle.service.specs.declared.failures.Failure.{Failure}
use Rattle.service.specs.declared.failures.Failure.TheVariants.{NotAvailable}
use Rattle.registers.specs.declared.glyph_rows.GlyphRow.{GlyphRow}
use Rattle.registers.specs.declared.operations.Measure.{Measure}
use Rattle.registers.specs.declared.operations.Operation.{Operation}
use Rattle.registers.specs.declared.operations.Operation.TheVariants.{Set, Read}
use Rattle.registers.specs.Operations.{operation_of}
use Rattle.registers.specs.Rows.{new_row, measure_of, with_measure, row_bytes, row_of, placed}

-- the register has so many places
abbrev pub places : ℕ
places = 64

-- the largest number that can be set
abbrev pub largest_measure : ℕ
largest_measure = 65535

-- a glyph can be set if it has a row or finds a free place
abbrev pub has_place : List GlyphRow → ℕ → Bool
has_place rows glyph = is_some (row_of rows glyph) || nat_lt (length rows) places

-- what becomes of a row that is put where its glyph belongs: without a place it is not available
abbrev pub put_outcome : Bool → Result Unit Failure
put_outcome true = Ok tt
put_outcome false = Err NotAvailable

-- a glyph's row, or a new one
abbrev pub row_or_new : List GlyphRow → ℕ → GlyphRow
row_or_new rows glyph = unwrap_or (row_of rows glyph) (new_row glyph)

-- a value above the largest: status 1; no place for the glyph: status 2; else the value now held
abbrev pub set_reply : List GlyphRow → ℕ → ℕ → ℕ × ℕ
set_reply rows glyph value = if nat_lt largest_measure value then (1, 0) else (if has_place rows glyph then (0, value) else (2, 0))

-- an unknown glyph: status 2
abbrev pub read_reply : Measure → Option GlyphRow → ℕ × ℕ
read_reply measure None = (2, 0)
read_reply measure (Some row) = (0, measure_of measure row)

-- another code: status 1
abbrev pub operation_reply : List GlyphRow → Request → Option Operation → ℕ × ℕ
operation_reply rows r None = (1, 0)
operation_reply rows r (Some (Set measure)) = set_reply rows r.key r.value
operation_reply rows r (Some (Read measure)) = read_reply measure (row_of rows r.key)

abbrev pub glyph_reply : List GlyphRow → Request → ℕ × ℕ
glyph_reply rows r = operation_reply rows r (operation_of r.code)

-- a set that succeeds puts the number into the glyph's row; a new glyph's other number is 0
abbrev pub after_set : List GlyphRow → Measure → ℕ → ℕ → List GlyphRow
after_set rows measure glyph value = if nat_le value largest_measure && has_place rows glyph then placed rows (with_measure measure value (row_or_new rows glyph)) else rows

-- nothing else changes anything
abbrev pub after_operation : List GlyphRow → Request → Option Operation → List GlyphRow
after_operation rows r None = rows
after_operation rows r (Some (Set measure)) = after_set rows measure r.key r.value
after_operation rows r (Some (Read measure)) = rows

abbrev pub glyph_next : List GlyphRow → Request → List GlyphRow
glyph_next rows r = after_operation rows r (operation_of r.code)

-- the row count, then each row, ascending by glyph
abbrev pub glyphs_written : List GlyphRow → List ℕ
glyphs_written rows = counted row_bytes rows
