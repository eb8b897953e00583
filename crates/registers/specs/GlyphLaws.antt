-- What a reader expects of the glyph register.
use Rattle.std.specs.Prelude.{◌≡◌, ◌≤◌, true, List, length, Some, ◌≢◌}
use Rattle.terms.specs.declared.requests.Request.{Request}
use Rattle.service.specs.Laws.{FailureChangesNothing, FailureHasNoValue}
use Rattle.registers.specs.declared.glyph_rows.GlyphRow.{GlyphRow}
use Rattle.registers.specs.declared.operations.Measure.{Measure}
use Rattle.registers.specs.declared.operations.Operation.TheVariants.{Set, Read}
use Rattle.registers.specs.Operations.{operation_of}
use Rattle.registers.specs.Rows.{ascending, measure_of}
use Rattle.registers.specs.Glyphs.{places, has_place, row_or_new, glyph_reply, glyph_next}

-- a request that sets, or reads, one of a glyph's numbers
abbrev pub Sets : Measure → Request → Type 0
Sets measure r = operation_of r.code ≡ Some (Set measure)

abbrev pub Reads : Measure → Request → Type 0
Reads measure r = operation_of r.code ≡ Some (Read measure)

pub record GlyphLaws : Type 0 where
  -- a read changes nothing
  pub reads : (rows : List GlyphRow) (measure : Measure) (r : Request) → Reads measure r → glyph_next rows r ≡ rows
  -- a set that succeeded, and then a read of the same number of the same glyph: what was set
  pub same_number : (rows : List GlyphRow) (measure : Measure) (set read : Request) → Sets measure set → (glyph_reply rows set).0 ≡ 0 → Reads measure read → read.key ≡ set.key
      → glyph_reply (glyph_next rows set) read ≡ (0, set.value)
  -- a read of the glyph's other number: what it was, or 0 for a new glyph
  pub other_number : (rows : List GlyphRow) (measure other : Measure) (set read : Request) → (other ≢ measure) → Sets measure set → (glyph_reply rows set).0 ≡ 0 → Reads other read → read.key ≡ set.key
      → glyph_reply (glyph_next rows set) read ≡ (0, measure_of other (row_or_new rows set.key))
  -- after any request the other glyphs read as before
  pub other_glyph : (rows : List GlyphRow) (measure : Measure) (r read : Request) → Reads measure read → (read.key ≢ r.key) → glyph_reply (glyph_next rows r) read ≡ glyph_reply rows read
  -- rows stay ascending, and at most 64
  pub ordered : (rows : List GlyphRow) (r : Request) → ascending rows ≡ true → ascending (glyph_next rows r) ≡ true
  pub few : (rows : List GlyphRow) (r : Request) → ascending rows ≡ true → length rows ≤ places → length (glyph_next rows r) ≤ places
  -- a status other than 0 changes nothing and has value 0
  pub quiet : FailureChangesNothing glyph_next glyph_reply
  pub valueless : FailureHasNoValue glyph_next glyph_reply
  -- an advance of 65,535 is set where there is a place, and one of 65,536 is status 1
  pub largest : (rows : List GlyphRow) (r : Request) → r.code ≡ 1 → r.value ≡ 65535 → has_place rows r.key ≡ true → glyph_reply rows r ≡ (0, 65535)
  pub too_large : (rows : List GlyphRow) (r : Request) → r.code ≡ 1 → r.value ≡ 65536 → glyph_reply rows r ≡ (1, 0)
