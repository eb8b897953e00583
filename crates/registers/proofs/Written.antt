-- The written glyph register: its row count, then its rows.
use Rattle.std.proofs.Common.{◌≡◌, ℕ, ◌+◌, ◌*◌, ◌<◌, ◌≤◌, List, length, Some, None, sym, arith, rules}
use Rattle.std.specs.List.{flat_map, AllByRecursion}
use Rattle.xdr.specs.Layout.{int, counted}
use Rattle.xdr.specs.Writing.{Room, wrote}
use Rattle.xdr.specs.declared.writer.Writer.{Writer}
use Rattle.xdr.proofs.Listing.{length-joined, length-counted}
use Rattle.xdr.proofs.Writing.{wrote_more, room_behind}
use Rattle.xdr.proofs.Widths.{every}
use Rattle.service.specs.Writing.{written_into}
use Rattle.service.proofs.Writes.{written_by, written_nothing}
use Rattle.registers.specs.declared.glyph_rows.GlyphRow.{GlyphRow}
use Rattle.registers.specs.Glyphs.{glyphs_written}
use Rattle.registers.specs.Rows.{row_bytes}

twelve_bytes : (rows : List GlyphRow) → AllByRecursion (λ row. length (row_bytes row) ≡ 12) rows
twelve_bytes rows = every (λ row. length (row_bytes row) ≡ 12) (λ row. search rules) rows

pub written_length : (rows : List GlyphRow) → length (glyphs_written rows) ≡ 4 + 12 * length rows
written_length rows = length-counted row_bytes 12 rows (twelve_bytes rows)

pub none_written : (rows : List GlyphRow) (buffer : List ℕ) → length buffer < 4 + 12 * length rows → (None, buffer) ≡ written_into (glyphs_written rows) buffer
none_written rows buffer short = sym (written_nothing _ buffer (omega (arith, written_length rows)))

-- behind the count there is room for the rows
pub rows_fit : (rows : List GlyphRow) (w after : Writer) → w.position ≡ 0 → 4 + 12 * length rows ≤ length w.out.now → after ≡ wrote w (int (length rows)) → Room after (12 * length rows)
rows_fit rows w after front fits count = room_behind w after (int (length rows)) (12 * length rows) (omega (arith, front)) count

-- the count is written, and then the rows behind it
pub all_written : (rows : List GlyphRow) (w : Writer) → w.position ≡ 0 → 4 + 12 * length rows ≤ length w.out.now
    → (Some (wrote (wrote w (int (length rows))) (flat_map row_bytes rows)).position, (wrote (wrote w (int (length rows))) (flat_map row_bytes rows)).out.now) ≡ written_into (glyphs_written rows) w.out.now
unfolding counted
all_written rows w front fits =
    let rest = length-joined row_bytes 12 rows (twelve_bytes rows) in
    written_by w _ (glyphs_written rows) front (omega (arith, written_length rows)) (wrote_more w (int (length rows)) (flat_map row_bytes rows) (omega (arith, front, rest)))
