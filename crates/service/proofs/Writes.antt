-- What the answer of a write says of the buffer.
use Rattle.std.proofs.Common.{◌≡◌, ℕ, ◌<◌, ◌≤◌, List, length, Some, None, Option, sym, zero-add, arith}
use Rattle.xdr.specs.Layout.{pasted}
use Rattle.xdr.specs.Writing.{wrote}
use Rattle.xdr.specs.declared.writer.Writer.{Writer}
use Rattle.service.specs.Writing.{written_into}

pub written_whole : (bytes buffer : List ℕ) → length bytes ≤ length buffer → written_into bytes buffer ≡ (Some (length bytes), pasted buffer 0 bytes)
written_whole bytes buffer fits = grind arith

pub written_nothing : (bytes buffer : List ℕ) → length buffer < length bytes → written_into bytes buffer ≡ (None, buffer)
written_nothing bytes buffer short = grind arith

-- bytes that a writer wrote from its front
pub written_by : (w after : Writer) (bytes : List ℕ) → w.position ≡ 0 → length bytes ≤ length w.out.now → after ≡ wrote w bytes → (Some after.position, after.out.now) ≡ written_into bytes w.out.now
written_by w after bytes front fits e = rw (e, front, zero-add) (sym (written_whole bytes w.out.now fits))

-- bytes that were written fit
pub fits_from_some : (bytes buffer after : List ℕ) (n : ℕ) → (Some n, after) ≡ written_into bytes buffer → (length bytes ≤ length buffer) × (n ≡ length bytes) × (after ≡ pasted buffer 0 bytes)
fits_from_some bytes buffer after n e = grind arith

-- bytes that were not written do not fit
pub short_from_none : (bytes buffer after : List ℕ) → (None, after) ≡ written_into bytes buffer → (length buffer < length bytes) × (after ≡ buffer)
short_from_none bytes buffer after e = grind arith

-- two answers of a write, part by part
pub same_answer : (m n : ℕ) (bytes others : List ℕ) → m ≡ n → bytes ≡ others → ◌≡◌ {A = Option ℕ × List ℕ} (Some m, bytes) (Some n, others)
same_answer m n bytes others e f = cc
