-- The written sessions: the rows of all clients in front, the state below behind them.
use Rattle.std.proofs.lemmas.Grind.{common_steps}
use Rattle.std.proofs.Common.{◌≡◌, ℕ, ◌+◌, ◌-◌, ◌*◌, ◌<◌, ◌≤◌, List, length, take, drop, Some, None, sym, refl, ap, ◌∙◌, arith, length-append, length-drop, rules}
use borrow.Rule.Slice.PartMut.{put_mid}
use Rattle.std.specs.List.{flat_map}
use Rattle.std.proofs.lemmas.List.{take_rest}
use Rattle.xdr.specs.Layout.{pasted}
use Rattle.xdr.specs.Writing.{wrote}
use Rattle.xdr.specs.declared.writer.Writer.{Writer}
use Rattle.xdr.proofs.Listing.{length-joined}
use Rattle.xdr.proofs.Pasting.{pasted_behind}
use Rattle.xdr.proofs.Widths.{every}
use Rattle.service.specs.declared.kept.Kept.{Kept}
use Rattle.service.specs.Kept.{kept_bytes}
use Rattle.service.specs.Sessions.{clients, session_written}
use Rattle.service.specs.Writing.{written_into}
use Rattle.service.proofs.Writes.{written_whole, written_nothing, fits_from_some, short_from_none, same_answer}

-- the rest of a buffer, handed back as it was
put_back : (buffer rest : List ℕ) (n k : ℕ) → k ≡ length buffer - n → n ≤ length buffer → rest ≡ drop n buffer → put_mid n k buffer rest ≡ buffer
put_back buffer rest n k e within same = grind (arith, common_steps)

pub length-rows : (kept : List Kept) → length kept ≡ clients → length (flat_map kept_bytes kept) ≡ 192
length-rows kept full = length-joined kept_bytes 12 kept (every (λ k. length (kept_bytes k) ≡ 12) (λ k. search rules) kept) ∙ ap (λ n. 12 * n) full

-- the part of a buffer behind the rows
abbrev behind : List ℕ → List ℕ
behind buffer = take (length buffer - 192) (drop 192 buffer)

length-behind : (buffer : List ℕ) → length (behind buffer) ≡ length buffer - 192
length-behind buffer = ap length (take_rest buffer 192) ∙ length-drop 192 buffer

module _ {St : Type 0} (written : St → List ℕ) (kept : List Kept) (below : St) (full : length kept ≡ clients) where
  pub length-written : length (session_written written (kept, below)) ≡ 192 + length (written below)
  length-written = let rows = length-rows kept full in simp length-append (omega arith)

  -- no room for the rows
  pub rows_short : (buffer : List ℕ) → length buffer < 192 → (None, buffer) ≡ written_into (session_written written (kept, below)) buffer
  rows_short buffer short = sym (written_nothing _ buffer (omega (arith, length-written)))

  -- no room for the state below
  pub below_short : (buffer rest : List ℕ) → 192 ≤ length buffer → (None, rest) ≡ written_into (written below) (behind buffer) → (None, put_mid 192 (length buffer - 192) buffer rest) ≡ written_into (session_written written (kept, below)) buffer
  below_short buffer rest within none =
      let why = short_from_none (written below) (behind buffer) rest none in
      let short = why.0 in
      let same : put_mid 192 (length buffer - 192) buffer rest ≡ buffer = put_back buffer rest 192 _ refl within (why.1 ∙ take_rest buffer 192) in
      ap (λ b. (None, b)) same ∙ sym (written_nothing _ buffer (omega (arith, length-written, length-behind buffer)))

  -- both are written, the rows by a writer over the whole buffer
  pub both_written : (buffer rest : List ℕ) (n : ℕ) (w : Writer) → 192 ≤ length buffer → (Some n, rest) ≡ written_into (written below) (behind buffer) → w.position ≡ 0 → w.out.now ≡ put_mid 192 (length buffer - 192) buffer rest
      → (Some ((wrote w (flat_map kept_bytes kept)).position + n), (wrote w (flat_map kept_bytes kept)).out.now) ≡ written_into (session_written written (kept, below)) buffer
  both_written buffer rest n w within some start lent =
      let why = fits_from_some (written below) (behind buffer) rest n some in
      let fits = why.0 in
      let long = why.1 in
      let back : rest ≡ pasted (drop 192 buffer) 0 (written below) = why.2 ∙ ap (λ (b : List ℕ). pasted b 0 (written below)) (take_rest buffer 192) in
      let front = pasted_behind buffer 192 (length buffer - 192) (flat_map kept_bytes kept) (written below) (length-rows kept full) within refl (omega (arith, length-behind buffer)) in
      let whole : pasted w.out.now w.position (flat_map kept_bytes kept) ≡ pasted buffer 0 (session_written written (kept, below)) = rw (start, lent, back) front in
      let number : w.position + length (flat_map kept_bytes kept) + n ≡ length (session_written written (kept, below)) = omega (arith, start, length-rows kept full, length-written) in
      same_answer _ _ _ _ number whole ∙ sym (written_whole _ buffer (omega (arith, length-written, length-behind buffer)))

  -- and their length is a buffer's length at most
  pub both_within : (buffer rest : List ℕ) (n : ℕ) → 192 ≤ length buffer → (Some n, rest) ≡ written_into (written below) (behind buffer) → 192 + n ≤ length buffer
  both_within buffer rest n within some = grind (arith, common_steps)
