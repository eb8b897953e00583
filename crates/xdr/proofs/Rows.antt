-- Rows: counted lists whose elements have one width, read as one part of the bytes.
use Rattle.std.proofs.Common.{◌≡◌, ℕ, zero, suc, ◌+◌, ◌*◌, List, ◌∷◌, ◌++◌, length, take, drop, Some, None, Option, sym, refl, ap, ◌∙◌, ⊎_elim, mul-zero, mul-suc, arith}
use Rattle.std.specs.Option.{option_map}
use Rattle.std.proofs.lemmas.Bool.{cases_lt}
use Rattle.xdr.specs.Laws.{RowsExact, RowsJoin, together}
use Rattle.xdr.specs.Reading.{and_then, opaque_from, count_from, times_from}
use Rattle.xdr.proofs.Listing.{lists_exact}
use Rattle.xdr.proofs.Opaque.{opaque_there, opaque_short, opaque_more, opaques_exact}

pub rows_exact : RowsExact
rows_exact width most small = lists_exact (opaques_exact width) most small

-- a first row, joined to the others
mapped_more : (row : List ℕ) (o : Option (List (List ℕ) × List ℕ)) → option_map together (and_then o (λ rows rest. Some (row ∷ rows, rest))) ≡ and_then (option_map together o) (λ part rest. Some (row ++ part, rest))
mapped_more row None = refl
mapped_more row (Some p) = refl

row_by_row : (width n : ℕ) (bytes : List ℕ) → opaque_from (width * n) bytes ≡ option_map together (times_from (opaque_from width) n bytes)
unfolding times_from
row_by_row width zero bytes = rw mul-zero (opaque_there 0 bytes (omega arith))
row_by_row width (suc n) bytes =
    ⊎_elim
    (λ short. opaque_short (width * suc n) bytes (omega (arith, mul-suc width n)) ∙ rw (opaque_short width bytes short))
    (λ there.
    let more : width * suc n ≡ width + width * n = omega (arith, mul-suc width n) in
    ap (λ (k : ℕ). opaque_from k bytes) more
    ∙ sym (opaque_more width (width * n) bytes there)
    ∙ ap (λ (o : Option (List ℕ × List ℕ)). and_then o (λ part rest. Some (take width bytes ++ part, rest))) (row_by_row width n (drop width bytes))
    ∙ sym (mapped_more (take width bytes) (times_from (opaque_from width) n (drop width bytes)))
    ∙ rw (opaque_there width bytes there))
    (cases_lt (length bytes) width)

pub rows_join : RowsJoin
rows_join width most bytes = joins (count_from most bytes)
  where
    joins : (o : Option (ℕ × List ℕ)) → and_then o (λ count rest. opaque_from (width * count) rest) ≡ option_map together (and_then o (λ count rest. times_from (opaque_from width) count rest))
    joins None = refl
    joins (Some p) = row_by_row width p.0 p.1
