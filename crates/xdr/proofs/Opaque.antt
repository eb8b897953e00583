-- Fixed opaque is exact.
use Rattle.std.proofs.lemmas.Grind.{common_steps}
use Rattle.std.proofs.Common.{◌≡◌, ℕ, ◌+◌, ◌<◌, ◌≤◌, List, ◌++◌, length, take, drop, Some, None, sym, ap, ⊎_elim, arith, length-drop, take-add}
use Rattle.std.proofs.lemmas.List.{drop-drop}
use Rattle.std.proofs.lemmas.Bool.{cases_lt}
use Rattle.xdr.specs.Laws.{OpaquesExact}
use Rattle.xdr.specs.Reading.{and_then, opaque_from}

pub opaque_there : (n : ℕ) (bytes : List ℕ) → n ≤ length bytes → opaque_from n bytes ≡ Some (take n bytes, drop n bytes)
opaque_there n bytes h = grind arith

pub opaque_short : (n : ℕ) (bytes : List ℕ) → length bytes < n → opaque_from n bytes ≡ None
opaque_short n bytes h = grind arith

pub opaques_exact : OpaquesExact
opaques_exact n = grind (arith, common_steps)

-- the first so many bytes, and then so many more
pub opaque_more : (n m : ℕ) (bytes : List ℕ) → n ≤ length bytes → and_then (opaque_from m (drop n bytes)) (λ part rest. Some (take n bytes ++ part, rest)) ≡ opaque_from (n + m) bytes
opaque_more n m bytes h =
    ⊎_elim
    (λ short. rw (opaque_short m (drop n bytes) short, opaque_short (n + m) bytes (omega (arith, simp length-drop at short))))
    (λ there. rw (opaque_there m (drop n bytes) there, opaque_there (n + m) bytes (omega (arith, simp length-drop at there)), drop-drop m n bytes) (ap (λ (part : List ℕ). Some (part, drop (n + m) bytes)) (sym (take-add n m bytes))))
    (cases_lt (length (drop n bytes)) m)
