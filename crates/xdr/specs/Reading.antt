-- RFC 4506 read back: the value that begins a list of bytes with the bytes behind it, or None where there is none.
use Rattle.std.specs.Prelude.{ℕ, zero, suc, ◌+◌, ◌*◌, if◌then◌else◌, List, [], ◌∷◌, length, take, drop, Some, None, Option, nat_le}
use Rattle.std.specs.Borrow.{Bor}

-- a value that was read, and what the slice behind it holds
abbrev pub value_and_rest : {X : Type 0} → X × Bor (List ℕ) → X × List ℕ
value_and_rest p = (p.0, p.1.now)

-- the same of a value that is itself a part of the bytes
abbrev pub part_and_rest : Bor (List ℕ) × Bor (List ℕ) → List ℕ × List ℕ
part_and_rest p = (p.0.now, p.1.now)

-- goes on with a value and the bytes behind it, where a value was read
abbrev pub and_then : {X Y : Type 0} → Option (X × List ℕ) → (X → List ℕ → Option Y) → Option Y
and_then None next = None
and_then (Some p) next = next p.0 p.1

-- an unsigned int
abbrev pub int_from : List ℕ → Option (ℕ × List ℕ)
int_from [] = None
int_from (a ∷ []) = None
int_from (a ∷ b ∷ []) = None
int_from (a ∷ b ∷ c ∷ []) = None
int_from (a ∷ b ∷ c ∷ d ∷ rest) = Some (a * 16777216 + b * 65536 + c * 256 + d, rest)

-- an unsigned hyper
abbrev pub hyper_from : List ℕ → Option (ℕ × List ℕ)
hyper_from bytes = and_then (int_from bytes) (λ high rest. and_then (int_from rest) (λ low behind. Some (high * 4294967296 + low, behind)))

-- fixed opaque of n bytes
abbrev pub opaque_from : ℕ → List ℕ → Option (List ℕ × List ℕ)
opaque_from n bytes = if nat_le n (length bytes) then Some (take n bytes, drop n bytes) else None

-- the count of a list that has at most so many elements
abbrev pub count_from : ℕ → List ℕ → Option (ℕ × List ℕ)
count_from most bytes = and_then (int_from bytes) (λ count rest. if nat_le count most then Some (count, rest) else None)

-- n elements one behind the other
unfoldable pub times_from : {X : Type 0} → (List ℕ → Option (X × List ℕ)) → ℕ → List ℕ → Option (List X × List ℕ)
times_from read zero bytes = Some ([], bytes)
times_from read (suc n) bytes = and_then (read bytes) (λ x rest. and_then (times_from read n rest) (λ xs behind. Some (x ∷ xs, behind)))

-- a counted list of at most so many elements
abbrev pub list_from : {X : Type 0} → (List ℕ → Option (X × List ℕ)) → ℕ → List ℕ → Option (List X × List ℕ)
list_from read most bytes = and_then (count_from most bytes) (λ count rest. times_from read count rest)

-- the elements of a counted list, together, where each has the same width
abbrev pub rows_from : ℕ → ℕ → List ℕ → Option (List ℕ × List ℕ)
rows_from width most bytes = and_then (count_from most bytes) (λ count rest. opaque_from (width * count) rest)
