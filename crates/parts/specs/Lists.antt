-- The messages in a list that is still a part of bytes.
use Rattle.std.specs.Prelude.{ℕ, zero, suc, List, [], ◌∷◌, Option, Some, None}
use Rattle.std.specs.Borrow.{Bor}
use Rattle.parts.specs.declared.nested.Nested.{Nested}

-- goes on behind a message, where one was read
abbrev pub items_then : {M : Type 0} → Option (M × List ℕ) → (List ℕ → List M) → List M
items_then None more = []
items_then (Some p) more = p.0 ∷ more p.1

-- the first n messages, or as many as can be read
unfoldable pub items_from : {M : Type 0} → (List ℕ → Option (M × List ℕ)) → ℕ → List ℕ → List M
items_from read zero bytes = []
items_from read (suc n) bytes = items_then (read bytes) (items_from read n)

abbrev pub listed : {M : Type 0} → (List ℕ → Option (M × List ℕ)) → Nested → List M
listed read l = items_from read l.count l.bytes.now

abbrev pub listed_and_rest : {M : Type 0} → (List ℕ → Option (M × List ℕ)) → Nested × Bor (List ℕ) → List M × List ℕ
listed_and_rest read p = (listed read p.0, p.1.now)
