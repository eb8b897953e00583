-- Counted lists are exact whatever their elements are, and what a loop over the elements needs to know.
use Rattle.std.proofs.lemmas.Grind.{common_steps}
use Rattle.std.proofs.Common.{◌≡◌, ℕ, zero, suc, ◌+◌, ◌-◌, ◌*◌, ◌^◌, ◌<◌, ◌≤◌, List, [], ◌∷◌, ◌++◌, length, Some, None, Option, sym, refl, ap, ◌∙◌, subst, append_assoc, suc-add, mul-zero, mul-suc, arith, length-append}
use Rattle.std.specs.List.{flat_map, AllByRecursion}
use Rattle.xdr.specs.Layout.{counted}
use Rattle.xdr.specs.Laws.{Bytes, Exact}
use Rattle.xdr.specs.Reading.{and_then, times_from, list_from}
use Rattle.xdr.proofs.Exactness.{answer_parts, then_parts, then_exact, rest_bytes}
use Rattle.xdr.proofs.Numbers.{counts_exact}

module _ {X : Type 0} {fits : X → Type 0} {write : X → List ℕ} {read : List ℕ → Option (X × List ℕ)} (exact : Exact fits write read) where
  times_back : (xs : List X) (rest : List ℕ) → AllByRecursion fits xs → times_from read (length xs) (flat_map write xs ++ rest) ≡ Some (xs, rest)
  unfolding times_from
  times_back [] rest h = refl
  times_back (x ∷ xs) rest h = rw (append_assoc, exact.back x (flat_map write xs ++ rest) h.0, times_back xs rest h.1)

  times_only : (n : ℕ) (bytes : List ℕ) (xs : List X) (rest : List ℕ) → Bytes bytes → times_from read n bytes ≡ Some (xs, rest) → (bytes ≡ flat_map write xs ++ rest) × ((length xs ≡ n) × AllByRecursion fits xs)
  unfolding times_from
  times_only zero bytes xs rest h e = grind (arith, common_steps)
  times_only (suc n) bytes xs rest h e =
      let (p, first, e') = then_parts (read bytes) _ (xs, rest) e in
      let (q, others, e'') = then_parts (times_from read n p.1) _ (xs, rest) e' in
      joins p.0 p.1 q.0 q.1 first (times_only n p.1 q.0 q.1 (rest_bytes exact bytes p.0 p.1 h first) others) e''
    where
      joins : (x : X) (behind : List ℕ) (ys : List X) (end : List ℕ) → read bytes ≡ Some (x, behind) → (behind ≡ flat_map write ys ++ end) × ((length ys ≡ n) × AllByRecursion fits ys) → ◌≡◌ {A = Option (List X × List ℕ)} (Some (x ∷ ys, end)) (Some (xs, rest)) → (bytes ≡ flat_map write xs ++ rest) × ((length xs ≡ suc n) × AllByRecursion fits xs)
      joins x behind ys end first more last =
          let same = answer_parts (x ∷ ys) xs end rest last in
          let one = exact.only bytes x behind h first in
          let whole : bytes ≡ flat_map write (x ∷ ys) ++ rest = one.0 ∙ rw (more.0, same.1, append_assoc) in
          subst (λ (zs : List X). (bytes ≡ flat_map write zs ++ rest) × ((length zs ≡ suc n) × AllByRecursion fits zs)) same.0 (whole, (ap suc more.1.0, (one.1, more.1.1)))

  -- so many elements one behind the other
  pub times_exact : (n : ℕ) → Exact (λ xs. (length xs ≡ n) × AllByRecursion fits xs) (flat_map write) (times_from read n)
  times_exact n =
      record {
        back = λ xs rest f. subst (λ (k : ℕ). times_from read k (flat_map write xs ++ rest) ≡ Some (xs, rest)) f.0 (times_back xs rest f.1);
        only = times_only n;
      }

  -- a counted list
  pub lists_exact : (most : ℕ) → most < 2 ^ 32 → Exact (λ xs. (length xs ≤ most) × AllByRecursion fits xs) (counted write) (list_from read most)
  unfolding counted
  lists_exact most small = then_exact (counts_exact most small) length (λ n _. times_exact n)

module _ {X : Type 0} where
  abbrev ahead : X → Option (List X × List ℕ) → Option (List X × List ℕ)
  ahead x o = and_then o (λ xs rest. Some (x ∷ xs, rest))

  abbrev onward : (List ℕ → Option (List X × List ℕ)) → Option (List X × List ℕ) → Option (List X × List ℕ)
  onward next o = and_then o (λ xs rest. and_then (next rest) (λ ys behind. Some (xs ++ ys, behind)))

  ahead_joined : (x : X) (xs : List X) (o : Option (List X × List ℕ)) → ahead x (and_then o (λ ys rest. Some (xs ++ ys, rest))) ≡ and_then o (λ ys rest. Some (x ∷ (xs ++ ys), rest))
  ahead_joined x xs None = refl
  ahead_joined x xs (Some p) = refl

  ahead-onward : (next : List ℕ → Option (List X × List ℕ)) (x : X) (o : Option (List X × List ℕ)) → ahead x (onward next o) ≡ onward next (ahead x o)
  ahead-onward next x None = refl
  ahead-onward next x (Some p) = ahead_joined x p.0 (next p.1)

module _ {X : Type 0} (read : List ℕ → Option (X × List ℕ)) where
  -- some elements, and then some more
  pub times_add : (i j : ℕ) (bytes : List ℕ) → times_from read (i + j) bytes ≡ and_then (times_from read i bytes) (λ xs rest. and_then (times_from read j rest) (λ ys behind. Some (xs ++ ys, behind)))
  unfolding times_from
  times_add zero j bytes = grind (arith, common_steps)
  times_add (suc i) j bytes = rw suc-add (first (times_add i j) (read bytes))
    where
      first : ((rest : List ℕ) → times_from read (i + j) rest ≡ onward (times_from read j) (times_from read i rest)) → (o : Option (X × List ℕ)) → and_then o (λ x rest. ahead x (times_from read (i + j) rest)) ≡ onward (times_from read j) (and_then o (λ x rest. ahead x (times_from read i rest)))
      first others None = refl
      first others (Some p) = ap (ahead p.0) (others p.1) ∙ ahead-onward (times_from read j) p.0 (times_from read i p.1)

  -- a loop's turn that read an element
  pub times_more : (i : ℕ) (bytes : List ℕ) (xs : List X) (rest : List ℕ) (x : X) (behind : List ℕ) → times_from read i bytes ≡ Some (xs, rest) → read rest ≡ Some (x, behind) → times_from read (i + 1) bytes ≡ Some (xs ++ x ∷ [], behind)
  unfolding times_from
  times_more i bytes xs rest x behind e f = times_add i 1 bytes ∙ rw (e, f)

  -- a loop's turn that found none
  pub times_stops : (i n : ℕ) (bytes : List ℕ) (xs : List X) (rest : List ℕ) → i < n → times_from read i bytes ≡ Some (xs, rest) → read rest ≡ None → times_from read n bytes ≡ None
  unfolding times_from
  times_stops i n bytes xs rest l e f =
      let left : n ≡ i + suc (n - suc i) = omega arith in
      ap (λ (k : ℕ). times_from read k bytes) left ∙ times_add i (suc (n - suc i)) bytes ∙ rw (e, f)

pub length-joined : {X : Type 0} (each : X → List ℕ) (width : ℕ) (xs : List X) → AllByRecursion (λ x. length (each x) ≡ width) xs → length (flat_map each xs) ≡ width * length xs
length-joined each width [] h = sym (mul-zero width)
length-joined each width (x ∷ xs) h = rw length-append (omega (arith, h.0, length-joined each width xs h.1, mul-suc width (length xs)))

-- how long a counted list is
pub length-counted_any : {X : Type 0} (each : X → List ℕ) (xs : List X) → length (counted each xs) ≡ 4 + length (flat_map each xs)
unfolding counted
length-counted_any each xs = omega arith

pub length-counted : {X : Type 0} (each : X → List ℕ) (width : ℕ) (xs : List X) → AllByRecursion (λ x. length (each x) ≡ width) xs → length (counted each xs) ≡ 4 + width * length xs
length-counted each width xs h = omega (arith, length-joined each width xs h, length-counted_any each xs)
