-- What follows from exactness for any type of value, and exactness of what is put together from exact parts.
use Rattle.std.proofs.Common.{◌≡◌, ℕ, ◌<◌, List, [], ◌∷◌, ◌++◌, get_or, Some, None, Option, sym, refl, ap, ◌∙◌, subst, append_assoc, arith}
use Rattle.std.proofs.ByRecursion.{All-from_get_or}
use Rattle.xdr.specs.Laws.{Bytes, Exact}
use Rattle.xdr.specs.Reading.{and_then}

-- bytes by their places, which is how a function knows of its slices
pub bytes_from_places : (bytes : List ℕ) → ((k : ℕ) → get_or bytes k 0 < 256) → Bytes bytes
bytes_from_places bytes h = All-from_get_or (λ b. b < 256) bytes 0 (λ k l. h k)

pub bytes_behind : (front rest : List ℕ) → Bytes (front ++ rest) → Bytes rest
bytes_behind [] rest h = h
bytes_behind (b ∷ front) rest h = bytes_behind front rest h.1

-- one answer has one value and one rest
pub answer_parts : {X : Type 0} (x y : X) (rest more : List ℕ) → ◌≡◌ {A = Option (X × List ℕ)} (Some (x, rest)) (Some (y, more)) → (x ≡ y) × (rest ≡ more)
answer_parts {X} x y rest more e = grind arith

-- no answer is no value
pub no_answer : {X : Type 0} (x : X) → ◌≡◌ {A = Option X} None (Some x) → ⊥
no_answer x e = grind arith

-- where reading on gave something, there was something to read on from
pub then_parts : {X Y : Type 0} (o : Option (X × List ℕ)) (next : X → List ℕ → Option Y) (y : Y) → and_then o next ≡ Some y → (p : X × List ℕ) × (o ≡ Some p) × (next p.0 p.1 ≡ Some y)
then_parts None next y e = absurd (no_answer y e)
then_parts (Some p) next y e = (p, refl, e)

module _ {X : Type 0} {fits : X → Type 0} {write : X → List ℕ} {read : List ℕ → Option (X × List ℕ)} (exact : Exact fits write read) where
  -- the bytes behind a value that was read
  pub rest_bytes : (bytes : List ℕ) (x : X) (rest : List ℕ) → Bytes bytes → read bytes ≡ Some (x, rest) → Bytes rest
  rest_bytes bytes x rest h e = bytes_behind (write x) rest (subst Bytes (exact.only bytes x rest h e).0 h)

  -- what fits, in other words
  pub fits_like : (fits' : X → Type 0) → ((x : X) → fits x → fits' x) → ((x : X) → fits' x → fits x) → Exact fits' write read
  fits_like fits' to from =
      record {
        back = λ x rest f. exact.back x rest (from x f);
        only = λ bytes x rest h e. let o = exact.only bytes x rest h e in (o.0, to x o.1);
      }

  -- one part of a value, and then what the rest of the value asks once that part is known
  pub then_exact :
      {Y : Type 0} (part : Y → X) {others : Y → Type 0} {write_others : Y → List ℕ} {next : X → List ℕ → Option (Y × List ℕ)}
      → ((x : X) → fits x → Exact (λ y. (part y ≡ x) × others y) write_others (next x))
      → Exact (λ y. fits (part y) × others y) (λ y. write (part y) ++ write_others y) (λ bytes. and_then (read bytes) next)
  then_exact {Y} part {others} {write_others} {next} each =
      record {
        back = λ y rest f. rw (append_assoc, exact.back (part y) (write_others y ++ rest) f.0) ((each (part y) f.0).back y rest (refl, f.1));
        only = λ bytes y rest h e. let (p, first, e') = then_parts (read bytes) next (y, rest) e in joins bytes p.0 p.1 y rest h first e';
      }
    where
      joins : (bytes : List ℕ) (x : X) (behind : List ℕ) (y : Y) (rest : List ℕ) → Bytes bytes → read bytes ≡ Some (x, behind) → next x behind ≡ Some (y, rest) → (bytes ≡ (write (part y) ++ write_others y) ++ rest) × (fits (part y) × others y)
      joins bytes x behind y rest h first second =
          let o = exact.only bytes x behind h first in
          let q = (each x o.1).only behind y rest (rest_bytes bytes x behind h first) second in
          (o.0 ∙ rw (q.0, q.1.0, append_assoc), (subst fits (sym q.1.0) o.1, q.1.1))

  -- the last part of a value, from which the whole is made
  pub made_exact :
      {Y : Type 0} (part : Y → X) (made : X → Y) → ((x : X) → fits x → part (made x) ≡ x)
      → Exact (λ y. (made (part y) ≡ y) × fits (part y)) (λ y. write (part y)) (λ bytes. and_then (read bytes) (λ x rest. Some (made x, rest)))
  made_exact {Y} part made parts =
      record {
        back = λ y rest f. rw (exact.back (part y) rest f.1, f.0);
        only = λ bytes y rest h e. let (p, first, e') = then_parts (read bytes) _ (y, rest) e in joins bytes p.0 p.1 y rest h first e';
      }
    where
      joins : (bytes : List ℕ) (x : X) (behind : List ℕ) (y : Y) (rest : List ℕ) → Bytes bytes → read bytes ≡ Some (x, behind) → ◌≡◌ {A = Option (Y × List ℕ)} (Some (made x, behind)) (Some (y, rest)) → (bytes ≡ write (part y) ++ rest) × ((made (part y) ≡ y) × fits (part y))
      joins bytes x behind y rest h first second =
          let o = exact.only bytes x behind h first in
          let same = answer_parts (made x) y behind rest second in
          let e : part y ≡ x = ap part (sym same.0) ∙ parts x o.1 in
          (o.0 ∙ rw (e, same.1), (ap made e ∙ same.0, subst fits (sym e) o.1))
