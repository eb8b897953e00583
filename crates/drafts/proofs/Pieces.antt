-- Pieces of any length, one written behind the other.
use Rattle.std.proofs.Common.{◌≡◌, ℕ, ◌+◌, ◌<◌, ◌≤◌, List, [], ◌∷◌, ◌++◌, length, get_or, take, sym, subst, refl, ap, ◌∙◌, arith, append_assoc, length-append}
use Rattle.std.specs.List.{flat_map, AllByRecursion}
use Rattle.std.proofs.lemmas.List.{take_all, take_more, flat_map_more}
use Rattle.std.proofs.lemmas.List.Folds.{length-flat_map-take}
use Rattle.xdr.proofs.Listing.{length-counted_any}
use Rattle.xdr.specs.Writing.{Room, wrote}
use Rattle.xdr.specs.declared.writer.Writer.{Writer}
use Rattle.xdr.proofs.Writing.{wrote_more, room_behind}

-- what holds of each of some and of one more
all_more : {X : Type 0} (P : X → Type 0) (xs : List X) (x : X) → AllByRecursion P xs → P x → AllByRecursion P (xs ++ x ∷ [])
all_more P [] x all one = (one, tt)
all_more P (y ∷ ys) x all one = (all.0, all_more P ys x all.1 one)

-- what holds of each of the first i and of the next
pub all_taken_next : {X : Type 0} (P : X → Type 0) (xs : List X) (i : ℕ) (x : X) → i < length xs → x ≡ get_or xs i x → AllByRecursion P (take i xs) → P x → AllByRecursion P (take (i + 1) xs)
all_taken_next P xs i x less is all one = rw (take_more xs i x less) (all_more P (take i xs) (get_or xs i x) all (subst P is one))

-- the first i, and the next
module _ {X : Type 0} (each : X → List ℕ) (xs : List X) (i : ℕ) (x : X) (less : i < length xs) (is : x ≡ get_or xs i x) where
  taken_next : flat_map each (take (i + 1) xs) ≡ flat_map each (take i xs) ++ each x
  taken_next = ap (λ ys. flat_map each ys) (take_more xs i x less) ∙ sym (flat_map_more each [] (take i xs) (get_or xs i x)) ∙ ap (λ y. flat_map each (take i xs) ++ each y) (sym is)

  pub length-taken_next : length (flat_map each (take (i + 1) xs)) ≡ length (flat_map each (take i xs)) + length (each x)
  length-taken_next = omega (arith, ap length taken_next, length-append (flat_map each (take i xs)) (each x))

  next_within : length (flat_map each (take i xs)) + length (each x) ≤ length (flat_map each xs)
  next_within = rw is (length-flat_map-take each xs i x less)

  -- in a writer that has room for all of them behind a head
  module _ (w : Writer) (head : List ℕ) (room : Room w (length (head ++ flat_map each xs))) where
    pub room_for_next : Room (wrote w (head ++ flat_map each (take i xs))) (length (each x))
    room_for_next = room_behind w _ (head ++ flat_map each (take i xs)) (length (each x)) (omega (arith, room, length-append head (flat_map each xs), length-append head (flat_map each (take i xs)), next_within)) refl

    pub wrote_next : wrote (wrote w (head ++ flat_map each (take i xs))) (each x) ≡ wrote w (head ++ flat_map each (take (i + 1) xs))
    wrote_next = wrote_more w (head ++ flat_map each (take i xs)) (each x) (omega (arith, room, length-append head (flat_map each xs), length-append head (flat_map each (take i xs)), next_within)) ∙ ap (λ bytes. wrote w bytes) (append_assoc head (flat_map each (take i xs)) (each x)) ∙ ap (λ bytes. wrote w (head ++ bytes)) (sym taken_next)

-- and the last
pub wrote_all : {X : Type 0} (each : X → List ℕ) (w : Writer) (head : List ℕ) (xs : List X) (i : ℕ) → length xs ≤ i → wrote w (head ++ flat_map each (take i xs)) ≡ wrote w (head ++ flat_map each xs)
wrote_all each w head xs i end = ap (λ ys. wrote w (head ++ flat_map each ys)) (take_all i xs end)

-- for a count and the pieces behind it
pub ruleset pieces = (length-counted_any)
