-- From the members of a cluster to the places that they stand for.
use Rattle.std.specs.List.{list_all, enumerate_from}
use Rattle.std.specs.Prelude.{slice_get, slice_set, slice_index_or, if◌then◌else◌}
use Rattle.std.specs.Option.{option_map}
use Rattle.std.proofs.Common.{◌≡◌, ℕ, ◌+◌, ◌<◌, Bool, true, ◌&&◌, List, [], ◌∷◌, length, map, Some, Ok, Err, Result, refl, sym, ap, ◌∙◌, subst}
use Rattle.std.proofs.lemmas.List.{length-map, map-set}
use Rattle.std.proofs.lemmas.Option.{slice_get-map, slice_get_read}
use Rattle.terms.specs.Quorums.{group_sized}
use Rattle.terms.specs.declared.refusals.Refusal.{Refusal}
use Rattle.terms.specs.declared.refusals.Refusal.TheVariants.{GroupSize, NoSuchSeat}
use Rattle.counter.specs.Statements.{Stated}
use Rattle.protocol.specs.Meanings.{Meaning}
use Rattle.cluster.specs.Entries.{Lent, seat_of, acted_there, acted_at, acted}
use Rattle.cluster.specs.Making.{seated, all_seated, made}
use Rattle.cluster.specs.Members.{place_of}
use Rattle.cluster.specs.Places.{Place}
use Rattle.cluster.specs.declared.entries.Answer.{Answer}
use Rattle.cluster.specs.declared.entries.Entry.{Entry}
use Rattle.cluster.specs.declared.members.Member.{Member}

module _ {C S St : Type 0} (size seat : C → ℕ) (rule : C → Stated → List ℕ) (values : C → List ℕ) (state : S → St) where
  abbrev place : Member C S → Place St
  place m = place_of size seat rule values state m

  abbrev places : List (Member C S) → List (Place St)
  places ms = map place ms

  -- to test the members is to test their places
  same_test : (n k : ℕ) (ms : List (Member C S)) → list_all (λ p. seated n p.0 (place p.1)) (enumerate_from k ms) ≡ list_all (λ p. seated n p.0 p.1) (enumerate_from k (places ms))
  same_test n k [] = refl
  same_test n k (m ∷ ms) = ap (λ b. seated n k (place m) && b) (same_test n (k + 1) ms)

  pub sits : (n : ℕ) (ms : List (Member C S)) (b : Bool) → list_all (λ p. seated n p.0 (place p.1)) (enumerate_from 0 ms) ≡ b → n ≡ length ms → all_seated (length (places ms)) (places ms) ≡ b
  sits n ms b test many = subst (λ k. all_seated k (places ms) ≡ b) (many ∙ sym (length-map ms place)) (sym (same_test n 0 ms) ∙ test)

  pub made_of : (n : ℕ) (ms : List (Member C S)) (b : Bool) → list_all (λ p. seated n p.0 (place p.1)) (enumerate_from 0 ms) ≡ b → n ≡ length ms → group_sized n ≡ true
      → made (places ms) ≡ (if b then Ok (places ms) else Err NoSuchSeat)
  made_of n ms b test many sized =
      let long : length (places ms) ≡ n = length-map ms place ∙ sym many in
      let whole : group_sized (length (places ms)) ≡ true = ap group_sized long ∙ sized in
      ap (λ t. if t then (if all_seated (length (places ms)) (places ms) then Ok (places ms) else Err NoSuchSeat) else Err GroupSize) whole
      ∙ ap (λ t. if t then Ok (places ms) else Err NoSuchSeat) (sits n ms b test many)

  -- what is played at a member is played at its place
  pub acted_one : (M : Meaning St) (ms : List (Member C S)) (m after : Member C S) (entry : Entry) (lent later : Lent) (answer : Result Answer Refusal) (k : ℕ)
      → k ≡ seat_of entry → k < length ms → m ≡ slice_index_or ms k m
      → (answer, place after, later) ≡ acted_there M (place m) entry lent
      → (answer, places (slice_set ms k after), later) ≡ acted M (places ms) entry lent
  acted_one M ms m after entry lent later answer k at inside here played =
      let found : slice_get (places ms) (seat_of entry) ≡ Some (place m) =
      subst (λ i. slice_get (places ms) i ≡ Some (place m)) at (slice_get-map place ms k ∙ ap (λ o. option_map place o) (slice_get_read ms (length ms) k m refl inside here)) in
      let set : places (slice_set ms k after) ≡ slice_set (places ms) (seat_of entry) (place after) =
      map-set place ms k after ∙ ap (λ i. slice_set (places ms) i (place after)) at in
      (λ i. ((played i).0, (set ∙ ap (λ p. slice_set (places ms) (seat_of entry) p) (λ j. (played j).1)) i, (played i).2))
      ∙ ap (λ o. acted_at M (places ms) o entry lent) (sym found)
