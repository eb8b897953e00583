-- A group that was just made is as no run at all leaves it.
use Rattle.std.specs.Prelude.{◌==◌, slice_get}
use Rattle.std.specs.List.{AllByRecursion, list_all, enumerate_from}
use Rattle.std.proofs.Common.{◌≡◌, ℕ, zero, suc, ◌+◌, ◌<◌, Bool, true, List, [], ◌∷◌, length, Some, refl, sym, ap, ◌∙◌, subst, arith}
use Rattle.std.proofs.lemmas.Bool.{and_parts, eqb-true}
use Rattle.counter.specs.Certificates.{fresh_values}
use Rattle.counter.specs.Statements.{Stated}
use Rattle.protocol.specs.Meanings.{Meaning}
use Rattle.protocol.specs.Replicas.{Replica, founded}
use Rattle.protocol.specs.Runs.{beginning}
use Rattle.cluster.specs.Making.{seated, all_seated, Fresh}
use Rattle.cluster.specs.Places.{Place, Bare, AsInWorld}
use Rattle.cluster.specs.Places.Place.{Held, Alone}
use Rattle.cluster.specs.Promises.{After}

module _ {St : Type 0} (n : ℕ) (rule : Stated → List ℕ) (start : St) where
  fresh_replica : (r : Replica St) (seat : ℕ) → r.size ≡ n → r.seat ≡ seat → Fresh rule start (Held r) → r ≡ founded n seat rule fresh_values start
  fresh_replica r seat size sits fresh = fresh ∙ ap (λ k. founded k r.seat rule fresh_values start) size ∙ ap (λ k. founded n k rule fresh_values start) sits

  fresh_counter : (c : Bare) (seat : ℕ) → c.size ≡ n → c.seat ≡ seat → c.rule ≡ rule → c.values ≡ fresh_values → c ≡ record { size = n; seat = seat; rule = rule; values = fresh_values }
  fresh_counter c seat size sits same fresh = λ i. record { size = size i; seat = sits i; rule = same i; values = fresh i }

  fresh_place : (p : Place St) (seat : ℕ) → seated n seat p ≡ true → Fresh rule start p
      → AsInWorld n rule seat ((beginning n rule start).members seat) ((beginning n rule start).others seat) (Some p)
  fresh_place (Held r) seat sits fresh =
      let t = and_parts (r.size == n) (r.seat == seat) sits in
      fresh_replica r seat (eqb-true r.size n t.0) (eqb-true r.seat seat t.1) fresh
  fresh_place (Alone c) seat sits fresh =
      let t = and_parts (c.size == n) (c.seat == seat) sits in
      fresh_counter c seat (eqb-true c.size n t.0) (eqb-true c.seat seat t.1) fresh.0 fresh.1

  abbrev seated_at : ℕ × Place St → Bool
  seated_at p = seated n p.0 p.1

  fresh_from : (k : ℕ) (places : List (Place St)) → list_all seated_at (enumerate_from k places) ≡ true → AllByRecursion (Fresh rule start) places
      → (i seat : ℕ) → seat ≡ k + i → i < length places
      → AsInWorld n rule seat ((beginning n rule start).members seat) ((beginning n rule start).others seat) (slice_get places i)
  fresh_from k [] sits fresh i seat at inside = absurd (omega arith)
  fresh_from k (p ∷ places) sits fresh zero seat at inside =
      let s = and_parts (seated n k p) (list_all seated_at (enumerate_from (k + 1) places)) sits in
      let e : seat ≡ k = omega (arith, at) in
      fresh_place p seat (subst (λ m. seated n m p ≡ true) (sym e) s.0) fresh.0
  fresh_from k (p ∷ places) sits fresh (suc i) seat at inside =
      let s = and_parts (seated n k p) (list_all seated_at (enumerate_from (k + 1) places)) sits in
      fresh_from (k + 1) places s.1 fresh.1 i seat (omega (arith, at)) (omega (arith, inside))

pub nothing_played : {St : Type 0} (M : Meaning St) (rule : Stated → List ℕ) (start : St) (places : List (Place St))
    → all_seated (length places) places ≡ true → AllByRecursion (Fresh rule start) places → After M (length places) rule start places []
nothing_played M rule start places sits fresh = record {
  legal = tt;
  world = record { many = refl; each = λ seat inside. fresh_from (length places) rule start 0 places sits fresh seat seat (omega arith) inside };
}
