-- How a group is made: of 3 to 5 places, each of its own seat; and when nothing has happened at them.
use Rattle.std.specs.Prelude.{◌≡◌, ℕ, ◌==◌, Bool, ◌&&◌, if◌then◌else◌, List, length, Ok, Err, Result}
use Rattle.std.specs.List.{list_all, enumerate_from}
use Rattle.terms.specs.Quorums.{group_sized}
use Rattle.terms.specs.declared.refusals.Refusal.{Refusal}
use Rattle.terms.specs.declared.refusals.Refusal.TheVariants.{GroupSize, NoSuchSeat}
use Rattle.counter.specs.Certificates.{fresh_values}
use Rattle.counter.specs.Statements.{Stated}
use Rattle.protocol.specs.Replicas.{founded}
use Rattle.cluster.specs.Places.{Place}
use Rattle.cluster.specs.Places.Place.{Held, Alone}

module _ {St : Type 0} where
  -- the counter of a place is of this seat in a group of n
  abbrev pub seated : ℕ → ℕ → Place St → Bool
  seated n seat (Held r) = r.size == n && r.seat == seat
  seated n seat (Alone c) = c.size == n && c.seat == seat

  -- and so are all of them, from seat 0 on
  abbrev pub all_seated : ℕ → List (Place St) → Bool
  all_seated n places = list_all (λ p. seated n p.0 p.1) (enumerate_from 0 places)

  abbrev pub made : List (Place St) → Result (List (Place St)) Refusal
  made places =
      if group_sized (length places) then
      (if all_seated (length places) places then Ok places else Err NoSuchSeat)
      else Err GroupSize

  -- nothing has happened: the counters are fresh and have one rule, and the replicas were just made, with services in one state
  abbrev pub Fresh : (Stated → List ℕ) → St → Place St → Type 0
  Fresh rule start (Held r) = r ≡ founded r.size r.seat rule fresh_values start
  Fresh rule start (Alone c) = (c.rule ≡ rule) × (c.values ≡ fresh_values)
