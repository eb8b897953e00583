-- What stands at the seats of a group, and when this is a world of runs.
use Rattle.std.specs.Prelude.{◌≡◌, ℕ, ◌<◌, suc, List, [], ◌∷◌, length, Option, Some, None, slice_get}
use Rattle.counter.specs.Statements.{Stated}
use Rattle.protocol.specs.Replicas.{Replica}
use Rattle.protocol.specs.Runs.{Member, World}

-- a counter that no replica has: the group's size, its seat, the tag rule, and three values
pub record Bare : Type 0 where
  pub size : ℕ
  pub seat : ℕ
  pub rule : Stated → List ℕ
  pub values : List ℕ

-- at a seat that keeps to the rules there is a replica, at one in other hands a counter alone
pub data Place (St : Type 0) : Type 0 where
  Held : Replica St → Place St
  Alone : Bare → Place St

module _ {St : Type 0} where
  -- the replica at a place, and the counter that stands there alone
  abbrev pub replica_at : Option (Place St) → Option (Replica St)
  replica_at None = None
  replica_at (Some (Held r)) = Some r
  replica_at (Some (Alone c)) = None

  abbrev pub counter_at : Option (Place St) → Option Bare
  counter_at None = None
  counter_at (Some (Held r)) = None
  counter_at (Some (Alone c)) = Some c

  -- the seats in other hands, of places from a seat on
  abbrev pub others_from : ℕ → List (Place St) → List ℕ
  others_from seat [] = []
  others_from seat (Held r ∷ places) = others_from (suc seat) places
  others_from seat (Alone c ∷ places) = seat ∷ others_from (suc seat) places

  abbrev pub others_of : List (Place St) → List ℕ
  others_of places = others_from 0 places

  -- a seat of a group of n is as the world has it: its replica, or the values of its counter
  abbrev pub AsInWorld : ℕ → (Stated → List ℕ) → ℕ → Member St → List ℕ → Option (Place St) → Type 0
  AsInWorld n rule seat m values None = ⊥
  AsInWorld n rule seat m values (Some (Held r)) = r ≡ m.replica
  AsInWorld n rule seat m values (Some (Alone c)) = c ≡ record { size = n; seat = seat; rule = rule; values = values }

  -- and so are all of them
  pub record Holds (n : ℕ) (rule : Stated → List ℕ) (places : List (Place St)) (w : World St) : Type 0 where
    pub many : length places ≡ n
    pub each : (seat : ℕ) → seat < n → AsInWorld n rule seat (w.members seat) (w.others seat) (slice_get places seat)
