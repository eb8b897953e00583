-- What stands at the seats of a cluster of any counter and any service, as plain values.
use Rattle.std.specs.Prelude.{ℕ, List, map}
use Rattle.counter.specs.Statements.{Stated}
use Rattle.replica.specs.Standings.{standing_of}
use Rattle.cluster.specs.Places.{Bare, Place}
use Rattle.cluster.specs.Places.Place.{Held, Alone}
use Rattle.cluster.specs.declared.cluster.Cluster.{Cluster}
use Rattle.cluster.specs.declared.members.Member.{Member}
use Rattle.cluster.specs.declared.members.Member.TheVariants.{Replica, Counter}

-- a counter that stands alone, and what stands at a seat, given what counters and services mean
abbrev pub bare_of : {C : Type 0} → (C → ℕ) → (C → ℕ) → (C → Stated → List ℕ) → (C → List ℕ) → C → Bare
bare_of size seat rule values c = record { size = size c; seat = seat c; rule = rule c; values = values c }

module _ {C S St : Type 0} (size seat : C → ℕ) (rule : C → Stated → List ℕ) (values : C → List ℕ) (state : S → St) where
  abbrev pub place_of : Member C S → Place St
  place_of (Replica r) = Held (standing_of size seat rule values state r)
  place_of (Counter c) = Alone (bare_of size seat rule values c)

  abbrev pub places_of : Cluster C S → List (Place St)
  places_of cluster = map place_of cluster.members.items
