-- What an entry comes to at the places of a group: the answer, the places and the lent buffers afterwards.
use Rattle.std.specs.Prelude.{ℕ, List, [], ◌∷◌, Option, Some, None, Err, Result, slice_get, slice_set}
use Rattle.std.specs.Result.{result_map_both}
use Rattle.terms.specs.declared.refusals.Refusal.{Refusal}
use Rattle.terms.specs.declared.refusals.Refusal.TheVariants.{NoSuchSeat}
use Rattle.counter.specs.Laws as counting
use Rattle.counter.specs.declared.kinds.Kind.{Kind}
use Rattle.protocol.specs.Ask.{asked}
use Rattle.protocol.specs.CarryOut.{carried_out}
use Rattle.protocol.specs.Mark.{marked}
use Rattle.protocol.specs.Meanings.{Meaning}
use Rattle.protocol.specs.Open.{opened}
use Rattle.protocol.specs.Outcomes.{Outcome}
use Rattle.protocol.specs.Replicas.{Replica}
use Rattle.protocol.specs.Runs as runs
use Rattle.protocol.specs.Runs.{Event}
use Rattle.protocol.specs.Suspect.{suspected}
use Rattle.protocol.specs.Take.{taken}
use Rattle.protocol.specs.Vote.{voted}
use Rattle.cluster.specs.Places.{Place, Bare}
use Rattle.cluster.specs.Places.Place.{Held, Alone}
use Rattle.cluster.specs.declared.entries.Answer.{Answer}
use Rattle.cluster.specs.declared.entries.Answer.TheVariants.{Ordered, Viewed, Took, CarriedOut, Certified}
use Rattle.cluster.specs.declared.entries.Call.{Call}
use Rattle.cluster.specs.declared.entries.Call.TheVariants.{Ask, Take, Vote, CarryOut, Mark, Suspect, Open}
use Rattle.cluster.specs.declared.entries.Entry.{Entry}
use Rattle.cluster.specs.declared.entries.Entry.TheVariants.{At, Elsewhere}

-- what is lent: the scratch, and the buffer for what is written
abbrev pub Lent : Type 0
Lent = List ℕ × List ℕ

-- the call of a run that a call is, with the buffers that it is lent
abbrev pub call_of : Call → Lent → runs.Call
call_of (Ask request) lent = runs.Call.Ask request lent.1
call_of (Take bytes) lent = runs.Call.Take bytes.now
call_of Vote lent = runs.Call.Vote lent.1
call_of CarryOut lent = runs.Call.CarryOut
call_of Mark lent = runs.Call.Mark lent.0 lent.1
call_of Suspect lent = runs.Call.Suspect lent.1
call_of Open lent = runs.Call.Open lent.1

-- the certificate call
abbrev pub asked_for : Kind → ℕ → ℕ → List ℕ → counting.Call
asked_for kind number new message = record { kind = kind; number = number; new = new; message = message }

abbrev pub seat_of : Entry → ℕ
seat_of (At seat call) = seat
seat_of (Elsewhere seat kind number new message) = seat

-- answers
abbrev pub ordered : ℕ × ℕ → Answer
ordered a = Ordered (record { 0 = a.0 }) a.1

abbrev pub viewed : ℕ × ℕ → Answer
viewed a = Viewed (record { 0 = a.0 }) a.1

abbrev pub carried : ℕ × (ℕ × ℕ) → Answer
carried a = CarriedOut (record { 0 = a.0 }) a.1

-- the answer to a call, the replica afterwards and what was lent
abbrev pub Called : Type 0 → Type 0
Called St = Result Answer Refusal × Replica St × Lent

-- an answer or a refusal, in the words of entries
abbrev pub told : {A : Type 0} → (A → Answer) → Result A Refusal → Result Answer Refusal
told say answer = result_map_both say (λ refusal. refusal) answer

module _ {St : Type 0} where
  -- a call that is lent the buffer for what is written, one that is lent nothing, and one that is lent both
  abbrev pub writing : (ℕ × ℕ → Answer) → Lent → Outcome (ℕ × ℕ) (List ℕ) St → Called St
  writing say lent o = (told say o.0, o.1, (lent.0, o.2))

  abbrev pub alone : {A : Type 0} → (A → Answer) → Lent → Outcome A (Unit {0}) St → Called St
  alone say lent o = (told say o.0, o.1, lent)

  abbrev pub with_both : (ℕ × ℕ → Answer) → Outcome (ℕ × ℕ) Lent St → Called St
  with_both say o = (told say o.0, o.1, o.2)

  -- a certificate call at a counter alone
  abbrev pub certified_there : Bare → counting.Call → Lent → Result Answer Refusal × Place St × Lent
  certified_there c call lent =
      (told Certified (counting.called c.rule c.seat c.values call).0, Alone (record c { values = (counting.called c.rule c.seat c.values call).1 }), lent)

  module _ (M : Meaning St) where
    abbrev pub called : Replica St → Call → Lent → Called St
    called r (Ask request) lent = writing ordered lent (asked r request lent.1)
    called r (Take bytes) lent = alone Took lent (taken r bytes.now)
    called r Vote lent = writing ordered lent (voted r lent.1)
    called r CarryOut lent = alone carried lent (carried_out M r)
    called r Mark lent = with_both ordered (marked M r lent.0 lent.1)
    called r Suspect lent = writing viewed lent (suspected r lent.1)
    called r Open lent = writing viewed lent (opened r lent.1)

    -- at a place: the answer, the place afterwards and what was lent. A call asks for a replica and a certificate for a
    -- counter alone; else all stays
    abbrev pub acted_there : Place St → Entry → Lent → Result Answer Refusal × Place St × Lent
    acted_there (Held r) (At seat call) lent = ((called r call lent).0, Held (called r call lent).1, (called r call lent).2)
    acted_there (Held r) (Elsewhere seat kind number new message) lent = (Err NoSuchSeat, Held r, lent)
    acted_there (Alone c) (At seat call) lent = (Err NoSuchSeat, Alone c, lent)
    acted_there (Alone c) (Elsewhere seat kind number new message) lent = certified_there c (asked_for kind number new message.now) lent

    -- at the places: that of the entry's seat changes, if there is one
    abbrev pub acted_at : List (Place St) → Option (Place St) → Entry → Lent → Result Answer Refusal × List (Place St) × Lent
    acted_at places None entry lent = (Err NoSuchSeat, places, lent)
    acted_at places (Some p) entry lent = ((acted_there p entry lent).0, slice_set places (seat_of entry) (acted_there p entry lent).1, (acted_there p entry lent).2)

    abbrev pub acted : List (Place St) → Entry → Lent → Result Answer Refusal × List (Place St) × Lent
    acted places entry lent = acted_at places (slice_get places (seat_of entry)) entry lent

  -- what an entry adds to a run: a call where there is a replica, a certificate where there is a counter alone
  abbrev pub added_at : Option (Place St) → Entry → Lent → List Event
  added_at None entry lent = []
  added_at (Some (Held r)) (At seat call) lent = Event.At seat (call_of call lent) ∷ []
  added_at (Some (Held r)) (Elsewhere seat kind number new message) lent = []
  added_at (Some (Alone c)) (At seat call) lent = []
  added_at (Some (Alone c)) (Elsewhere seat kind number new message) lent = Event.Elsewhere seat (asked_for kind number new message.now) ∷ []

  abbrev pub added : List (Place St) → Entry → Lent → List Event
  added places entry lent = added_at (slice_get places (seat_of entry)) entry lent
