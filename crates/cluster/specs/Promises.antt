-- What is promised of what stands at the places of a group, after every run.
use Rattle.std.specs.Prelude.{◌≡◌, ℕ, ◌≤◌, true, List, [], ◌++◌, length, Some, slice_get}
use Rattle.std.specs.List.{AllByRecursion}
use Rattle.terms.specs.Numbers.{tag_bytes}
use Rattle.terms.specs.Quorums.{group_sized, fault_limit}
use Rattle.counter.specs.Statements.{Stated}
use Rattle.message.specs.Decoding.{decode}
use Rattle.parts.specs.Fits.{RequestFits}
use Rattle.protocol.specs.Agreement.{Agreed, Brought, Marked}
use Rattle.protocol.specs.Meanings.{Meaning}
use Rattle.protocol.specs.Replicas.{Replica}
use Rattle.protocol.specs.Runs.{Event, World, beginning, played, AllIssued, Run}
use Rattle.xdr.specs.Laws.{Bytes}
use Rattle.cluster.specs.Entries.{Lent, added}
use Rattle.cluster.specs.Making.{Fresh}
use Rattle.cluster.specs.Places.{Place, others_of, Holds}
use Rattle.cluster.specs.Places.Place.{Held}
use Rattle.cluster.specs.declared.entries.Call.{Call}
use Rattle.cluster.specs.declared.entries.Call.TheVariants.{Ask, Take, Vote, CarryOut, Mark, Suspect, Open}
use Rattle.cluster.specs.declared.entries.Entry.{Entry}
use Rattle.cluster.specs.declared.entries.Entry.TheVariants.{At, Elsewhere}

-- no tag in delivered bytes passes before its statement was issued
abbrev pub UnforgedCall : ℕ → (Stated → List ℕ) → List Stated → Call → Type 0
UnforgedCall n rule issued (Ask request) = Unit {0}
UnforgedCall n rule issued (Take bytes) = AllIssued n rule issued (decode bytes.now)
UnforgedCall n rule issued Vote = Unit {0}
UnforgedCall n rule issued CarryOut = Unit {0}
UnforgedCall n rule issued Mark = Unit {0}
UnforgedCall n rule issued Suspect = Unit {0}
UnforgedCall n rule issued Open = Unit {0}

abbrev pub Unforged : ℕ → (Stated → List ℕ) → List Stated → Entry → Type 0
Unforged n rule issued (At seat call) = UnforgedCall n rule issued call
Unforged n rule issued (Elsewhere seat kind number new message) = Unit {0}

-- the arguments are what their types hold
abbrev pub CallFits : Call → Type 0
CallFits (Ask request) = RequestFits request
CallFits (Take bytes) = Bytes bytes.now
CallFits Vote = Unit {0}
CallFits CarryOut = Unit {0}
CallFits Mark = Unit {0}
CallFits Suspect = Unit {0}
CallFits Open = Unit {0}

abbrev pub EntryFits : Entry → Type 0
EntryFits (At seat call) = CallFits call
EntryFits (Elsewhere seat kind number new message) = Unit {0}

-- the places are as a run from the beginning left them, in which the seats in other hands are the faulty ones
pub record After {St : Type 0} (M : Meaning St) (n : ℕ) (rule : Stated → List ℕ) (start : St) (places : List (Place St)) (run : List Event) : Type 0 where
  pub legal : Run M n rule (others_of places) (beginning n rule start) run
  pub world : Holds n rule places (played M rule (beginning n rule start) run)

-- where nothing has happened, the run is empty
abbrev pub Begins : {St : Type 0} → Meaning St → List (Place St) → Type 0
Begins {St} M places = (rule : Stated → List ℕ) (start : St) → AllByRecursion (Fresh rule start) places → After M (length places) rule start places []

module _ {St : Type 0} (M : Meaning St) (places : List (Place St)) (entry : Entry) (lent : Lent) (after : List (Place St)) where
  -- if the places were those of a world, they are those of the world behind the entry
  abbrev pub Follows : Type 0
  Follows = (n : ℕ) (rule : Stated → List ℕ) (w : World St) → Holds n rule places w → Holds n rule after (played M rule w (added places entry lent))

  -- if a run left the places so, the run with the entry behind it leaves them as they are afterwards, unless a tag was forged
  abbrev pub GoesOn : Type 0
  GoesOn =
      (n : ℕ) (rule : Stated → List ℕ) (start : St) (run : List Event) → After M n rule start places run
      → Unforged n rule (played M rule (beginning n rule start) run).issued entry
      → After M n rule start after (run ++ added places entry lent)

-- the group that the places are of: its size, a tag rule, and at most f seats in other hands
pub record Founded {St : Type 0} (n : ℕ) (rule : Stated → List ℕ) (places : List (Place St)) : Type 0 where
  pub sized : group_sized n ≡ true
  pub whole_tags : (s : Stated) → length (rule s) ≡ tag_bytes
  pub few : length (others_of places) ≤ fault_limit n

-- two replicas with equal counts have equal states, and write the same bytes
abbrev pub EqualCountsEqualStates : {St : Type 0} → Meaning St → List (Place St) → Type 0
EqualCountsEqualStates {St} M places =
    (s t : ℕ) (p q : Replica St) → slice_get places s ≡ Some (Held p) → slice_get places t ≡ Some (Held q)
    → p.count ≡ q.count → (p.state ≡ q.state) × (M.written p.state ≡ M.written q.state)

-- of the world that a run came to: its correct seats agree, later views bring what a quorum voted for, and low marks tell
-- the register; and of the replicas at the places themselves
pub record Agreeing {St : Type 0} (M : Meaning St) (n : ℕ) (rule : Stated → List ℕ) (start : St) (places : List (Place St)) (run : List Event) : Type 0 where
  pub world : Agreed M n (others_of places) start (played M rule (beginning n rule start) run)
  pub brought : Brought M n (others_of places) start (played M rule (beginning n rule start) run)
  pub marked : Marked M n (others_of places) start (played M rule (beginning n rule start) run)
  pub replicas : EqualCountsEqualStates M places

-- whatever run it was that left the places so
abbrev pub PlacesAgree : {St : Type 0} → Meaning St → List (Place St) → Type 0
PlacesAgree {St} M places =
    (n : ℕ) (rule : Stated → List ℕ) (start : St) → Founded n rule places
    → (run : List Event) → After M n rule start places run → Agreeing M n rule start places run
