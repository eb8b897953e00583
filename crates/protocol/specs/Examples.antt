-- Runs that there are. A promise of every run would say nothing if in no run anything happened, so each statement here says
-- that some run comes to this. The group has three seats; seats 0 and 1 keep to the rules, and seat 2 does not.
use Rattle.std.specs.Prelude.{◌≡◌, ℕ, true, false, List, [], ◌∷◌, ◌++◌, replicate, map, Ok, Err, Result}
use Rattle.terms.specs.Numbers.{tag_bytes, longest_new_view}
use Rattle.terms.specs.declared.refusals.Refusal.{Refusal}
use Rattle.terms.specs.declared.refusals.Refusal.TheVariants.{ViewClosed, WrongView, WrongRole, WrongOrder, OwnMessage, BadTag, AlreadyHeld, OtherRequest, NoMessage, NothingToDo, ViewOpen, ValueNotAllowed}
use Rattle.terms.specs.declared.requests.Request.{Request}
use Rattle.counter.specs.Statements.{Stated}
use Rattle.counter.specs.Laws as counting
use Rattle.parts.specs.Messages.{Prepare, Checkpoint}
use Rattle.message.specs.Messages.{ViewChange, NewView}
use Rattle.message.specs.Statements.{view_change_says}
use Rattle.protocol.specs.Agreement.{Committed, Founding}
use Rattle.protocol.specs.Ask.{asked}
use Rattle.protocol.specs.CarryOut.{carried_out}
use Rattle.protocol.specs.Mark.{marked}
use Rattle.protocol.specs.Meanings.{Meaning}
use Rattle.protocol.specs.Open.{opened}
use Rattle.protocol.specs.Replicas.{Replica}
use Rattle.protocol.specs.Runs.{Event, Call, World, beginning, happened, played, Run}
use Rattle.protocol.specs.Runs.Call.{Ask, Take, Vote, CarryOut, Mark, Suspect, Open}
use Rattle.protocol.specs.Runs.Event.{At, Elsewhere}
use Rattle.protocol.specs.Sets.{◌∈◌}
use Rattle.protocol.specs.Standing.{is_open, held_changes, proposals}
use Rattle.protocol.specs.Suspect.{suspected}
use Rattle.protocol.specs.Take.{taken}
use Rattle.protocol.specs.Vote.{voted}

-- all tags are alike, and all digests. So whatever shows that tag passes, and a run may deliver it only once it was issued
abbrev pub zeros : List ℕ
zeros = replicate tag_bytes 0

abbrev pub alike : Stated → List ℕ
alike s = zeros

-- the service keeps the values of its requests, the latest first
abbrev pub values_kept : Meaning (List ℕ)
values_kept = record { next = λ state r. r.value ∷ state; reply = λ state r. (0, r.value); written = λ state. state; digest = λ bytes. zeros }

-- a buffer that is long enough
abbrev pub room : List ℕ
room = replicate longest_new_view 0

-- the k-th request of a client; its value is k
abbrev pub request : ℕ → Request
request k = record { client = 0; sequence = k; code = 1; key = 65; value = k }

-- the PREPARE for the k-th request at order k of a view
abbrev pub proposal : ℕ → ℕ → Prepare
proposal view k = record { view = view; order = k; request = request k; tag = zeros }

-- the CHECKPOINT of a seat at order 8
abbrev pub checkpoint : ℕ → Checkpoint
checkpoint seat = record { sender = seat; order = 8; digest = zeros; tag = zeros }

abbrev pub first : World (List ℕ)
first = beginning 3 alike []

abbrev pub Happens : List Event → Type 0
Happens run = Founding 3 alike (2 ∷ []) values_kept.digest × Run values_kept 3 alike (2 ∷ []) first run

abbrev pub after : List Event → World (List ℕ)
after run = played values_kept alike first run

abbrev pub replica_after : List Event → ℕ → Replica (List ℕ)
replica_after run seat = ((after run).members seat).replica

-- what a VIEW-CHANGE and a NEW-VIEW bring to a new view
abbrev pub sender_and_entries : ViewChange → ℕ × List Prepare
sender_and_entries c = (c.sender, c.entries)

abbrev pub view_and_prepares : NewView → ℕ × List Prepare
view_and_prepares w = (w.view, w.prepares)

-- the requests that a seat carried out
abbrev pub carried_after : List Event → ℕ → List Request
carried_after run seat = ((after run).members seat).history.carried

-- the refusals on the way, each with its seat
abbrev pub refused : {A : Type 0} → ℕ → Result A Refusal → List (ℕ × Refusal)
refused seat (Ok answer) = []
refused seat (Err refusal) = (seat, refusal) ∷ []

abbrev pub refused_call : ℕ → Replica (List ℕ) → Call → List (ℕ × Refusal)
refused_call seat r (Ask asking out) = refused seat (asked r asking out).0
refused_call seat r (Take bytes) = refused seat (taken r bytes).0
refused_call seat r (Vote out) = refused seat (voted r out).0
refused_call seat r CarryOut = refused seat (carried_out values_kept r).0
refused_call seat r (Mark scratch out) = refused seat (marked values_kept r scratch out).0
refused_call seat r (Suspect out) = refused seat (suspected r out).0
refused_call seat r (Open out) = refused seat (opened r out).0

abbrev pub refused_event : World (List ℕ) → Event → List (ℕ × Refusal)
refused_event w (At seat c) = refused_call seat (w.members seat).replica c
refused_event w (Elsewhere seat c) = refused seat (counting.called alike seat (w.others seat) c).0

abbrev pub refusals_from : World (List ℕ) → List Event → List (ℕ × Refusal)
refusals_from w [] = []
refusals_from w (e ∷ es) = refused_event w e ++ refusals_from (happened values_kept alike w e) es

abbrev pub refusals : List Event → List (ℕ × Refusal)
refusals run = refusals_from first run

-- both replicas carry the same request out, though seat 2 votes for another one at its order
abbrev pub RequestsAreCarriedOut : Type 0
RequestsAreCarriedOut =
    (run : List Event) × Happens run
    × (carried_after run 0 ≡ request 1 ∷ []) × (carried_after run 1 ≡ request 1 ∷ [])
    × ((replica_after run 0).count ≡ 1) × ((replica_after run 1).count ≡ 1)
    × ((replica_after run 0).state ≡ 1 ∷ []) × ((replica_after run 1).state ≡ 1 ∷ [])
    × (refusals run ≡ (1, WrongRole) ∷ (0, NothingToDo) ∷ (1, BadTag) ∷ (2, ValueNotAllowed) ∷ (0, OtherRequest) ∷ (0, AlreadyHeld) ∷ (1, WrongRole) ∷ (1, WrongOrder) ∷ (0, NoMessage) ∷ [])

-- after eight requests both replicas take one another's CHECKPOINT: low moves to 8, the two CHECKPOINTs are the proof, and
-- the entries fall away, all but that of a ninth request. This is not carried out before the mark is made
abbrev pub LowMoves : Type 0
LowMoves =
    (run : List Event) × Happens run
    × ((replica_after run 0).count ≡ 8) × ((replica_after run 1).count ≡ 8)
    × ((replica_after run 0).low ≡ 8) × ((replica_after run 1).low ≡ 8)
    × ((replica_after run 0).proof ≡ checkpoint 0 ∷ checkpoint 1 ∷ []) × ((replica_after run 1).proof ≡ checkpoint 0 ∷ checkpoint 1 ∷ [])
    × (proposals (replica_after run 0).entries ≡ proposal 0 9 ∷ []) × (proposals (replica_after run 1).entries ≡ proposal 0 9 ∷ [])
    × ((replica_after run 0).state ≡ (replica_after run 1).state)
    × (refusals run ≡ (1, NothingToDo) ∷ (0, NothingToDo) ∷ (1, NothingToDo) ∷ (1, OwnMessage) ∷ (1, AlreadyHeld) ∷ [])

-- in view 0 a quorum's order messages for a request are issued, and seat 1 alone carries it out. Both replicas suspect that
-- view, and seat 1 opens view 1. Its NEW-VIEW proposes the request again, seat 0 carries it out there, and both go on with
-- a second one
abbrev pub ViewsChange : Type 0
ViewsChange =
    (early late : List Event) × Happens (early ++ late)
    × Committed 3 (after early).issued 0 1 (request 1)
    × (carried_after early 0 ≡ []) × (carried_after early 1 ≡ request 1 ∷ [])
    × ((replica_after early 0).view ≡ 0) × ((replica_after early 1).view ≡ 0)
    × (map view_and_prepares (after (early ++ late)).accepted ≡ (1, proposal 1 1 ∷ []) ∷ (1, proposal 1 1 ∷ []) ∷ [])
    × (is_open (replica_after (early ++ late) 0) ≡ true) × ((replica_after (early ++ late) 0).view ≡ 1)
    × (is_open (replica_after (early ++ late) 1) ≡ true) × ((replica_after (early ++ late) 1).view ≡ 1)
    × (carried_after (early ++ late) 0 ≡ request 1 ∷ request 2 ∷ []) × (carried_after (early ++ late) 1 ≡ request 1 ∷ request 2 ∷ [])
    × (refusals (early ++ late) ≡ (0, ViewClosed) ∷ (1, NothingToDo) ∷ (0, ViewOpen) ∷ (0, WrongView) ∷ [])

-- seat 0 proposed a request that never came to seat 1. Seat 1 gave view 0 up with nothing in its record, and holds the
-- VIEW-CHANGEs of a quorum for view 1. When it suspects again, its VIEW-CHANGE for view 2 tells of that request
abbrev pub SuspicionsMerge : Type 0
SuspicionsMerge =
    (run : List Event) × Happens (run ++ At 1 (Suspect room) ∷ [])
    × (is_open (replica_after run 1) ≡ false) × ((replica_after run 1).view ≡ 1) × ((replica_after run 1).entries ≡ [])
    × (map sender_and_entries (held_changes (replica_after run 1)) ≡ (0, proposal 0 1 ∷ []) ∷ (1, []) ∷ [])
    × ((c : ViewChange) × (view_change_says 3 c ∈ (after (run ++ At 1 (Suspect room) ∷ [])).issued) × (c.sender ≡ 1) × (c.target ≡ 2) × (c.from ≡ 0) × (c.entries ≡ proposal 0 1 ∷ []))
    × (refusals run ≡ (1, NothingToDo) ∷ (1, OwnMessage) ∷ [])
