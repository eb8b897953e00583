-- Runs of a group: calls at the seats that keep to the rules, with any arguments, and counter calls at the others.
use Rattle.std.specs.Prelude.{◌≡◌, ℕ, max, ◌<◌, true, if◌then◌else◌, ◌&&◌, ◌==◌, List, [], ◌∷◌, ◌++◌, take, Option, Some, None, Ok, Err, Result, bytes_eq, find}
use Rattle.terms.specs.declared.refusals.Refusal.{Refusal}
use Rattle.terms.specs.declared.requests.Request.{Request}
use Rattle.counter.specs.Certificates.{fresh_values, certificate_for}
use Rattle.counter.specs.Laws.{granted}
use Rattle.counter.specs.Laws as counting
use Rattle.counter.specs.Statements.{Stated}
use Rattle.parts.specs.Fits.{RequestFits}
use Rattle.parts.specs.Messages.{Prepare as Proposal}
use Rattle.xdr.specs.Laws.{Bytes}
use Rattle.message.specs.Decoding.{decode}
use Rattle.message.specs.Messages.{NewView}
use Rattle.message.specs.declared.message.Message.{Message}
use Rattle.protocol.specs.Ask.{asked}
use Rattle.protocol.specs.CarryOut.{carried_out}
use Rattle.protocol.specs.Mark.{marked}
use Rattle.protocol.specs.Meanings.{Meaning}
use Rattle.protocol.specs.Open.{opened}
use Rattle.protocol.specs.Outcomes.{Outcome}
use Rattle.protocol.specs.Replicas.{Replica, founded}
use Rattle.protocol.specs.Sets.{◌∈◌}
use Rattle.protocol.specs.Showings.{Showing, shows, standing_in, new_views_in}
use Rattle.protocol.specs.Suspect.{suspected}
use Rattle.protocol.specs.Take.{taken}
use Rattle.protocol.specs.Vote.{voted}

-- a call with its arguments: a request, bytes, buffers
pub data Call : Type 0 where
  Ask : Request → List ℕ → Call
  Take : List ℕ → Call
  Vote : List ℕ → Call
  CarryOut : Call
  Mark : List ℕ → List ℕ → Call
  Suspect : List ℕ → Call
  Open : List ℕ → Call

-- an entry of a run: a call at a correct seat, or a certificate call at another one's counter. Reading a value and checking
-- a tag change nothing, so they are none
pub data Event : Type 0 where
  At : ℕ → Call → Event
  Elsewhere : ℕ → counting.Call → Event

-- what a seat has lived through: the proposals that it has seen, the highest view that it accepted or its suspect
-- answered, and the requests that it carried out
pub record History : Type 0 where
  pub seen : List Proposal
  pub view : ℕ
  pub carried : List Request

pub record Member (St : Type 0) : Type 0 where
  pub replica : Replica St
  pub history : History

pub record World (St : Type 0) : Type 0 where
  -- at each correct seat a replica with its history, at each other one the values of a counter
  pub members : ℕ → Member St
  pub others : ℕ → List ℕ
  -- the statements that counters of the group certified, the latest first
  pub issued : List Stated
  -- the NEW-VIEWs that correct replicas accepted
  pub accepted : List NewView

-- the group when nothing has happened: every counter is fresh, and all services are in one state
abbrev pub beginning : {St : Type 0} → ℕ → (Stated → List ℕ) → St → World St
beginning n rule start = record {
  members = λ seat. record { replica = founded n seat rule fresh_values start; history = record { seen = []; view = 0; carried = [] } };
  others = λ seat. fresh_values;
  issued = [];
  accepted = [];
}

abbrev pub at_seat : {A : Type 0} → ℕ → A → (ℕ → A) → ℕ → A
at_seat seat x places other = if other == seat then x else places other

-- statements put on a list one after the other
abbrev pub put_on : List Stated → List Stated → List Stated
put_on [] issued = issued
put_on (s ∷ later) issued = put_on later (s ∷ issued)

-- the bytes of the message that a call wrote; none if it was refused
abbrev pub written_bytes : Result (ℕ × ℕ) Refusal → List ℕ → List ℕ
written_bytes (Ok answer) out = take answer.1 out
written_bytes (Err refusal) out = []

-- the bytes of the message that was taken; none if it was refused
abbrev pub taken_bytes : Result ℕ Refusal → List ℕ → List ℕ
taken_bytes (Ok type) bytes = bytes
taken_bytes (Err refusal) bytes = []

-- the NEW-VIEW that bytes are, if they are one
abbrev pub new_views_of : Option Message → List NewView
new_views_of None = []
new_views_of (Some m) = new_views_in m

abbrev pub proposals_of : Option Message → List Proposal
proposals_of None = []
proposals_of (Some m) = standing_in m

abbrev pub entered_view : List NewView → ℕ
entered_view [] = 0
entered_view (w ∷ ws) = w.view

-- what bytes that were written or taken unrefused add to a history
abbrev pub witnessed : List ℕ → History → History
witnessed bytes h = record h { seen = proposals_of (decode bytes) ++ h.seen; view = max h.view (entered_view (new_views_of (decode bytes))) }

-- the view that suspect answered
abbrev pub answered_view : Result (ℕ × ℕ) Refusal → ℕ
answered_view (Ok answer) = answer.0
answered_view (Err refusal) = 0

abbrev pub gave_up : Result (ℕ × ℕ) Refusal → History → History
gave_up answer h = record h { view = max h.view (answered_view answer) }

-- the request that was seen proposed for an order in a view
abbrev pub requests_of : Option Proposal → List Request
requests_of None = []
requests_of (Some p) = p.request ∷ []

abbrev pub seen_proposed : ℕ → ℕ → List Proposal → List Request
seen_proposed view order seen = requests_of (find (λ p. p.view == view && p.order == order) seen)

-- carry out adds the request that was seen proposed for the answered order in the seat's view
abbrev pub gained : Result (ℕ × (ℕ × ℕ)) Refusal → History → History
gained (Ok answer) h = record h { carried = h.carried ++ seen_proposed h.view answer.0 h.seen }
gained (Err refusal) h = h

-- what a call comes to in a run: the member afterwards, what was certified, and the NEW-VIEWs that were accepted
pub record Came (St : Type 0) : Type 0 where
  pub member : Member St
  pub certified : List Stated
  pub entered : List NewView

module _ {St : Type 0} where
  -- of a call whose message, written or taken, is these bytes
  abbrev pub by_message : List ℕ → History → Replica St → List Stated → Came St
  by_message bytes h after certified = record {
    member = record { replica = after; history = witnessed bytes h };
    certified = certified;
    entered = new_views_of (decode bytes);
  }

  abbrev pub by_writing : History → Outcome (ℕ × ℕ) (List ℕ) St → Came St
  by_writing h o = by_message (written_bytes o.0 o.2) h o.1 o.3

  -- suspect answers a view besides
  abbrev pub by_suspecting : History → Outcome (ℕ × ℕ) (List ℕ) St → Came St
  by_suspecting h o = record {
    member = record { replica = o.1; history = gave_up o.0 (witnessed (written_bytes o.0 o.2) h) };
    certified = o.3;
    entered = new_views_of (decode (written_bytes o.0 o.2));
  }

  -- mark is lent the scratch besides
  abbrev pub by_marking : History → Outcome (ℕ × ℕ) (List ℕ × List ℕ) St → Came St
  by_marking h o = by_message (written_bytes o.0 o.2.1) h o.1 o.3

  abbrev pub by_taking : List ℕ → History → Outcome ℕ (Unit {0}) St → Came St
  by_taking bytes h o = by_message (taken_bytes o.0 bytes) h o.1 o.3

  abbrev pub by_carrying_out : History → Outcome (ℕ × (ℕ × ℕ)) (Unit {0}) St → Came St
  by_carrying_out h o = record { member = record { replica = o.1; history = gained o.0 h }; certified = o.3; entered = [] }

  abbrev pub came_to : World St → ℕ → Came St → World St
  came_to w seat c = record w { members = at_seat seat c.member w.members; issued = put_on c.certified w.issued; accepted = c.entered ++ w.accepted }

  -- a counter call at another seat: its answer by the tag rule, its values, and what it certified
  abbrev pub counted : (Stated → List ℕ) → World St → ℕ → counting.Call → World St
  counted rule w seat c = record w {
    others = at_seat seat (counting.called rule seat (w.others seat) c).1 w.others;
    issued = put_on (granted (counting.called rule seat (w.others seat) c).0 (certificate_for seat (w.others seat) c.kind c.number c.new c.message)) w.issued;
  }

  module _ (M : Meaning St) where
    abbrev pub called : Member St → Call → Came St
    called m (Ask request out) = by_writing m.history (asked m.replica request out)
    called m (Take bytes) = by_taking bytes m.history (taken m.replica bytes)
    called m (Vote out) = by_writing m.history (voted m.replica out)
    called m CarryOut = by_carrying_out m.history (carried_out M m.replica)
    called m (Mark scratch out) = by_marking m.history (marked M m.replica scratch out)
    called m (Suspect out) = by_suspecting m.history (suspected m.replica out)
    called m (Open out) = by_writing m.history (opened m.replica out)

    abbrev pub happened : (Stated → List ℕ) → World St → Event → World St
    happened rule w (At seat c) = came_to w seat (called (w.members seat) c)
    happened rule w (Elsewhere seat c) = counted rule w seat c

    -- a run, from the first entry on
    abbrev pub played : (Stated → List ℕ) → World St → List Event → World St
    played rule w [] = w
    played rule w (e ∷ es) = played rule (happened rule w e) es

-- every tag in a message that passes its check is for a statement that was issued
abbrev pub AllIssued : ℕ → (Stated → List ℕ) → List Stated → Option Message → Type 0
AllIssued n rule issued None = Unit {0}
AllIssued n rule issued (Some m) = (x : Showing) → x ∈ shows n m → bytes_eq (rule x.statement) x.tag ≡ true → x.statement ∈ issued

-- the arguments are what their types hold, and no tag in delivered bytes passes before its statement was issued
abbrev pub Possible : ℕ → (Stated → List ℕ) → List Stated → Call → Type 0
Possible n rule issued (Ask request out) = RequestFits request
Possible n rule issued (Take bytes) = Bytes bytes × AllIssued n rule issued (decode bytes)
Possible n rule issued (Vote out) = Unit {0}
Possible n rule issued CarryOut = Unit {0}
Possible n rule issued (Mark scratch out) = Unit {0}
Possible n rule issued (Suspect out) = Unit {0}
Possible n rule issued (Open out) = Unit {0}

-- a seat of the group that keeps to the rules
abbrev pub Correct : ℕ → List ℕ → ℕ → Type 0
Correct n faulty seat = (seat < n) × (seat ∈ faulty → ⊥)

-- calls are made at correct seats, and counter calls at the others
abbrev pub MayHappen : ℕ → (Stated → List ℕ) → List ℕ → List Stated → Event → Type 0
MayHappen n rule faulty issued (At seat c) = Correct n faulty seat × Possible n rule issued c
MayHappen n rule faulty issued (Elsewhere seat c) = seat ∈ faulty

module _ {St : Type 0} (M : Meaning St) where
  -- a run that may happen, from a world on
  abbrev pub Run : ℕ → (Stated → List ℕ) → List ℕ → World St → List Event → Type 0
  Run n rule faulty w [] = Unit {0}
  Run n rule faulty w (e ∷ es) = MayHappen n rule faulty w.issued e × Run n rule faulty (happened M rule w e) es
