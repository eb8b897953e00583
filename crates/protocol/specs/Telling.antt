-- What an answered call tells.
use Rattle.std.specs.Prelude.{◌≡◌, ℕ, ◌+◌, List, [], ◌∷◌, ◌++◌, take, Some, Ok}
use Rattle.terms.specs.declared.requests.Request.{Request}
use Rattle.counter.specs.Statements.{Stated}
use Rattle.parts.specs.Fits.{RequestFits}
use Rattle.parts.specs.Messages.{Prepare as Proposal, Commit as Vote, Checkpoint as Mark}
use Rattle.parts.specs.Statements.{prepare_says}
use Rattle.message.specs.Decoding.{decode, tag_of, says}
use Rattle.message.specs.Messages.{ViewChange as Change, NewView as Opening}
use Rattle.message.specs.declared.message.Message.{Message}
use Rattle.message.specs.declared.message.Message.TheVariants.{Prepare, Commit, Checkpoint, ViewChange, NewView}
use Rattle.protocol.specs.Agreement.{Founding, after_all}
use Rattle.protocol.specs.Ask.{asked}
use Rattle.protocol.specs.CarryOut.{carried_out}
use Rattle.protocol.specs.Mark.{marked}
use Rattle.protocol.specs.Meanings.{Meaning}
use Rattle.protocol.specs.Open.{opened}
use Rattle.protocol.specs.Outcomes.{Outcome}
use Rattle.protocol.specs.Runs.{Event, Member, beginning, by_carrying_out, played, Run, Correct}
use Rattle.protocol.specs.Sets.{◌∈◌}
use Rattle.protocol.specs.Standing.{proposals, chosen}
use Rattle.protocol.specs.Suspect.{suspected}
use Rattle.protocol.specs.Vote.{voted}

-- so many bytes at the front of a buffer are a message, and its tag is the rule's for its statement
abbrev pub Stands : ℕ → (Stated → List ℕ) → ℕ → List ℕ → Message → Type 0
Stands n rule count out m = (decode (take count out) ≡ Some m) × (tag_of m ≡ rule (says n m))

-- of a seat with its replica and its history, in a group of n whose services start in one state
module _ {St : Type 0} (M : Meaning St) (n : ℕ) (rule : Stated → List ℕ) (start : St) (seat : ℕ) (m : Member St) where
  -- a PREPARE for the request, of the replica's view and with the answered order
  abbrev pub AskTells : Request → Outcome (ℕ × ℕ) (List ℕ) St → Type 0
  AskTells request o =
      (order count : ℕ) → o.0 ≡ Ok (order, count)
      → (p : Proposal) × Stands n rule count o.2 (Prepare p)
      × (p.view ≡ m.replica.view) × (p.order ≡ order) × (p.request ≡ request)

  -- the seat's COMMIT, of that view and with the answered order, for the request that the record holds proposed there
  abbrev pub VoteTells : Outcome (ℕ × ℕ) (List ℕ) St → Type 0
  VoteTells o =
      (order count : ℕ) → o.0 ≡ Ok (order, count)
      → (c : Vote) × Stands n rule count o.2 (Commit c)
      × (c.sender ≡ seat) × (c.view ≡ m.replica.view) × (c.order ≡ order)
      × ((p : Proposal) × (p ∈ proposals m.replica.entries) × (p.order ≡ order) × (p.request ≡ c.request))

  -- the seat's CHECKPOINT for the answered order, which is the count, with the digest of the written state
  abbrev pub MarkTells : Outcome (ℕ × ℕ) (List ℕ × List ℕ) St → Type 0
  MarkTells o =
      (order count : ℕ) → o.0 ≡ Ok (order, count)
      → (c : Mark) × Stands n rule count o.2.1 (Checkpoint c)
      × (c.sender ≡ seat) × (c.order ≡ order) × (order ≡ m.replica.count) × (c.digest ≡ M.digest (M.written m.replica.state))

  -- the seat's VIEW-CHANGE to the answered view, which is the next one, with the replica's low mark and the proof of that
  abbrev pub SuspectTells : Outcome (ℕ × ℕ) (List ℕ) St → Type 0
  SuspectTells o =
      (view count : ℕ) → o.0 ≡ Ok (view, count)
      → (c : Change) × Stands n rule count o.2 (ViewChange c)
      × (c.sender ≡ seat) × (c.target ≡ view) × (view ≡ m.replica.view + 1) × (c.low ≡ m.replica.low) × (c.proof ≡ m.replica.proof)

  -- a NEW-VIEW of the answered view, which is the replica's, with the chosen VIEW-CHANGEs. Each PREPARE that it proposes has
  -- the tag of its statement as well
  abbrev pub OpenTells : Outcome (ℕ × ℕ) (List ℕ) St → Type 0
  OpenTells o =
      (view count : ℕ) → o.0 ≡ Ok (view, count)
      → (x : Opening) × Stands n rule count o.2 (NewView x)
      × (x.view ≡ view) × (view ≡ m.replica.view) × (x.changes ≡ chosen m.replica)
      × ((p : Proposal) → p ∈ x.prepares → p.tag ≡ rule (prepare_says n p))

  -- the number of the request that the seat's list gains, and what the service replies to it behind the requests before it.
  -- So equal lists mean equal replies
  abbrev pub CarryOutTells : Outcome (ℕ × (ℕ × ℕ)) (Unit {0}) St → Type 0
  CarryOutTells o =
      (order : ℕ) (reply : ℕ × ℕ) → o.0 ≡ Ok (order, reply)
      → (request : Request) × (order ≡ m.replica.count + 1)
      × (reply ≡ M.reply (after_all M.next start m.history.carried) request)
      × ((by_carrying_out m.history o).member.history.carried ≡ m.history.carried ++ request ∷ [])

  -- with any arguments, of which the request is what its type holds
  pub record Tells : Type 0 where
    pub ask : (request : Request) (out : List ℕ) → RequestFits request → AskTells request (asked m.replica request out)
    pub vote : (out : List ℕ) → VoteTells (voted m.replica out)
    pub mark : (scratch out : List ℕ) → MarkTells (marked M m.replica scratch out)
    pub suspect : (out : List ℕ) → SuspectTells (suspected m.replica out)
    pub open_view : (out : List ℕ) → OpenTells (opened m.replica out)
    pub carry_out : CarryOutTells (carried_out M m.replica)

-- after every run of every group, of each seat that keeps to the rules
abbrev pub AnswersTell : {St : Type 0} → Meaning St → Type 0
AnswersTell {St} M =
    (n : ℕ) (rule : Stated → List ℕ) (faulty : List ℕ) (start : St) → Founding n rule faulty M.digest
    → (run : List Event) → Run M n rule faulty (beginning n rule start) run
    → (seat : ℕ) → Correct n faulty seat → Tells M n rule start seat ((played M rule (beginning n rule start) run).members seat)
