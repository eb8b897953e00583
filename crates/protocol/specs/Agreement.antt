-- What may be relied on of the correct replicas of a group, after any run.
use Rattle.std.specs.Prelude.{◌≡◌, ℕ, ◌<◌, ◌≤◌, ◌⊎◌, true, List, [], ◌∷◌, length, take, map}
use Rattle.terms.specs.Numbers.{tag_bytes, digest_bytes}
use Rattle.terms.specs.Quorums.{group_sized, quorum_of, fault_limit, leader_of}
use Rattle.terms.specs.declared.requests.Request.{Request}
use Rattle.counter.specs.Statements.{Stated}
use Rattle.parts.specs.Fits.{IsInt, RequestFits}
use Rattle.parts.specs.Messages.{Prepare, Checkpoint}
use Rattle.parts.specs.Statements.{prepare_says, commit_says, checkpoint_says}
use Rattle.message.specs.Messages.{ViewChange, NewView}
use Rattle.protocol.specs.Changes.{low_of}
use Rattle.protocol.specs.Meanings.{Meaning}
use Rattle.protocol.specs.Runs.{Event, World, beginning, played, Run, Correct}
use Rattle.protocol.specs.Standing.{held_changes}
use Rattle.protocol.specs.Sets.{◌∈◌, Distinct, Begins}

-- a state after requests, in their order
abbrev pub after_all : {St : Type 0} → (St → Request → St) → St → List Request → St
after_all next state [] = state
after_all next state (r ∷ rs) = after_all next (next state r) rs

-- the seat's order message for a request at an order of a view: the leader's PREPARE, or the seat's COMMIT
abbrev pub Ordered : ℕ → List Stated → ℕ → ℕ → Request → ℕ → Type 0
Ordered n issued view order request seat =
    ((seat ≡ leader_of n view) × (prepare_says n (record { view = view; order = order; request = request; tag = [] }) ∈ issued))
    ⊎ (commit_says n (record { sender = seat; view = view; order = order; request = request; tag = [] }) ∈ issued)

-- the order messages of a quorum of seats
pub record Committed (n : ℕ) (issued : List Stated) (view order : ℕ) (request : Request) : Type 0 where
  pub seats : List ℕ
  pub many : quorum_of n ≤ length seats
  pub distinct : Distinct seats
  pub seated : (seat : ℕ) → seat ∈ seats → seat < n
  pub ordered : (seat : ℕ) → seat ∈ seats → Ordered n issued view order request seat

module _ {St : Type 0} (M : Meaning St) (n : ℕ) (faulty : List ℕ) (start : St) (w : World St) where
  abbrev pub list_of : ℕ → List Request
  list_of seat = (w.members seat).history.carried

  abbrev pub count_of : ℕ → ℕ
  count_of seat = (w.members seat).replica.count

  abbrev pub state_of : ℕ → St
  state_of seat = (w.members seat).replica.state

  -- a low mark, and the CHECKPOINTs that prove it
  abbrev pub mark_of : ℕ → ℕ
  mark_of seat = (w.members seat).replica.low

  abbrev pub proof_of : ℕ → List Checkpoint
  proof_of seat = (w.members seat).replica.proof

  pub record Agreed : Type 0 where
    -- all proposals that correct replicas have seen for one view and order have the same request
    pub unique : (s t : ℕ) → Correct n faulty s → Correct n faulty t → (p q : Prepare) → p ∈ (w.members s).history.seen → q ∈ (w.members t).history.seen → p.view ≡ q.view → p.order ≡ q.order → p.request ≡ q.request
    -- of the lists of requests that two correct replicas carried out, one begins the other
    pub lists : (s t : ℕ) → Correct n faulty s → Correct n faulty t → Begins (list_of s) (list_of t) ⊎ Begins (list_of t) (list_of s)
    -- a correct replica has carried out as many as it counts, and its state is the starting state after them, in order
    pub follows : (s : ℕ) → Correct n faulty s → (length (list_of s) ≡ count_of s) × (state_of s ≡ after_all M.next start (list_of s))
    -- two that carried out equally many have equal states, and write the same bytes
    pub equal : (s t : ℕ) → Correct n faulty s → Correct n faulty t → count_of s ≡ count_of t → (state_of s ≡ state_of t) × (M.written (state_of s) ≡ M.written (state_of t))

  pub record Brought : Type 0 where
    -- once a quorum's order messages for a request at an order of a view are issued, every NEW-VIEW of a later view that a
    -- correct replica accepts proposes that request there again, or has its low at or above that order
    pub again : (view order : ℕ) (request : Request) → IsInt view → IsInt order → RequestFits request → Committed n w.issued view order request
        → (x : NewView) → x ∈ w.accepted → view < x.view
        → (order ≤ low_of x) ⊎ ((p : Prepare) × (p ∈ x.prepares) × (p.view ≡ x.view) × (p.order ≡ order) × (p.request ≡ request))

  -- the register behind the first requests of a seat's list
  abbrev pub register_behind : ℕ → ℕ → St
  register_behind order seat = after_all M.next start (take order (list_of seat))

  -- issued CHECKPOINTs of a quorum for an order
  pub record ByQuorum (order : ℕ) (proof : List Checkpoint) : Type 0 where
    pub many : quorum_of n ≤ length proof
    pub distinct : Distinct (map (λ (c : Checkpoint). c.sender) proof)
    pub seated : (c : Checkpoint) → c ∈ proof → c.sender < n
    pub orders : (c : Checkpoint) → c ∈ proof → c.order ≡ order
    pub issued : (c : Checkpoint) → c ∈ proof → checkpoint_says n c ∈ w.issued

  -- CHECKPOINTs prove a low mark: if it is above 0, they are a quorum's for its order, and they tell the register behind as
  -- many requests, of every correct replica that has carried out that many
  pub record Proven (low : ℕ) (proof : List Checkpoint) : Type 0 where
    pub quorum : 0 < low → ByQuorum low proof
    pub register : (t : ℕ) → Correct n faulty t → (c : Checkpoint) → c ∈ proof → low ≤ count_of t → c.digest ≡ M.digest (M.written (register_behind low t))

  pub record Marked : Type 0 where
    -- a correct replica has carried out no fewer requests than its low mark says, and its low mark is proved
    pub low : (s : ℕ) → Correct n faulty s → mark_of s ≤ count_of s
    pub proof : (s : ℕ) → Correct n faulty s → Proven (mark_of s) (proof_of s)
    -- in a VIEW-CHANGE that it holds, the low mark is not above its own, and is proved, too
    pub held : (s : ℕ) → Correct n faulty s → (x : ViewChange) → x ∈ held_changes (w.members s).replica → (x.low ≤ mark_of s) × Proven x.low x.proof

-- the founding of a group: its size, a tag rule, at most f seats that are not correct, and a digest
pub record Founding (n : ℕ) (rule : Stated → List ℕ) (faulty : List ℕ) (digest : List ℕ → List ℕ) : Type 0 where
  pub sized : group_sized n ≡ true
  pub whole_tags : (s : Stated) → length (rule s) ≡ tag_bytes
  pub few : length faulty ≤ fault_limit n
  pub whole_digests : (bytes : List ℕ) → length (digest bytes) ≡ digest_bytes

-- of every run of every group, whatever its tag rule, its service and the state that its services start in
abbrev pub GroupAgrees : {St : Type 0} → Meaning St → Type 0
GroupAgrees {St} M =
    (n : ℕ) (rule : Stated → List ℕ) (faulty : List ℕ) (start : St) → Founding n rule faulty M.digest
    → (run : List Event) → Run M n rule faulty (beginning n rule start) run
    → Agreed M n faulty start (played M rule (beginning n rule start) run)

abbrev pub LaterViewsBring : {St : Type 0} → Meaning St → Type 0
LaterViewsBring {St} M =
    (n : ℕ) (rule : Stated → List ℕ) (faulty : List ℕ) (start : St) → Founding n rule faulty M.digest
    → (run : List Event) → Run M n rule faulty (beginning n rule start) run
    → Brought M n faulty start (played M rule (beginning n rule start) run)

abbrev pub LowMarksTell : {St : Type 0} → Meaning St → Type 0
LowMarksTell {St} M =
    (n : ℕ) (rule : Stated → List ℕ) (faulty : List ℕ) (start : St) → Founding n rule faulty M.digest
    → (run : List Event) → Run M n rule faulty (beginning n rule start) run
    → Marked M n faulty start (played M rule (beginning n rule start) run)
