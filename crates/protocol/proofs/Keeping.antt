-- What holds of a correct seat at each moment of a run, and what is to be shown of each call.
use Rattle.std.specs.Prelude.{slice_index}
use Rattle.std.proofs.Common.{◌≡◌, ℕ, List, length}
use Rattle.terms.specs.declared.requests.Request.{Request}
use Rattle.counter.specs.Statements.{Stated}
use Rattle.parts.specs.Fits.{IsInt, PrepareFits, CheckpointFits}
use Rattle.parts.specs.Messages.{Prepare, Checkpoint}
use Rattle.parts.specs.Statements.{order_counter, prepare_says, commit_says, checkpoint_says}
use Rattle.message.specs.Fits.{ViewChangeFits}
use Rattle.message.specs.Messages.{ViewChange, NewView}
use Rattle.message.specs.Statements.{view_change_says}
use Rattle.protocol.specs.Agreement.{after_all}
use Rattle.protocol.specs.Meanings.{Meaning}
use Rattle.protocol.specs.Replicas.{Entry, Replica}
use Rattle.protocol.specs.Runs.{Member, Came, put_on}
use Rattle.protocol.specs.Sets.{◌∈◌}
use Rattle.protocol.specs.Standing.{end, proposals}
use Rattle.protocol.proofs.Agreement.{InOrder, in_order_grows}
use Rattle.protocol.proofs.Growth.{Longer, later, voted_grows, prepared_grows, backed_grows, proved_grows, standing_grows}
use Rattle.protocol.proofs.History.{Group, Past, Legal, commit_of, Prepared, Standing, Accepted, Cause, Sound}
use Rattle.protocol.proofs.Seats.{NotAhead, EntryOk, Holds}
use Rattle.protocol.proofs.Values.{Matches}

-- what was seen was tagged, and the record holds nothing that was not seen
pub record Saw {St : Type 0} (g : Group) (h : Past) (seen : List Prepare) (r : Replica St) : Type 0 where
  pub issued : (p : Prepare) → p ∈ seen → Prepared g h p
  pub entries : (p : Prepare) → p ∈ proposals r.entries → p ∈ seen

-- as many requests as are counted were carried out in order, and they made the state
pub record Reached {St : Type 0} (g : Group) (h : Past) (next : St → Request → St) (start : St) (rs : List Request) (count : ℕ) (state : St) : Type 0 where
  pub counted : length rs ≡ count
  pub made : state ≡ after_all next start rs
  pub done : InOrder g h rs

-- what a correct seat's CHECKPOINT tells: the digest of a state after as many requests as its order, carried out in order
pub record Told {St : Type 0} (g : Group) (h : Past) (M : Meaning St) (start : St) (c : Checkpoint) : Type 0 where
  pub requests : List Request
  pub state : St
  pub reached : Reached g h M.next start requests c.order state
  pub digest : c.digest ≡ M.digest (M.written state)

-- the group's size, the seat and the tag rule of a replica
pub record Founded {St : Type 0} (n s : ℕ) (t : Stated → List ℕ) (r : Replica St) : Type 0 where
  pub size : r.size ≡ n
  pub seat : r.seat ≡ s
  pub rule : r.rule ≡ t

-- the replica of a seat: its size, seat and rule are the group's
abbrev pub of_seat : {St : Type 0} → Group → (Stated → List ℕ) → ℕ → Replica St → Replica St
of_seat g rule seat r = record r { size = g.seats; seat = seat; rule = rule }

-- a member whose replica is founded so has the replica of its seat
pub own_replica : {St : Type 0} (g : Group) (rule : Stated → List ℕ) (seat : ℕ) (m : Member St) → Founded g.seats seat rule m.replica
    → m ≡ record m { replica = of_seat g rule seat m.replica }
own_replica g rule seat m f = λ i. record m { replica = record m.replica { size = f.size i; seat = f.seat i; rule = f.rule i } }

module _ (g : Group) {St : Type 0} (M : Meaning St) (start : St) (rule : Stated → List ℕ) where
  -- a correct seat at a moment of a run
  pub record Fine (h : Past) (seat : ℕ) (m : Member St) : Type 0 where
    pub founded : Founded g.seats seat rule m.replica
    pub holds : Holds g h m.replica
    pub shows : NotAhead (slice_index m.replica.values order_counter) m.replica.view m.replica.from (end m.replica)
    pub matches : Matches h.log seat m.replica.values
    pub saw : Saw g h m.history.seen m.replica
    pub view : m.history.view ≡ m.replica.view
    pub reached : Reached g h M.next start m.history.carried m.replica.count m.replica.state

  -- the past after a call
  abbrev pub past_after : Past → Came St → Past
  past_after h c = later h c.certified c.entered

  -- what is to be shown of a call
  pub record Kept (h : Past) (seat : ℕ) (c : Came St) : Type 0 where
    pub fine : Fine (past_after h c) seat c.member
    pub legal : Legal (put_on c.certified h.log)
    pub by : (x : Stated) → x ∈ c.certified → x.seat ≡ seat
    pub views : (w : NewView) → w ∈ c.entered → Accepted g (past_after h c) w
    pub changes : (x : ViewChange) → ViewChangeFits x → view_change_says g.seats x ∈ c.certified → Standing g (past_after h c) x × Cause g (past_after h c) x
    pub asks : (p : Prepare) → PrepareFits p → prepare_says g.seats p ∈ c.certified → Sound g (past_after h c) p
    pub commits : (p : Prepare) (t : ℕ) → PrepareFits p → IsInt t → commit_says g.seats (commit_of t p) ∈ c.certified → Sound g (past_after h c) p
    pub tells : (k : Checkpoint) → CheckpointFits k → checkpoint_says g.seats k ∈ c.certified → Told g (past_after h c) M start k

-- what holds of a past holds of each longer one
module _ (g : Group) (h k : Past) (longer : Longer h k) where
  entry_grows : (e : Entry) → EntryOk g h e → EntryOk g k e
  entry_grows e o = record { prepared = prepared_grows g h k longer e.proposal o.prepared; voted = λ s m. let v = o.voted s m in (v.0, voted_grows g h k longer e.proposal s v.1) }

  pub holds_grows : {St : Type 0} (r : Replica St) → Holds g h r → Holds g k r
  holds_grows r H = record {
    entries = record { run = H.entries.run; few = H.entries.few; each = λ e m. entry_grows e (H.entries.each e m); backed = backed_grows g h k longer _ _ _ H.entries.backed };
    notes = λ x m. backed_grows g h k longer _ _ _ (H.notes x m);
    behind = H.behind;
    changes = record {
      each = λ c m. let o = H.changes.each c m in record { standing = standing_grows g h k longer c o.standing; aimed = o.aimed; not_above = o.not_above; seated = o.seated };
      placed = H.changes.placed;
    };
    numbers = H.numbers;
    marks = record {
      short = H.marks.short;
      proved = proved_grows g h k longer _ _ H.marks.proved;
      each = λ c m. let o = H.marks.each c m in record { fits = o.fits; issued = longer.log _ o.issued; seated = o.seated };
      placed = H.marks.placed;
    };
  }

  pub saw_grows : {St : Type 0} (seen : List Prepare) (r : Replica St) → Saw g h seen r → Saw g k seen r
  saw_grows seen r S = record { issued = λ p m. prepared_grows g h k longer p (S.issued p m); entries = S.entries }

  pub reached_grows : {St : Type 0} (next : St → Request → St) (start : St) (rs : List Request) (count : ℕ) (state : St) → Reached g h next start rs count state
      → Reached g k next start rs count state
  reached_grows next start rs count state R = record { counted = R.counted; made = R.made; done = in_order_grows g h k longer rs R.done }

  pub told_grows : {St : Type 0} (M : Meaning St) (start : St) (c : Checkpoint) → Told g h M start c → Told g k M start c
  told_grows M start c T = record { requests = T.requests; state = T.state; reached = reached_grows M.next start T.requests c.order T.state T.reached; digest = T.digest }
