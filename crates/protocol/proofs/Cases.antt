-- A call is refused, or all its tests passed: what holds of each refusal, and of the answer if the tests passed, holds of the
-- call.
use Rattle.std.specs.Prelude.{◌==◌, ◌&&◌, ◌||◌, ◌+◌, ◌%◌, not, Bool, true, false, Ok, Some, None, nat_lt, nat_le, slice_index_or, slice_set, length, List, [], ◌∷◌}
use Rattle.std.proofs.Common.{◌≡◌, ℕ, refl}
use Rattle.terms.specs.Numbers.{checkpoint_interval}
use Rattle.terms.specs.Pairs.{paired}
use Rattle.terms.specs.declared.refusals.Refusal.{Refusal}
use Rattle.terms.specs.declared.requests.Request.{Request}
use Rattle.counter.specs.declared.kinds.Kind.TheVariants.{Continuing, Independent}
use Rattle.xdr.specs.Layout.{pasted}
use Rattle.parts.specs.Messages.{Prepare as Proposal, Commit as Vote, Checkpoint as Mark}
use Rattle.parts.specs.Statements.{order_counter, checkpoint_counter, prepare_says, commit_says, checkpoint_says}
use Rattle.message.specs.Decoding.{encode}
use Rattle.message.specs.Messages.{ViewChange as Change, NewView as Opening}
use Rattle.message.specs.Statements.{view_change_says}
use Rattle.message.specs.declared.message.Message.TheVariants.{Prepare, Commit, Checkpoint, ViewChange, NewView}
use Rattle.protocol.specs.Accept.{accepted}
use Rattle.protocol.specs.Ask.{next_order, proposal, extended, after_ask, asked}
use Rattle.protocol.specs.CarryOut.{after_carry_out, entry_carried_out, carried_out}
use Rattle.protocol.specs.Mark.{with_checkpoint, own_mark, after_mark, marked}
use Rattle.protocol.specs.Meanings.{Meaning}
use Rattle.protocol.specs.Open.{own_new_view, grants_opening, opening_says, after_open, opened}
use Rattle.protocol.specs.Outcomes.{Outcome, refuse, unless, wrote}
use Rattle.protocol.specs.Replicas.{Entry, Replica}
use Rattle.protocol.specs.Standing.{too_short, exhausted, leader, leads, is_open, end, beyond_window, grants, quorum_held, mark_owed, settled, first_to_vote, entry_at, voted_by_quorum, vote_added, below_order, is_held}
use Rattle.protocol.specs.Suspect.{may_suspect, gathered, own_change, left, suspected}
use Rattle.protocol.specs.Take.{Taken, took, no_such_sender, bad_tag, leads_view, outside_record, any_incomplete, any_low_ahead, any_history_missing, founded_on, vote_held, other_request, take_prepare, take_commit, take_checkpoint, take_view_change, take_new_view}
use Rattle.protocol.specs.Vote.{commit_for, after_vote, vote_cast, voted}

module _ {A B St : Type 0} (P : Outcome A B St → Type 0) where
  -- one test: it stops the call, or the call goes on
  by_test : (b : Bool) (refusal : Refusal) (r : Replica St) (lent : B) (next : Outcome A B St) → P (refuse refusal r lent) → (b ≡ false → P next) → P (unless b refusal r lent next)
  by_test true refusal r lent next stopped on = stopped
  by_test false refusal r lent next stopped on = on refl

module _ {St : Type 0} (r : Replica St) where
  pub asked_cases : (request : Request) (out : List ℕ) (P : Outcome (ℕ × ℕ) (List ℕ) St → Type 0) → ((refusal : Refusal) → P (refuse refusal r out))
      → (too_short out ≡ false → not (is_open r) ≡ false → not (leads r) ≡ false → beyond_window r (next_order r) ≡ false → exhausted (next_order r) ≡ false → not (grants r Independent order_counter (paired r.view (next_order r))) ≡ false
      → P (wrote (next_order r) (Prepare (proposal r request)) out (after_ask r request) (prepare_says r.size (proposal r request) ∷ [])))
      → P (asked r request out)
  unfolding asked
  asked_cases request out P stopped answered = search (by_test P, stopped, answered) depth 9

  pub cast_cases : (out : List ℕ) (e : Entry) (P : Outcome (ℕ × ℕ) (List ℕ) St → Type 0) → ((refusal : Refusal) → P (refuse refusal r out))
      → (not (grants r Independent order_counter (paired r.view e.proposal.order)) ≡ false
      → P (wrote e.proposal.order (Commit (commit_for r e.proposal)) out (after_vote r e.proposal.order) (commit_says r.size (commit_for r e.proposal) ∷ [])))
      → P (vote_cast r out (Some e))
  cast_cases out e P stopped answered = search (by_test P, stopped, answered)

  pub voted_cases : (out : List ℕ) (P : Outcome (ℕ × ℕ) (List ℕ) St → Type 0) → ((refusal : Refusal) → P (refuse refusal r out))
      → (too_short out ≡ false → not (is_open r) ≡ false → leads r ≡ false → P (vote_cast r out (first_to_vote r)))
      → P (voted r out)
  unfolding voted
  voted_cases out P stopped answered = search (by_test P, stopped, answered) depth 6

  pub entry_cases : (M : Meaning St) (e : Entry) (P : Outcome (ℕ × (ℕ × ℕ)) (Unit {0}) St → Type 0) → ((refusal : Refusal) → P (refuse refusal r tt))
      → ((not (voted_by_quorum r e) || mark_owed r) ≡ false
      → P (Ok (r.count + 1, M.reply r.state e.proposal.request), settled (after_carry_out M r e), tt, []))
      → P (entry_carried_out M r (Some e))
  entry_cases M e P stopped answered = search (by_test P, stopped, answered)

  pub carried_cases : (M : Meaning St) (P : Outcome (ℕ × (ℕ × ℕ)) (Unit {0}) St → Type 0) → ((refusal : Refusal) → P (refuse refusal r tt))
      → (not (is_open r) ≡ false → P (entry_carried_out M r (entry_at (r.count + 1) r.entries)))
      → P (carried_out M r)
  unfolding carried_out
  carried_cases M P stopped answered = search (by_test P, stopped, answered)

  pub marked_cases : (M : Meaning St) (scratch out : List ℕ) (P : Outcome (ℕ × ℕ) (List ℕ × List ℕ) St → Type 0) → ((refusal : Refusal) → P (refuse refusal r (scratch, out)))
      → (too_short out ≡ false → nat_lt (length scratch) (length (M.written r.state)) ≡ false → not (mark_owed r) ≡ false → not (grants r Continuing checkpoint_counter 0) ≡ false
      → P (Ok (r.count, length (encode (Checkpoint (own_mark M r)))), settled (after_mark M r), (pasted scratch 0 (M.written r.state), pasted out 0 (encode (Checkpoint (own_mark M r)))), checkpoint_says r.size (own_mark M r) ∷ []))
      → P (marked M r scratch out)
  unfolding marked
  marked_cases M scratch out P stopped answered = search (by_test P, stopped, answered) depth 7

  pub suspected_cases : (out : List ℕ) (P : Outcome (ℕ × ℕ) (List ℕ) St → Type 0) → ((refusal : Refusal) → P (refuse refusal r out))
      → (too_short out ≡ false → exhausted (r.view + 1) ≡ false → not (may_suspect r) ≡ false → not (grants r Continuing order_counter (paired (r.view + 1) 0)) ≡ false
      → P (wrote (r.view + 1) (ViewChange (own_change (gathered r))) out (left (gathered r)) (view_change_says r.size (own_change (gathered r)) ∷ [])))
      → P (suspected r out)
  unfolding suspected
  suspected_cases out P stopped answered = search (by_test P, stopped, answered) depth 7

  pub opened_cases : (out : List ℕ) (P : Outcome (ℕ × ℕ) (List ℕ) St → Type 0) → ((refusal : Refusal) → P (refuse refusal r out))
      → (too_short out ≡ false → is_open r ≡ false → not (leads r) ≡ false → not (quorum_held r) ≡ false → not (grants_opening r (own_new_view r)) ≡ false
      → P (wrote r.view (NewView (own_new_view r)) out (after_open r (own_new_view r)) (opening_says r.size (own_new_view r))))
      → P (opened r out)
  unfolding opened
  opened_cases out P stopped answered = search (by_test P, stopped, answered) depth 8

  pub prepare_cases : (p : Proposal) (P : Taken St → Type 0) → ((refusal : Refusal) → P (refuse refusal r tt))
      → (not (is_open r) ≡ false → not (p.view == r.view) ≡ false → leads_view r p.view ≡ false → not (p.order == end r + 1) ≡ false → beyond_window r p.order ≡ false → bad_tag r (Prepare p) ≡ false
      → P (took (Prepare p) (extended r p)))
      → P (take_prepare r p)
  prepare_cases p P stopped answered = search (by_test P, stopped, answered) depth 9

  pub commit_cases : (c : Vote) (P : Taken St → Type 0) → ((refusal : Refusal) → P (refuse refusal r tt))
      → (not (is_open r) ≡ false → not (c.view == r.view) ≡ false → (c.sender == leader r) ≡ false → (c.sender == r.seat) ≡ false → no_such_sender r (Commit c) ≡ false → outside_record r c.order ≡ false → bad_tag r (Commit c) ≡ false → vote_held c.sender (entry_at c.order r.entries) ≡ false → other_request c.request (entry_at c.order r.entries) ≡ false
      → P (took (Commit c) (record r { entries = vote_added c.sender c.order r.entries })))
      → P (take_commit r c)
  commit_cases c P stopped answered = search (by_test P, stopped, answered) depth 12

  pub checkpoint_cases : (c : Mark) (P : Taken St → Type 0) → ((refusal : Refusal) → P (refuse refusal r tt))
      → ((c.sender == r.seat) ≡ false → no_such_sender r (Checkpoint c) ≡ false → (c.order == 0 || not (c.order % checkpoint_interval == 0)) ≡ false → bad_tag r (Checkpoint c) ≡ false → not (below_order (slice_index_or r.checkpoints c.sender None) c.order && nat_lt r.low c.order) ≡ false
      → P (took (Checkpoint c) (with_checkpoint r c)))
      → P (take_checkpoint r c)
  checkpoint_cases c P stopped answered = search (by_test P, stopped, answered) depth 8

  pub view_change_cases : (c : Change) (P : Taken St → Type 0) → ((refusal : Refusal) → P (refuse refusal r tt))
      → (not (c.target == r.view) ≡ false → is_open r ≡ false → (c.sender == r.seat) ≡ false → no_such_sender r (ViewChange c) ≡ false → bad_tag r (ViewChange c) ≡ false → is_held (slice_index_or r.changes c.sender None) ≡ false → any_incomplete r (c ∷ []) ≡ false → any_low_ahead r (c ∷ []) ≡ false → any_history_missing r (c ∷ []) ≡ false
      → P (took (ViewChange c) (record r { changes = slice_set r.changes c.sender (Some c) })))
      → P (take_view_change r c)
  view_change_cases c P stopped answered = search (by_test P, stopped, answered) depth 12

  pub new_view_cases : (w : Opening) (P : Taken St → Type 0) → ((refusal : Refusal) → P (refuse refusal r tt))
      → (nat_le w.view r.from ≡ false → leads_view r w.view ≡ false → no_such_sender r (NewView w) ≡ false → bad_tag r (NewView w) ≡ false → any_incomplete r w.changes ≡ false → any_low_ahead r w.changes ≡ false → any_history_missing r w.changes ≡ false → not (founded_on r w) ≡ false
      → P (took (NewView w) (accepted r w)))
      → P (take_new_view r w)
  new_view_cases w P stopped answered = search (by_test P, stopped, answered) depth 11
