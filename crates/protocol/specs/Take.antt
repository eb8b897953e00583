-- *take*: a replica reads bytes. What a message does depends on its type and on whether the view is open.
use Rattle.std.specs.Prelude.{ℕ, ◌+◌, ◌%◌, Bool, true, false, not, ◌&&◌, ◌||◌, ◌==◌, List, [], ◌∷◌, length, map, Option, Some, None, Ok, nat_le, nat_lt, bytes_eq, slice_index_or, slice_set}
use Rattle.std.specs.List.{list_any, list_all}
use Rattle.terms.specs.Numbers.{checkpoint_interval}
use Rattle.terms.specs.Quorums.{leader_of}
use Rattle.terms.specs.declared.refusals.Refusal.TheVariants.{NoMessage, ViewClosed, WrongView, ViewOpen, WrongRole, OwnMessage, NoSuchSender, WrongOrder, BeyondWindow, BadTag, AlreadyHeld, OtherRequest, IncompleteViewChange, LowAhead, HistoryMissing, UnfoundedNewView}
use Rattle.terms.specs.declared.requests.Request.{Request}
use Rattle.parts.specs.Messages.{Prepare as Proposal, Commit as Vote, Checkpoint as Mark}
use Rattle.message.specs.Decoding.{decode, type_number}
use Rattle.message.specs.Messages.{ViewChange as Change, NewView as Opening}
use Rattle.message.specs.declared.message.Message.{Message}
use Rattle.message.specs.declared.message.Message.TheVariants.{Prepare, Commit, Checkpoint, ViewChange, NewView}
use Rattle.protocol.specs.Accept.{accepted}
use Rattle.protocol.specs.Again.{proposed_again}
use Rattle.protocol.specs.Ask.{extended}
use Rattle.protocol.specs.Changes.{ascend, complete}
use Rattle.protocol.specs.Mark.{with_checkpoint}
use Rattle.protocol.specs.Outcomes.{Outcome, refuse, unless}
use Rattle.protocol.specs.Replicas.{Entry, Replica}
use Rattle.protocol.specs.Showings.{senders, shows}
use Rattle.protocol.specs.Standing.{entry_at, has_vote, vote_added, note_of, note_lacks, below_order, is_held, quorum, leader, is_open, end, beyond_window, settled}

abbrev pub same_request : Request → Request → Bool
same_request a b = a.client == b.client && (a.sequence == b.sequence && (a.code == b.code && (a.key == b.key && a.value == b.value)))

-- the same view, order and request, whatever the tags
abbrev pub same_proposal : Proposal → Proposal → Bool
same_proposal p q = p.view == q.view && (p.order == q.order && same_request p.request q.request)

abbrev pub same_proposals : List Proposal → List Proposal → Bool
same_proposals [] [] = true
same_proposals [] (q ∷ qs) = false
same_proposals (p ∷ ps) [] = false
same_proposals (p ∷ ps) (q ∷ qs) = same_proposal p q && same_proposals ps qs

-- the entry of a COMMIT's order holds its sender's vote, or another request
abbrev pub vote_held : ℕ → Option Entry → Bool
vote_held seat None = false
vote_held seat (Some e) = has_vote seat e

abbrev pub other_request : Request → Option Entry → Bool
other_request request None = false
other_request request (Some e) = not (same_request request e.proposal.request)

-- the type of the message is answered, and no buffer is lent
abbrev pub Taken : Type 0 → Type 0
Taken St = Outcome ℕ (Unit {0}) St

module _ {St : Type 0} where
  -- a sender is not below n
  abbrev pub no_such_sender : Replica St → Message → Bool
  no_such_sender r m = list_any (λ s. nat_le r.size s) (senders m)

  -- a tag in the message fails
  abbrev pub bad_tag : Replica St → Message → Bool
  bad_tag r m = not (list_all (λ x. bytes_eq (r.rule x.statement) x.tag) (shows r.size m))

  -- the replica leads the view, so a PREPARE or a NEW-VIEW of that view is its own
  abbrev pub leads_view : Replica St → ℕ → Bool
  leads_view r view = leader_of r.size view == r.seat

  -- the order is outside low + 1 to end
  abbrev pub outside_record : Replica St → ℕ → Bool
  outside_record r order = not (nat_le (r.low + 1) order && nat_le order (end r))

  -- a VIEW-CHANGE that is not complete, one whose low is above the own, one whose from view is not noted or that tells
  -- less than is noted of it
  abbrev pub any_incomplete : Replica St → List Change → Bool
  any_incomplete r cs = not (list_all (complete r.size) cs)

  abbrev pub any_low_ahead : Replica St → List Change → Bool
  any_low_ahead r cs = list_any (λ c. nat_lt r.low c.low) cs

  abbrev pub any_history_missing : Replica St → List Change → Bool
  any_history_missing r cs = list_any (λ c. note_lacks c (note_of c.from r.noted)) cs

  -- a quorum of VIEW-CHANGEs by ascending seats for that view, and the PREPAREs that open would give for them
  abbrev pub founded_on : Replica St → Opening → Bool
  founded_on r w =
      length w.changes == quorum r
      && (ascend 0 (map (λ c. c.sender) w.changes)
      && (list_all (λ c. c.target == w.view) w.changes
      && same_proposals w.prepares (proposed_again w.view w.changes)))

  -- the type of the message is answered, and low moves if it can
  abbrev pub took : Message → Replica St → Taken St
  took m after = (Ok (type_number m), settled after, tt, [])

  abbrev pub take_prepare : Replica St → Proposal → Taken St
  take_prepare r p =
      unless (not (is_open r)) ViewClosed r tt
      (unless (not (p.view == r.view)) WrongView r tt
      (unless (leads_view r p.view) OwnMessage r tt
      (unless (not (p.order == end r + 1)) WrongOrder r tt
      (unless (beyond_window r p.order) BeyondWindow r tt
      (unless (bad_tag r (Prepare p)) BadTag r tt
      (took (Prepare p) (extended r p)))))))

  abbrev pub take_commit : Replica St → Vote → Taken St
  take_commit r c =
      unless (not (is_open r)) ViewClosed r tt
      (unless (not (c.view == r.view)) WrongView r tt
      (unless (c.sender == leader r) WrongRole r tt
      (unless (c.sender == r.seat) OwnMessage r tt
      (unless (no_such_sender r (Commit c)) NoSuchSender r tt
      (unless (outside_record r c.order) WrongOrder r tt
      (unless (bad_tag r (Commit c)) BadTag r tt
      (unless (vote_held c.sender (entry_at c.order r.entries)) AlreadyHeld r tt
      (unless (other_request c.request (entry_at c.order r.entries)) OtherRequest r tt
      (took (Commit c) (record r { entries = vote_added c.sender c.order r.entries }))))))))))

  abbrev pub take_checkpoint : Replica St → Mark → Taken St
  take_checkpoint r c =
      unless (c.sender == r.seat) OwnMessage r tt
      (unless (no_such_sender r (Checkpoint c)) NoSuchSender r tt
      (unless (c.order == 0 || not (c.order % checkpoint_interval == 0)) WrongOrder r tt
      (unless (bad_tag r (Checkpoint c)) BadTag r tt
      (unless (not (below_order (slice_index_or r.checkpoints c.sender None) c.order && nat_lt r.low c.order)) AlreadyHeld r tt
      (took (Checkpoint c) (with_checkpoint r c))))))

  abbrev pub take_view_change : Replica St → Change → Taken St
  take_view_change r c =
      unless (not (c.target == r.view)) WrongView r tt
      (unless (is_open r) ViewOpen r tt
      (unless (c.sender == r.seat) OwnMessage r tt
      (unless (no_such_sender r (ViewChange c)) NoSuchSender r tt
      (unless (bad_tag r (ViewChange c)) BadTag r tt
      (unless (is_held (slice_index_or r.changes c.sender None)) AlreadyHeld r tt
      (unless (any_incomplete r (c ∷ [])) IncompleteViewChange r tt
      (unless (any_low_ahead r (c ∷ [])) LowAhead r tt
      (unless (any_history_missing r (c ∷ [])) HistoryMissing r tt
      (took (ViewChange c) (record r { changes = slice_set r.changes c.sender (Some c) }))))))))))

  abbrev pub take_new_view : Replica St → Opening → Taken St
  take_new_view r w =
      unless (nat_le w.view r.from) WrongView r tt
      (unless (leads_view r w.view) OwnMessage r tt
      (unless (no_such_sender r (NewView w)) NoSuchSender r tt
      (unless (bad_tag r (NewView w)) BadTag r tt
      (unless (any_incomplete r w.changes) IncompleteViewChange r tt
      (unless (any_low_ahead r w.changes) LowAhead r tt
      (unless (any_history_missing r w.changes) HistoryMissing r tt
      (unless (not (founded_on r w)) UnfoundedNewView r tt
      (took (NewView w) (accepted r w)))))))))

  abbrev pub take_message : Replica St → Option Message → Taken St
  take_message r None = refuse NoMessage r tt
  take_message r (Some (Prepare p)) = take_prepare r p
  take_message r (Some (Commit c)) = take_commit r c
  take_message r (Some (Checkpoint c)) = take_checkpoint r c
  take_message r (Some (ViewChange c)) = take_view_change r c
  take_message r (Some (NewView w)) = take_new_view r w

  -- the bytes are read whole, and then the message is judged
  unfoldable pub taken : Replica St → List ℕ → Taken St
  taken r bytes = take_message r (decode bytes)
