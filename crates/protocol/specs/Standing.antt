-- What a replica finds when it looks at what it holds.
use Rattle.std.specs.Prelude.{ℕ, ◌+◌, ◌%◌, Bool, true, false, if◌then◌else◌, ◌&&◌, ◌||◌, ◌==◌, List, length, map, Option, Some, None, nat_le, nat_lt, slice_index, slice_index_or, slice_set, find, filter, filter_map, count_by, take}
use Rattle.terms.specs.Numbers.{window, checkpoint_interval, longest_new_view}
use Rattle.terms.specs.Pairs.{view_part, order_part}
use Rattle.terms.specs.Quorums.{quorum_of, leader_of}
use Rattle.counter.specs.Certificates.{allows}
use Rattle.counter.specs.declared.kinds.Kind.{Kind}
use Rattle.parts.specs.Messages.{Prepare, Checkpoint}
use Rattle.parts.specs.Statements.{order_counter}
use Rattle.message.specs.Messages.{ViewChange}
use Rattle.protocol.specs.Changes.{last_order, last_of, agrees}
use Rattle.protocol.specs.Replicas.{Entry, Noted, Replica, no_votes}

-- what is held of the seats, the lowest seat first
abbrev pub held : {A : Type 0} → List (Option A) → List A
held places = filter_map (λ place. place) places

-- the entry of an order
abbrev pub entry_at : ℕ → List Entry → Option Entry
entry_at order entries = find (λ e. e.proposal.order == order) entries

-- the seat's vote is held
abbrev pub has_vote : ℕ → Entry → Bool
has_vote seat e = slice_index_or e.votes seat false

-- how many votes are held
abbrev pub vote_count : Entry → ℕ
vote_count e = count_by (λ vote. vote) e.votes

abbrev pub with_vote : ℕ → List Bool → List Bool
with_vote seat votes = slice_set votes seat true

-- the entries of an order with one more vote
abbrev pub vote_added : ℕ → ℕ → List Entry → List Entry
vote_added seat order entries =
    map (λ e. if e.proposal.order == order then record { proposal = e.proposal; votes = with_vote seat e.votes } else e) entries

-- PREPAREs as entries: with the vote of one seat, and without votes
abbrev pub with_vote_of : ℕ → Prepare → Entry
with_vote_of seat p = record { proposal = p; votes = with_vote seat no_votes }

abbrev pub without_votes : Prepare → Entry
without_votes p = record { proposal = p; votes = no_votes }

abbrev pub proposals : List Entry → List Prepare
proposals entries = map (λ e. e.proposal) entries

-- what is noted of a view
abbrev pub note_of : ℕ → List Noted → Option Noted
note_of view notes = find (λ k. k.view == view) notes

abbrev pub note_lacks : ViewChange → Option Noted → Bool
note_lacks c None = true
note_lacks c (Some k) = nat_lt c.low k.low || nat_lt (last_of c) k.top

-- no CHECKPOINT is held, or one of a lower order
abbrev pub below_order : Option Checkpoint → ℕ → Bool
below_order None order = true
below_order (Some c) order = nat_lt c.order order

abbrev pub is_held : {A : Type 0} → Option A → Bool
is_held None = false
is_held (Some x) = true

-- a view or an order that 32 bits do not hold
abbrev pub exhausted : ℕ → Bool
exhausted number = nat_lt 4294967295 number

-- a buffer that is too short for the longest message
abbrev pub too_short : List ℕ → Bool
too_short out = nat_lt (length out) longest_new_view

module _ {St : Type 0} where
  abbrev pub quorum : Replica St → ℕ
  quorum r = quorum_of r.size

  -- the leader of the view
  abbrev pub leader : Replica St → ℕ
  leader r = leader_of r.size r.view

  abbrev pub leads : Replica St → Bool
  leads r = leader r == r.seat

  -- the view is open if the record is of it
  abbrev pub is_open : Replica St → Bool
  is_open r = r.from == r.view

  -- the order of the last entry, or low
  abbrev pub end : Replica St → ℕ
  end r = last_order r.low (proposals r.entries)

  -- a new order would be above low + 16
  abbrev pub beyond_window : Replica St → ℕ → Bool
  beyond_window r order = nat_lt (r.low + window) order

  -- what counter 0 shows for this view: 0 if it stands in another one
  abbrev pub shown : Replica St → ℕ
  shown r = if view_part (slice_index r.values order_counter) == r.view then order_part (slice_index r.values order_counter) else 0

  -- the first entry above that
  abbrev pub first_to_vote : Replica St → Option Entry
  first_to_vote r = find (λ e. nat_lt (shown r) e.proposal.order) r.entries

  -- the counter would give a certificate
  abbrev pub grants : Replica St → Kind → ℕ → ℕ → Bool
  grants r kind number new = allows kind (slice_index r.values number) new

  -- the values after a certificate
  abbrev pub set_value : Replica St → ℕ → ℕ → List ℕ
  set_value r number new = slice_set r.values number new

  abbrev pub held_changes : Replica St → List ViewChange
  held_changes r = held r.changes

  abbrev pub held_checkpoints : Replica St → List Checkpoint
  held_checkpoints r = held r.checkpoints

  -- a quorum voted for an entry
  abbrev pub voted_by_quorum : Replica St → Entry → Bool
  voted_by_quorum r e = nat_le (quorum r) (vote_count e)

  -- the VIEW-CHANGEs of the q lowest seats that are held
  abbrev pub chosen : Replica St → List ViewChange
  chosen r = take (quorum r) (held_changes r)

  -- a quorum of VIEW-CHANGEs is held
  abbrev pub quorum_held : Replica St → Bool
  quorum_held r = nat_le (quorum r) (length (held_changes r))

  -- the count is a checkpoint, and the own CHECKPOINT is not that far
  abbrev pub mark_owed : Replica St → Bool
  mark_owed r =
      nat_lt 0 r.count && (r.count % checkpoint_interval == 0 && below_order (slice_index_or r.checkpoints r.seat None) r.count)

  -- the held CHECKPOINTs that agree with one
  abbrev pub agreeing : Replica St → Checkpoint → List Checkpoint
  agreeing r c = filter (agrees c) (held_checkpoints r)

  -- low may move to a CHECKPOINT: it is above low, the count has reached it, and a quorum agrees with it
  abbrev pub settles : Replica St → Checkpoint → Bool
  settles r c = nat_lt r.low c.order && (nat_le c.order r.count && nat_le (quorum r) (length (agreeing r c)))

  abbrev pub lowered : Replica St → Option Checkpoint → Replica St
  lowered r None = r
  lowered r (Some c) = record r { low = c.order; proof = take (quorum r) (agreeing r c); entries = filter (λ e. nat_lt c.order e.proposal.order) r.entries }

  -- low moves, if a quorum of the held CHECKPOINTs agree: those of the q lowest seats become the proof, and entries up to
  -- low fall away
  unfoldable pub settled : Replica St → Replica St
  settled r = lowered r (find (settles r) (held_checkpoints r))
