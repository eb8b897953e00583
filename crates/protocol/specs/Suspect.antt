-- *suspect*: a replica gives its view up and asks for the next one with a VIEW-CHANGE. A view that is already closed is
-- given up again only when a quorum asked for it, and then nothing that they told is lost.
use Rattle.std.specs.Prelude.{ℕ, Bool, ◌+◌, max, not, if◌then◌else◌, ◌||◌, ◌==◌, List, [], ◌∷◌, ◌++◌, map, Some, slice_index, slice_set}
use Rattle.terms.specs.Numbers.{window}
use Rattle.terms.specs.Pairs.{paired}
use Rattle.terms.specs.declared.refusals.Refusal.TheVariants.{OutTooShort, NumbersExhausted, NothingToDo, CounterRefuses}
use Rattle.counter.specs.declared.kinds.Kind.TheVariants.{Continuing}
use Rattle.parts.specs.Messages.{Prepare}
use Rattle.parts.specs.Statements.{order_counter}
use Rattle.message.specs.Messages.{ViewChange as Change}
use Rattle.message.specs.Statements.{view_change_says}
use Rattle.message.specs.declared.message.Message.TheVariants.{ViewChange}
use Rattle.protocol.specs.Again.{in_turn, entries_from}
use Rattle.protocol.specs.Changes.{highest_from}
use Rattle.protocol.specs.Outcomes.{Outcome, unless, wrote}
use Rattle.protocol.specs.Replicas.{Replica, nothing_held}
use Rattle.protocol.specs.Standing.{too_short, exhausted, proposals, without_votes, is_open, held_changes, quorum_held, grants, set_value}

module _ {St : Type 0} where
  -- an open view may be given up at any time, a closed one only when a quorum gave it up
  abbrev pub may_suspect : Replica St → Bool
  may_suspect r = is_open r || quorum_held r

  -- the highest from view of the record and of the VIEW-CHANGEs that are held
  abbrev pub merged_from : Replica St → ℕ
  merged_from r = max r.from (highest_from (held_changes r))

  -- what is known of that view, its own record first, then what the seats told, the lowest seat first
  abbrev pub known_entries : Replica St → List Prepare
  known_entries r =
      (if r.from == merged_from r then proposals r.entries else []) ++ entries_from (merged_from r) (held_changes r)

  -- the record becomes all of it that stands above low
  unfoldable pub merged : Replica St → Replica St
  merged r = record r { from = merged_from r; entries = map without_votes (in_turn window r.low (known_entries r)) }

  -- the replica with the record that its VIEW-CHANGE tells
  abbrev pub gathered : Replica St → Replica St
  gathered r = if is_open r then r else merged r

  abbrev pub bare_change : Replica St → Change
  bare_change r = record {
    sender = r.seat;
    target = r.view + 1;
    previous = slice_index r.values order_counter;
    from = r.from;
    low = r.low;
    proof = r.proof;
    entries = proposals r.entries;
    tag = [];
  }

  abbrev pub own_change : Replica St → Change
  own_change r = record (bare_change r) { tag = r.rule (view_change_says r.size (bare_change r)) }

  -- the view rises, votes and VIEW-CHANGEs are dropped, and its own VIEW-CHANGE is held
  abbrev pub left : Replica St → Replica St
  left r = record r {
    values = set_value r order_counter (paired (r.view + 1) 0);
    view = r.view + 1;
    entries = map without_votes (proposals r.entries);
    changes = slice_set nothing_held r.seat (Some (own_change r));
  }

  unfoldable pub suspected : Replica St → List ℕ → Outcome (ℕ × ℕ) (List ℕ) St
  suspected r out =
      unless (too_short out) OutTooShort r out
      (unless (exhausted (r.view + 1)) NumbersExhausted r out
      (unless (not (may_suspect r)) NothingToDo r out
      (unless (not (grants r Continuing order_counter (paired (r.view + 1) 0))) CounterRefuses r out
      (wrote (r.view + 1) (ViewChange (own_change (gathered r))) out (left (gathered r)) (view_change_says r.size (own_change (gathered r)) ∷ [])))))
