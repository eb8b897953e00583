-- A replica of any counter and any service, as the rules see it.
use Rattle.std.specs.Prelude.{ℕ, ◌+◌, max, Bool, if◌then◌else◌, List, [], ◌∷◌, ◌++◌, map, filter, Some, Ok, Err, Result, nat_lt, slice_index, slice_set}
use Rattle.std.specs.Result.{result_map_both}
use Rattle.terms.specs.declared.pairs.Order.{Order}
use Rattle.terms.specs.declared.pairs.View.{View}
use Rattle.terms.specs.declared.refusals.Refusal.{Refusal}
use Rattle.terms.specs.declared.refusals.Refusal.TheVariants.{BeyondWindow, NumbersExhausted}
use Rattle.counter.specs.Statements.{Stated}
use Rattle.drafts.specs.Says.{kept_checkpoint}
use Rattle.message.specs.Messages.{ViewChange as Change}
use Rattle.parts.specs.Messages.{Prepare}
use Rattle.protocol.specs.Accept.{latest}
use Rattle.protocol.specs.Ask.{next_order}
use Rattle.protocol.specs.Changes.{last_order}
use Rattle.protocol.specs.Outcomes.{Outcome}
use Rattle.protocol.specs.Standing.{beyond_window, exhausted, set_value, with_vote_of, without_votes}
use Rattle.terms.specs.Pairs.{paired}
use Rattle.parts.specs.Statements.{order_counter}
use Rattle.message.specs.Statements.{view_change_says}
use Rattle.terms.specs.Quorums.{leader_of}
use Rattle.protocol.specs.Replicas as rules
use Rattle.protocol.specs.Replicas.{nothing_held}
use Rattle.replica.specs.declared.replica.Replica.{Replica}
use Rattle.replica.specs.declared.standing.Role.{Role}
use Rattle.replica.specs.declared.standing.Role.TheVariants.{Leader, Follower}
use Rattle.replica.specs.declared.standing.Standing.{Standing}
use Rattle.replica.specs.declared.standing.Standing.TheVariants.{Open, Closed}

-- given what counters and services mean
module _ {C S St : Type 0} (size seat : C → ℕ) (rule : C → Stated → List ℕ) (values : C → List ℕ) (state : S → St) where
  abbrev pub standing_of : Replica C S → rules.Replica St
  standing_of r = record {
    size = size r.counter;
    seat = seat r.counter;
    rule = rule r.counter;
    values = values r.counter;
    view = r.view.0;
    low = r.record.low;
    proof = map kept_checkpoint r.proof.items;
    from = r.record.from;
    entries = r.record.entries;
    noted = r.notes;
    changes = r.suspicions;
    checkpoints = r.claims;
    count = r.count;
    state = state r.service;
  }

abbrev pub open_if : Bool → Standing
open_if opened = if opened then Open else Closed

abbrev pub leader_if : Bool → Role
leader_if leads = if leads then Leader else Follower

-- what the caller sees of a call's outcome: the answer, the replica and the buffers
abbrev pub seen : {A B St : Type 0} → Outcome A B St → Result A Refusal × rules.Replica St × B
seen o = (o.0, o.1, o.2)

-- where no buffer is lent
abbrev pub seen_alone : {A B St : Type 0} → Outcome A B St → Result A Refusal × rules.Replica St
seen_alone o = (o.0, o.1)

-- the order after the end, or why there is none
abbrev pub order_after : {St : Type 0} → rules.Replica St → Result ℕ Refusal
order_after r =
    if beyond_window r (next_order r) then Err BeyondWindow else
    if exhausted (next_order r) then Err NumbersExhausted else Ok (next_order r)

-- answers whose first part is an order or a view, with its number
abbrev pub ordered : {A : Type 0} → Result (Order × A) Refusal → Result (ℕ × A) Refusal
ordered answer = result_map_both (λ a. (a.0.0, a.1)) (λ refusal. refusal) answer

abbrev pub viewed : {A : Type 0} → Result (View × A) Refusal → Result (ℕ × A) Refusal
viewed answer = result_map_both (λ a. (a.0.0, a.1)) (λ refusal. refusal) answer

module _ {St : Type 0} where
  -- a replica that accepts the NEW-VIEW of a view with this low and these PREPAREs
  abbrev pub accepted_with : rules.Replica St → ℕ → ℕ → List Prepare → rules.Replica St
  accepted_with r view low ps = record r {
    view = max r.view view;
    from = view;
    entries = map (with_vote_of (leader_of r.size view)) (filter (λ p. nat_lt r.low p.order) ps);
    noted = latest (r.noted ++ record { view = view; low = low; top = last_order low ps } ∷ []);
    changes = if nat_lt view r.view then r.changes else nothing_held;
  }

  -- a replica that holds a VIEW-CHANGE in its sender's place
  abbrev pub with_change : rules.Replica St → Change → rules.Replica St
  with_change r c = record r { changes = slice_set r.changes c.sender (Some c) }

  -- the VIEW-CHANGE that tells what is known of a view, before it is tagged and then
  abbrev pub bare_change_with : rules.Replica St → ℕ → List Prepare → Change
  bare_change_with r from ps = record {
    sender = r.seat;
    target = r.view + 1;
    previous = slice_index r.values order_counter;
    from = from;
    low = r.low;
    proof = r.proof;
    entries = ps;
    tag = [];
  }

  abbrev pub change_with : rules.Replica St → ℕ → List Prepare → Change
  change_with r from ps = record (bare_change_with r from ps) { tag = r.rule (view_change_says r.size (bare_change_with r from ps)) }

  -- a replica that gave its view up and told this
  abbrev pub left_with : rules.Replica St → ℕ → List Prepare → rules.Replica St
  left_with r from ps = record r {
    values = set_value r order_counter (paired (r.view + 1) 0);
    view = r.view + 1;
    from = from;
    entries = map without_votes ps;
    changes = slice_set nothing_held r.seat (Some (change_with r from ps));
  }
