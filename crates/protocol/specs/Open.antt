-- *open*: the leader of a closed view opens it with a quorum's VIEW-CHANGEs, and proposes again what they show.
use Rattle.std.specs.Prelude.{ℕ, Bool, true, not, ◌&&◌, List, [], ◌∷◌, ◌++◌, map, nat_lt, slice_index, slice_set}
use Rattle.terms.specs.Pairs.{paired}
use Rattle.terms.specs.declared.refusals.Refusal.TheVariants.{OutTooShort, ViewOpen, WrongRole, NothingToDo, CounterRefuses}
use Rattle.counter.specs.Statements.{Stated}
use Rattle.parts.specs.Messages.{Prepare}
use Rattle.parts.specs.Statements.{order_counter, view_counter, prepare_says}
use Rattle.message.specs.Messages.{NewView as Opening}
use Rattle.message.specs.Statements.{new_view_says}
use Rattle.message.specs.declared.message.Message.TheVariants.{NewView}
use Rattle.protocol.specs.Accept.{accepted}
use Rattle.protocol.specs.Again.{proposed_again}
use Rattle.protocol.specs.Ask.{tag_prepare}
use Rattle.protocol.specs.Outcomes.{Outcome, unless, wrote}
use Rattle.protocol.specs.Replicas.{Replica}
use Rattle.protocol.specs.Standing.{too_short, leads, is_open, chosen, quorum_held}

-- the values of PREPAREs rise from the present one on
abbrev pub rise : ℕ → List Prepare → Bool
rise present [] = true
rise present (p ∷ ps) = nat_lt present (paired p.view p.order) && rise (paired p.view p.order) ps

-- the value of a counter after PREPAREs
abbrev pub value_behind : ℕ → List Prepare → ℕ
value_behind present [] = present
value_behind present (p ∷ ps) = value_behind (paired p.view p.order) ps

-- what is certified: the PREPAREs in turn, then the NEW-VIEW
abbrev pub opening_says : ℕ → Opening → List Stated
opening_says n w = map (prepare_says n) w.prepares ++ new_view_says n w ∷ []

module _ {St : Type 0} where
  abbrev pub bare_new_view : Replica St → Opening
  bare_new_view r = record { view = r.view; changes = chosen r; prepares = map (tag_prepare r) (proposed_again r.view (chosen r)); tag = [] }

  unfoldable pub own_new_view : Replica St → Opening
  own_new_view r = record (bare_new_view r) { tag = r.rule (new_view_says r.size (bare_new_view r)) }

  -- the counter would give all certificates that are needed, one after the other
  abbrev pub grants_opening : Replica St → Opening → Bool
  grants_opening r w = rise (slice_index r.values order_counter) w.prepares && nat_lt (slice_index r.values view_counter) w.view

  abbrev pub opening_values : Replica St → Opening → List ℕ
  opening_values r w = slice_set (slice_set r.values order_counter (value_behind (slice_index r.values order_counter) w.prepares)) view_counter w.view

  abbrev pub after_open : Replica St → Opening → Replica St
  after_open r w = record (accepted r w) { values = opening_values r w }

  unfoldable pub opened : Replica St → List ℕ → Outcome (ℕ × ℕ) (List ℕ) St
  opened r out =
      unless (too_short out) OutTooShort r out
      (unless (is_open r) ViewOpen r out
      (unless (not (leads r)) WrongRole r out
      (unless (not (quorum_held r)) NothingToDo r out
      (unless (not (grants_opening r (own_new_view r))) CounterRefuses r out
      (wrote r.view (NewView (own_new_view r)) out (after_open r (own_new_view r)) (opening_says r.size (own_new_view r)))))))
