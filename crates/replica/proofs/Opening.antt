-- A leader that opens its view: what it proposes again, and the NEW-VIEW that it signs.
use Rattle.std.proofs.Common.{◌≡◌, ℕ, ◌+◌, ◌≤◌, Bool, true, false, List, [], ◌∷◌, length, map, take, length-take, slice_index, slice_set, Ok, Err, refl, ap, ap₂, sym, ◌∙◌, arith, nat_lt, ◌&&◌}
use Rattle.std.proofs.lemmas.Bool.{eqb-true}
use Rattle.terms.specs.Pairs.{paired}
use Rattle.terms.specs.Numbers.{largest_group, largest_quorum}
use Rattle.terms.specs.Quorums.{leader_of, quorum_of}
use Rattle.terms.specs.declared.refusals.Refusal.TheVariants.{CounterRefuses}
use Rattle.counter.specs.Statements.{Stated}
use Rattle.parts.specs.Messages.{Prepare}
use Rattle.parts.specs.Statements.{order_counter, view_counter}
use Rattle.message.specs.Decoding.{encode}
use Rattle.message.specs.Messages.{ViewChange as Change, NewView as Opening}
use Rattle.message.specs.declared.message.Message.TheVariants.{NewView}
use Rattle.xdr.specs.Layout.{pasted}
use Rattle.holdings.specs.Recorded.{ascends}
use Rattle.protocol.specs.Again.{proposed_again, moved_to}
use Rattle.protocol.specs.Ask.{tag_prepare}
use Rattle.protocol.specs.Changes.{ascend, highest_low}
use Rattle.protocol.specs.Open.{rise, value_behind, own_new_view, grants_opening, opened}
use Rattle.protocol.specs.Replicas.{Replica}
use Rattle.protocol.specs.Standing.{chosen, too_short, is_open, leads, quorum_held}
use Rattle.again.proofs.Founding.{ascend_below}
use Rattle.again.proofs.Orders.{proposed_again_ascends}
use Rattle.replica.specs.Signing.{signed, signed_new_view}
use Rattle.replica.specs.Standings.{accepted_with, seen}
use Rattle.replica.proofs.Orders.{accepted_so}

-- tags change neither the values of PREPAREs nor their orders
pub rise_signed : (rule : Stated → List ℕ) (seat present : ℕ) (ps : List Prepare) → rise present (map (signed rule seat) ps) ≡ rise present ps
rise_signed rule seat present [] = refl
rise_signed rule seat present (p ∷ ps) = ap (λ others. nat_lt present (paired p.view p.order) && others) (rise_signed rule seat (paired p.view p.order) ps)

pub behind_signed : (rule : Stated → List ℕ) (seat present : ℕ) (ps : List Prepare) → value_behind present (map (signed rule seat) ps) ≡ value_behind present ps
behind_signed rule seat present [] = refl
behind_signed rule seat present (p ∷ ps) = behind_signed rule seat (paired p.view p.order) ps

orders_signed : (rule : Stated → List ℕ) (seat : ℕ) (ps : List Prepare) → map (λ (p : Prepare). p.order) (map (signed rule seat) ps) ≡ map (λ (p : Prepare). p.order) ps
orders_signed rule seat [] = refl
orders_signed rule seat (p ∷ ps) = ap (λ os. p.order ∷ os) (orders_signed rule seat ps)

again_ascends : (rule : Stated → List ℕ) (seat view : ℕ) (cs : List Change) → ascends 0 (map (signed rule seat) (proposed_again view cs)) ≡ true
again_ascends rule seat view cs =
    ap (ascend 1) (orders_signed rule seat (proposed_again view cs))
    ∙ ascend_below 1 (highest_low cs + 1) (map (λ (p : Prepare). p.order) (proposed_again view cs)) (omega arith) (proposed_again_ascends view cs)

-- what is proposed again ascends, with its tags too
pub kept_ascends : (rule : Stated → List ℕ) (seat view : ℕ) (cs : List Change) (ps kept : List Prepare) → kept ≡ map (signed rule seat) ps → ps ≡ proposed_again view cs → ascends 0 kept ≡ true
kept_ascends rule seat view cs ps kept as_signed proposed = ap (ascends 0) (as_signed ∙ ap (map (signed rule seat)) proposed) ∙ again_ascends rule seat view cs

-- a quorum has room
pub few_taken : (seats most : ℕ) (taken cs : List Change) → seats ≤ largest_group → most ≡ quorum_of seats → taken ≡ take most cs → length taken ≤ largest_quorum
few_taken seats most taken cs few quorum first = omega (arith, few, quorum, ap length first, length-take most cs)

module _ {St : Type 0} (r : Replica St) (leads : leader_of r.size r.view ≡ r.seat) where
  -- the leader's seat stands in the statements
  tags_moved : (ps : List Prepare) → map (tag_prepare r) (map (moved_to r.view) ps) ≡ map (signed r.rule r.seat) (map (moved_to r.view) ps)
  tags_moved [] = refl
  tags_moved (p ∷ ps) = ap₂ (λ (q : Prepare) (qs : List Prepare). q ∷ qs) (ap (λ seat. signed r.rule seat (moved_to r.view p)) leads) (tags_moved ps)

  tags_again : (cs : List Change) → map (tag_prepare r) (proposed_again r.view cs) ≡ map (signed r.rule r.seat) (proposed_again r.view cs)
  unfolding proposed_again
  tags_again cs = tags_moved _

  pub own_signed : own_new_view r ≡ signed_new_view r.rule r.seat r.view (chosen r) (proposed_again r.view (chosen r))
  unfolding own_new_view
  own_signed = rw (tags_again (chosen r), leads) refl

-- given the VIEW-CHANGEs that are shown, what is proposed again, and what the counter says to it
module _ {St : Type 0} (r : Replica St) (out : List ℕ) (room : too_short out ≡ false) (closed : is_open r ≡ false) (leading : leads r ≡ true) (enough : quorum_held r ≡ true) (ps : List Prepare) (cs : List Change) (proposed : ps ≡ proposed_again r.view cs) (shown : cs ≡ chosen r) (granted : Bool) (asked : granted ≡ (rise (slice_index r.values order_counter) ps && nat_lt (slice_index r.values view_counter) r.view)) where
  abbrev told : Opening
  told = signed_new_view r.rule r.seat r.view cs ps

  own_told : own_new_view r ≡ told
  own_told = own_signed r (eqb-true _ _ leading) ∙ rw (proposed, shown) refl

  grants_told : grants_opening r (own_new_view r) ≡ granted
  grants_told = ap (grants_opening r) own_told ∙ ap (λ rising. rising && nat_lt (slice_index r.values view_counter) r.view) (rise_signed r.rule r.seat (slice_index r.values order_counter) ps) ∙ sym asked

  -- the call refuses
  pub refused : granted ≡ false → (Err CounterRefuses, r, out) ≡ seen (opened r out)
  unfolding opened
  refused not_given = rw (room, closed, leading, enough, grants_told, not_given) refl

  -- or it opens the view
  pub opens :
      granted ≡ true
      → (low : ℕ) → low ≡ highest_low cs
      → (kept : List Prepare) → kept ≡ map (signed r.rule r.seat) ps
      → (before after : Replica St) → before ≡ record r { values = slice_set (slice_set r.values order_counter (value_behind (slice_index r.values order_counter) ps)) view_counter r.view } → after ≡ accepted_with before r.view low kept
      → (bytes : ℕ) → bytes ≡ length (encode (NewView told))
      → (written : List ℕ) → written ≡ pasted out 0 (encode (NewView told))
      → (Ok (r.view, bytes), after, written) ≡ seen (opened r out)
  unfolding opened
  opens given low lowest kept as_signed before after valued later bytes long written at_front =
      rw (room, closed, leading, enough, grants_told, given, own_told, later, valued, lowest, as_signed, long, at_front, sym (accepted_so r told), behind_signed r.rule r.seat (slice_index r.values order_counter) ps) refl
