-- What is gathered from VIEW-CHANGEs, by a NEW-VIEW and by a replica that suspects again: PREPAREs without a gap, all of them
-- told, as far as any that were told.
use Rattle.std.proofs.Common.{◌≡◌, ℕ, zero, suc, ◌+◌, ◌<◌, ◌≤◌, ◌⊎◌, inl, inr, nat_eq, if◌then◌else◌, List, [], ◌∷◌, length, map, Option, Some, None, sym, refl, ap, ◌∙◌, subst, arith}
use Rattle.std.proofs.lemmas.Bool.{cases_lt, eqb-true, eq-eqb, cond-true, cond_both}
use Rattle.std.proofs.lemmas.List.{length-map}
use Rattle.terms.specs.Numbers.{window}
use Rattle.parts.specs.Messages.{Prepare}
use Rattle.message.specs.Messages.{ViewChange}
use Rattle.protocol.specs.Again.{prepare_at, before, in_turn, entries_from, moved_to, proposed_again}
use Rattle.protocol.specs.Changes.{last_order, last_of, highest_low, highest_from}
use Rattle.protocol.specs.Replicas.{Entry, Replica, no_votes}
use Rattle.protocol.specs.Sets.{◌∈◌}
use Rattle.protocol.specs.Standing.{without_votes, proposals, end, held_changes}
use Rattle.protocol.specs.Suspect.{merged_from, known_entries, merged}
use Rattle.protocol.proofs.Highest.{highest_bounds}
use Rattle.protocol.proofs.History.{InTurn}
use Rattle.protocol.proofs.Lists.{in_left, in_right, in_either, in_map, in_flat_map, to_flat_map, find_told, find_some}
use Rattle.protocol.proofs.Turns.{turn_view, turn_has, turn_last, proposals_length, proposals_without_votes}

found_at : (order : ℕ) (pool : List Prepare) (p : Prepare) → prepare_at order pool ≡ Some p → (p ∈ pool) × (p.order ≡ order)
found_at order pool p e = let told = find_told (λ (q : Prepare). nat_eq q.order order) p pool e in (told.0, eqb-true p.order order told.1)

module _ (f : ℕ) (pool : List Prepare) (viewed : (p : Prepare) → p ∈ pool → p.view ≡ f) where
  before_run : (low : ℕ) (rest : List Prepare) (found : Option Prepare) → prepare_at (low + 1) pool ≡ found → InTurn f (low + 1) rest → InTurn f low (before found rest)
  before_run low rest None e r = tt
  before_run low rest (Some p) e r = let found = found_at (low + 1) pool p e in (viewed p found.0, found.1, r)

  -- PREPAREs of one view that are put in turn are in turn
  in_turn_run : (most low : ℕ) → InTurn f low (in_turn most low pool)
  in_turn_run zero low = tt
  in_turn_run (suc most) low = before_run low (in_turn most (low + 1) pool) (prepare_at (low + 1) pool) refl (in_turn_run most (low + 1))

in_before : (p : Prepare) (rest : List Prepare) (found : Option Prepare) → p ∈ before found rest → (found ≡ Some p) ⊎ (p ∈ rest)
in_before p rest None m = absurd m
in_before p rest (Some q) (inl e) = inl (ap Some (sym e))
in_before p rest (Some q) (inr m) = inr m

in_turn_source : (most low : ℕ) (pool : List Prepare) (p : Prepare) → p ∈ in_turn most low pool → p ∈ pool
in_turn_source zero low pool p m = absurd m
in_turn_source (suc most) low pool p m = elim (in_before p (in_turn most (low + 1) pool) (prepare_at (low + 1) pool) m) [
  | inl e ↦ (found_at (low + 1) pool p e).0
  | inr k ↦ in_turn_source most (low + 1) pool p k
]

before_length : (rest : List Prepare) (found : Option Prepare) → length (before found rest) ≤ length rest + 1
before_length rest None = omega arith
before_length rest (Some p) = omega arith

in_turn_length : (most low : ℕ) (pool : List Prepare) → length (in_turn most low pool) ≤ most
in_turn_length zero low pool = omega arith
in_turn_length (suc most) low pool = omega (arith, before_length (in_turn most (low + 1) pool) (prepare_at (low + 1) pool), in_turn_length most (low + 1) pool)

-- they reach an order, if each order up to it has a PREPARE
in_turn_up_to : (most low top : ℕ) (pool : List Prepare) → top ≤ low + most → ((o : ℕ) → low < o → o ≤ top → (p : Prepare) × (p ∈ pool) × (p.order ≡ o))
    → top ≤ low + length (in_turn most low pool)
in_turn_up_to zero low top pool near has = near
in_turn_up_to (suc most) low top pool near has = elim (cases_lt low top) [
  | inr le ↦ omega arith
  | inl lt ↦
      let first = has (low + 1) (omega arith) (omega arith) in
      let found = find_some (λ (q : Prepare). nat_eq q.order (low + 1)) first.0 pool first.1 (eq-eqb first.0.order (low + 1) first.2) in
      let later : top ≤ low + 1 + length (in_turn most (low + 1) pool) = in_turn_up_to most (low + 1) top pool (omega arith) (λ o above within. has o (omega arith) within) in
      subst (λ (found : Option Prepare). top ≤ low + length (before found (in_turn most (low + 1) pool))) (sym found.1) (omega arith)
]

-- they reach as far as PREPAREs in turn that are among them
in_turn_reach : (f l : ℕ) (qs : List Prepare) (most low : ℕ) (pool : List Prepare) → InTurn f l qs → l ≤ low → length qs ≤ most
    → ((q : Prepare) → q ∈ qs → q ∈ pool) → last_order l qs ≤ low + length (in_turn most low pool)
in_turn_reach f l qs most low pool r le short among =
    let last : last_order l qs ≡ l + length qs = turn_last f l qs r in
    in_turn_up_to most low (last_order l qs) pool (omega arith)
    (λ o above within. let q = turn_has f l qs o r (omega arith) (omega arith) in (q.0, among q.0 q.1, q.3))

-- what stands in a list that counts only if two numbers are the same
in_if_same : (a b : ℕ) (ps : List Prepare) (p : Prepare) → p ∈ (if nat_eq a b then ps else []) → (a ≡ b) × (p ∈ ps)
in_if_same a b ps p = cond_both (nat_eq a b) ps [] (λ (qs : List Prepare). p ∈ qs → (a ≡ b) × (p ∈ ps)) (λ same m. (eqb-true a b same, m)) (λ other none. absurd none)

to_if_same : (a b : ℕ) (ps : List Prepare) (p : Prepare) → a ≡ b → p ∈ ps → p ∈ (if nat_eq a b then ps else [])
to_if_same a b ps p same m = subst (λ (qs : List Prepare). p ∈ qs) (sym (cond-true (nat_eq a b) ps [] (eq-eqb a b same))) m

-- entries of one from view
entries_source : (from : ℕ) (cs : List ViewChange) (p : Prepare) → p ∈ entries_from from cs → (c : ViewChange) × (c ∈ cs) × (c.from ≡ from) × (p ∈ c.entries)
entries_source from cs p m =
    let r = in_flat_map _ p cs m in
    let told = in_if_same r.0.from from r.0.entries p r.2 in
    (r.0, r.1, told.0, told.1)

entries_among : (from : ℕ) (cs : List ViewChange) (c : ViewChange) (p : Prepare) → c ∈ cs → c.from ≡ from → p ∈ c.entries → p ∈ entries_from from cs
entries_among from cs c p m e k = to_flat_map _ p c cs m (to_if_same c.from from c.entries p e k)

entries_viewed : (from : ℕ) (cs : List ViewChange) → ((c : ViewChange) → c ∈ cs → InTurn c.from c.low c.entries) → (p : Prepare) → p ∈ entries_from from cs → p.view ≡ from
entries_viewed from cs turns p m =
    let (c, among, same, k) = entries_source from cs p m in
    turn_view c.from c.low c.entries p (turns c among) k ∙ same

moved_run : (view f low : ℕ) (ps : List Prepare) → InTurn f low ps → InTurn view low (map (moved_to view) ps)
moved_run view f low [] r = tt
moved_run view f low (p ∷ ps) r = (refl, r.1, moved_run view f (low + 1) ps r.2)

moved_reach : (view f : ℕ) (pool : List Prepare) → ((p : Prepare) → p ∈ pool → p.view ≡ f)
    → (g l : ℕ) (qs : List Prepare) (most low : ℕ) → InTurn g l qs → l ≤ low → length qs ≤ most → ((q : Prepare) → q ∈ qs → q ∈ pool)
    → last_order l qs ≤ last_order low (map (moved_to view) (in_turn most low pool))
moved_reach view f pool viewed g l qs most low r le short among =
    let run = moved_run view f low (in_turn most low pool) (in_turn_run f pool viewed most low) in
    omega (arith, in_turn_reach g l qs most low pool r le short among, turn_last view low (map (moved_to view) (in_turn most low pool)) run, length-map (in_turn most low pool) (moved_to view))

-- what is proposed again: it is in turn, told, and reaches as far as each VIEW-CHANGE of the highest from view
module _ (view : ℕ) (cs : List ViewChange) where
  -- the entries of the highest from view, and those of them that are proposed
  abbrev latest_entries : List Prepare
  latest_entries = entries_from (highest_from cs) cs

  abbrev latest_in_turn : List Prepare
  latest_in_turn = in_turn window (highest_low cs) latest_entries

  pub again_source : (p : Prepare) → p ∈ proposed_again view cs
      → (c : ViewChange) × (e : Prepare) × (c ∈ cs) × (c.from ≡ highest_from cs) × (e ∈ c.entries) × (e.order ≡ p.order) × (e.request ≡ p.request)
  unfolding proposed_again
  again_source p m =
      let (e, k, moved) = in_map (moved_to view) p latest_in_turn m in
      let (c, among, top, told) = entries_source (highest_from cs) cs e (in_turn_source window (highest_low cs) latest_entries e k) in
      (c, e, among, top, told, ap (λ (q : Prepare). q.order) (sym moved), ap (λ (q : Prepare). q.request) (sym moved))

  pub again_length : length (proposed_again view cs) ≤ window
  unfolding proposed_again
  again_length = subst (λ (n : ℕ). n ≤ window) (sym (length-map latest_in_turn (moved_to view))) (in_turn_length window (highest_low cs) latest_entries)

  module _ (turns : (c : ViewChange) → c ∈ cs → InTurn c.from c.low c.entries) where
    pub again_run : InTurn view (highest_low cs) (proposed_again view cs)
    unfolding proposed_again
    again_run = moved_run view (highest_from cs) (highest_low cs) _ (in_turn_run (highest_from cs) latest_entries (entries_viewed (highest_from cs) cs turns) window (highest_low cs))

    pub again_reach : (c : ViewChange) → c ∈ cs → length c.entries ≤ window → c.from ≡ highest_from cs → last_of c ≤ last_order (highest_low cs) (proposed_again view cs)
    unfolding proposed_again
    again_reach c m short top =
        moved_reach view (highest_from cs) latest_entries (entries_viewed (highest_from cs) cs turns) c.from c.low c.entries window (highest_low cs)
        (turns c m) (highest_bounds (λ (x : ViewChange). x.low) cs c m) short (λ p k. entries_among (highest_from cs) cs c p m top k)

-- the record that a replica gathers when it suspects again: of it the same holds
module _ {St : Type 0} (r : Replica St) where
  -- a PREPARE of its from view stood in the record, or in a VIEW-CHANGE that is held
  abbrev pub Known : Prepare → Type 0
  Known p = ((r.from ≡ merged_from r) × (p ∈ proposals r.entries)) ⊎ ((c : ViewChange) × (c ∈ held_changes r) × (c.from ≡ merged_from r) × (p ∈ c.entries))

  -- what becomes of it
  abbrev known_in_turn : List Prepare
  known_in_turn = in_turn window r.low (known_entries r)

  -- the own part of what is known
  abbrev own_entries : List Prepare
  own_entries = if nat_eq r.from (merged_from r) then proposals r.entries else []

  known_source : (p : Prepare) → p ∈ known_entries r → Known p
  known_source p m = elim (in_either p own_entries (entries_from (merged_from r) (held_changes r)) m) [
    | inl k ↦ inl (in_if_same r.from (merged_from r) (proposals r.entries) p k)
    | inr k ↦ inr (entries_source (merged_from r) (held_changes r) p k)
  ]

  own_among : (p : Prepare) → r.from ≡ merged_from r → p ∈ proposals r.entries → p ∈ known_entries r
  own_among p e m =
      in_left p own_entries (entries_from (merged_from r) (held_changes r))
      (to_if_same r.from (merged_from r) (proposals r.entries) p e m)

  told_among : (c : ViewChange) (p : Prepare) → c ∈ held_changes r → c.from ≡ merged_from r → p ∈ c.entries → p ∈ known_entries r
  told_among c p m e k =
      in_right p own_entries (entries_from (merged_from r) (held_changes r)) (entries_among (merged_from r) (held_changes r) c p m e k)

  merged_proposals : proposals (merged r).entries ≡ known_in_turn
  unfolding merged
  merged_proposals = proposals_without_votes known_in_turn

  pub merged_source : (p : Prepare) → p ∈ proposals (merged r).entries → Known p
  merged_source p m = known_source p (in_turn_source window r.low (known_entries r) p (subst (λ (ps : List Prepare). p ∈ ps) merged_proposals m))

  pub merged_votes : (e : Entry) → e ∈ (merged r).entries → e.votes ≡ no_votes
  unfolding merged
  merged_votes e m = let (p, k, is) = in_map without_votes e known_in_turn m in ap (λ (x : Entry). x.votes) is

  pub merged_length : length (merged r).entries ≤ window
  unfolding merged
  merged_length = subst (λ (n : ℕ). n ≤ window) (sym (length-map known_in_turn without_votes)) (in_turn_length window r.low (known_entries r))

  module _ (own : InTurn r.from r.low (proposals r.entries)) (turns : (c : ViewChange) → c ∈ held_changes r → InTurn c.from c.low c.entries) where
    known_viewed : (p : Prepare) → p ∈ known_entries r → p.view ≡ merged_from r
    known_viewed p m = elim (known_source p m) [
      | inl k ↦ turn_view r.from r.low (proposals r.entries) p own k.1 ∙ k.0
      | inr k ↦ turn_view k.0.from k.0.low k.0.entries p (turns k.0 k.1) k.3 ∙ k.2
    ]

    known_run : InTurn (merged_from r) r.low known_in_turn
    known_run = in_turn_run (merged_from r) (known_entries r) known_viewed window r.low

    pub merged_run : InTurn (merged_from r) r.low (proposals (merged r).entries)
    merged_run = subst (λ (ps : List Prepare). InTurn (merged_from r) r.low ps) (sym merged_proposals) known_run

    merged_end : end (merged r) ≡ r.low + length known_in_turn
    unfolding merged
    merged_end = ap (λ (ps : List Prepare). last_order r.low ps) merged_proposals ∙ turn_last (merged_from r) r.low known_in_turn known_run

    pub merged_reach : (c : ViewChange) → c ∈ held_changes r → c.low ≤ r.low → length c.entries ≤ window → c.from ≡ merged_from r → last_of c ≤ end (merged r)
    merged_reach c m le short e =
        subst (λ (o : ℕ). last_of c ≤ o) (sym merged_end) (in_turn_reach c.from c.low c.entries window r.low (known_entries r) (turns c m) le short (λ p k. told_among c p m e k))

    -- the own record counts like a VIEW-CHANGE
    pub merged_keeps : length r.entries ≤ window → r.from ≡ merged_from r → end r ≤ end (merged r)
    merged_keeps short e =
        subst (λ (o : ℕ). end r ≤ o) (sym merged_end) (in_turn_reach r.from r.low (proposals r.entries) window r.low (known_entries r) own (omega arith) (omega (arith, short, proposals_length r.entries)) (λ p k. own_among p e k))
