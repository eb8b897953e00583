-- What a test that is passed says.
use Rattle.std.proofs.Common.{◌≡◌, ℕ, ◌+◌, ◌%◌, ◌<◌, ◌≤◌, ◌⊎◌, inl, inr, true, false, ◌==◌, nat_le, nat_lt, bytes_eq, List, [], ◌∷◌, length, map, Option, Some, None, refl, sym, ap, ◌∙◌, arith}
use Rattle.std.specs.List.{list_all}
use Rattle.std.proofs.lemmas.Slice.Eq.{bytes_eq-Decides}
use Rattle.std.proofs.lemmas.Bool.{cond_both, false≢true, true≢false, and_parts, or_parts, not-false, eqb-true, leb-true, leb-false, ltb-true, ltb-false}
use Rattle.std.proofs.lemmas.Bool.Decides.{nat_tests}
use Rattle.std.proofs.lemmas.List.{nil_from_length}
use Rattle.terms.specs.Numbers.{checkpoint_interval}
use Rattle.terms.specs.Pairs.{paired, view_part, order_part}
use Rattle.terms.specs.Quorums.{quorum_of}
use Rattle.terms.specs.declared.requests.Request.{Request}
use Rattle.parts.specs.Messages.{Prepare, Checkpoint}
use Rattle.message.specs.Messages.{ViewChange, NewView}
use Rattle.message.specs.declared.message.Message.{Message}
use Rattle.protocol.specs.Again.{proposed_again}
use Rattle.protocol.specs.Changes.{last_order, last_of, follow, ascend, one_digest, proves, shows_votes, complete}
use Rattle.protocol.specs.Replicas.{Noted, Replica}
use Rattle.protocol.specs.Sets.{◌∈◌, Distinct}
use Rattle.protocol.specs.Showings.{Showing, senders, shows}
use Rattle.protocol.specs.Standing.{note_of, note_lacks}
use Rattle.protocol.specs.Take.{same_request, same_proposal, same_proposals, no_such_sender, bad_tag, any_incomplete, any_low_ahead, any_history_missing, founded_on}
use Rattle.protocol.proofs.History.{InTurn, Complete}
use Rattle.protocol.proofs.Lists.{find_told, all_told, none_told}

-- PREPAREs that follow one another
pub follow_told : (view low : ℕ) (ps : List Prepare) → follow view low ps ≡ true → InTurn view low ps
follow_told view low [] t = tt
follow_told view low (p ∷ ps) t =
    let a = and_parts (p.view == view) _ t in
    let b = and_parts (p.order == low + 1) _ a.1 in
    (eqb-true _ _ a.0, eqb-true _ _ b.0, follow_told view (low + 1) ps b.1)

-- numbers that ascend are not below the bound, and all differ
ascend_above : (bound : ℕ) (ss : List ℕ) → ascend bound ss ≡ true → (s : ℕ) → s ∈ ss → bound ≤ s
ascend_above bound [] t s m = absurd m
ascend_above bound (x ∷ ss) t s (inl e) = omega (arith, leb-true _ _ (and_parts (nat_le bound x) _ t).0)
ascend_above bound (x ∷ ss) t s (inr m) =
    let a = and_parts (nat_le bound x) _ t in
    omega (arith, leb-true _ _ a.0, ascend_above (x + 1) ss a.1 s m)

ascend_told : (bound : ℕ) (ss : List ℕ) → ascend bound ss ≡ true → Distinct ss
ascend_told bound [] t = tt
ascend_told bound (x ∷ ss) t =
    let a = and_parts (nat_le bound x) _ t in
    (λ m. absurd (omega (arith, ascend_above (x + 1) ss a.1 x m)), ascend_told (x + 1) ss a.1)

-- CHECKPOINTs that prove a low mark, as far as they tell it themselves
pub record ProofTold (n low : ℕ) (cs : List Checkpoint) : Type 0 where
  pub digest : List ℕ
  pub many : length cs ≡ quorum_of n
  pub distinct : Distinct (map (λ c. c.sender) cs)
  pub same : (c : Checkpoint) → c ∈ cs → (c.order ≡ low) × (c.digest ≡ digest)

one_digest_told : (cs : List Checkpoint) → one_digest cs ≡ true → (digest : List ℕ) × ((c : Checkpoint) → c ∈ cs → c.digest ≡ digest)
one_digest_told [] t = ([], λ c m. absurd m)
one_digest_told (x ∷ cs) t = (
  x.digest,
  λ c m. elim m [ inl e ↦ ap (λ (y : Checkpoint). y.digest) e | inr i ↦ sym ((bytes_eq-Decides x.digest c.digest).0 (all_told (λ (d : Checkpoint). bytes_eq x.digest d.digest) c cs t i)) ],
)

proves_told : (n low : ℕ) (cs : List Checkpoint) → proves n low cs ≡ true → ((low ≡ 0) × (cs ≡ [])) ⊎ ProofTold n low cs
proves_told n low cs = cond_both (low == 0) (length cs == 0) _ (λ b. b ≡ true → ((low ≡ 0) × (cs ≡ [])) ⊎ ProofTold n low cs)
    (λ none t. inl (eqb-true _ _ none, nil_from_length cs (eqb-true _ _ t)))
    (λ some t.
    let a = and_parts (length cs == quorum_of n) _ t in
    let b = and_parts (list_all (λ c. c.order == low) cs) _ a.1 in
    let d = and_parts (one_digest cs) _ b.1 in
    let one = one_digest_told cs d.0 in
    inr (record {
      digest = one.0;
      many = eqb-true _ _ a.0;
      distinct = ascend_told 0 _ d.1;
      same = λ c m. (eqb-true _ _ (all_told (λ (x : Checkpoint). x.order == low) c cs b.0 m), one.1 c m);
    }))

-- a VIEW-CHANGE that is complete
votes_told : (c : ViewChange) → shows_votes c ≡ true → (v a : ℕ) → c.previous ≡ paired v a → 0 < a → a < 4294967296 → (v ≤ c.from) × (c.from ≡ v → a ≤ last_of c)
votes_told c t v a e positive small =
    let view : view_part c.previous ≡ v = omega arith in
    let order : order_part c.previous ≡ a = omega arith in
    (grind (arith, nat_tests), λ f. grind (arith, nat_tests))

complete_told : (n : ℕ) (c : ViewChange) → complete n c ≡ true → Complete c × (((c.low ≡ 0) × (c.proof ≡ [])) ⊎ ProofTold n c.low c.proof)
complete_told n c t =
    let a = and_parts (nat_lt c.previous (paired c.target 0)) _ t in
    let b = and_parts (nat_lt c.from c.target) _ a.1 in
    let l = and_parts (c.low % checkpoint_interval == 0) _ b.1 in
    let p = and_parts (proves n c.low c.proof) _ l.1 in
    let f = and_parts (follow c.from c.low c.entries) _ p.1 in
    (record { rises = ltb-true _ _ a.0; older = ltb-true _ _ b.0; run = follow_told _ _ _ f.0; votes = votes_told c f.1 }, proves_told n c.low c.proof p.0)

-- a VIEW-CHANGE that lacks nothing of what is noted
note_told : (c : ViewChange) (notes : List Noted) → note_lacks c (note_of c.from notes) ≡ false
    → (k : Noted) × (k ∈ notes) × (k.view ≡ c.from) × (k.low ≤ c.low) × (k.top ≤ last_of c)
note_told c notes t = go (note_of c.from notes) refl t
  where
    go : (o : Option Noted) → note_of c.from notes ≡ o → note_lacks c o ≡ false → (k : Noted) × (k ∈ notes) × (k.view ≡ c.from) × (k.low ≤ c.low) × (k.top ≤ last_of c)
    go None e t = absurd (true≢false t)
    go (Some k) e t =
        let found = find_told _ k notes e in
        let parts = or_parts (nat_lt c.low k.low) _ t in
        (k, found.0, eqb-true _ _ found.1, ltb-false _ _ parts.0, ltb-false _ _ parts.1)

pub same_request_told : (a b : Request) → same_request a b ≡ true → a ≡ b
same_request_told a b t = grind (arith, nat_tests)

-- PREPAREs of the same views, orders and requests
same_proposal_told : (p q : Prepare) → same_proposal p q ≡ true → (p.view ≡ q.view) × (p.order ≡ q.order) × (p.request ≡ q.request)
same_proposal_told p q t =
    let a = and_parts (p.view == q.view) _ t in
    let b = and_parts (p.order == q.order) _ a.1 in
    (eqb-true _ _ a.0, eqb-true _ _ b.0, same_request_told _ _ b.1)

-- PREPAREs that say what others say that are in turn
pub record SameAs (view low : ℕ) (ps qs : List Prepare) : Type 0 where
  pub run : InTurn view low ps
  pub last : last_order low ps ≡ last_order low qs
  pub long : length ps ≡ length qs
  -- each stands among the others, but for its tag
  pub source : (p : Prepare) → p ∈ ps → (q : Prepare) × (q ∈ qs) × (q.order ≡ p.order) × (q.request ≡ p.request)

pub same_proposals_told : (view low : ℕ) (ps qs : List Prepare) → same_proposals ps qs ≡ true → InTurn view low qs → SameAs view low ps qs
same_proposals_told view low [] [] t r = record { run = tt; last = refl; long = refl; source = λ p m. absurd m }
same_proposals_told view low [] (q ∷ qs) t r = absurd (false≢true t)
same_proposals_told view low (p ∷ ps) [] t r = absurd (false≢true t)
same_proposals_told view low (p ∷ ps) (q ∷ qs) t r =
    let a = and_parts (same_proposal p q) _ t in
    let one = same_proposal_told p q a.0 in
    let more = same_proposals_told view (low + 1) ps qs a.1 r.2 in
    record {
      run = (one.0 ∙ r.0, one.1 ∙ r.1, more.run);
      last = ap (λ o. last_order o ps) (one.1 ∙ r.1) ∙ more.last ∙ sym (ap (λ o. last_order o qs) r.1);
      long = omega (arith, more.long);
      source = λ x m. elim m [
        | inl e ↦ (q, inl refl, sym (ap (λ y. y.order) e ∙ one.1), sym (ap (λ y. y.request) e ∙ one.2))
        | inr k ↦ let s = more.source x k in (s.0, inr s.1, s.2, s.3)
      ];
    }

-- a NEW-VIEW that is founded on a quorum of VIEW-CHANGEs
pub record Formed {St : Type 0} (r : Replica St) (w : NewView) : Type 0 where
  pub many : length w.changes ≡ quorum_of r.size
  pub distinct : Distinct (map (λ c. c.sender) w.changes)
  pub aimed : (c : ViewChange) → c ∈ w.changes → c.target ≡ w.view
  pub again : same_proposals w.prepares (proposed_again w.view w.changes) ≡ true

module _ {St : Type 0} (r : Replica St) where
  pub founded_told : (w : NewView) → founded_on r w ≡ true → Formed r w
  founded_told w t =
      let a = and_parts (length w.changes == quorum_of r.size) _ t in
      let b = and_parts (ascend 0 (map (λ c. c.sender) w.changes)) _ a.1 in
      let c = and_parts (list_all (λ c. c.target == w.view) w.changes) _ b.1 in
      record { many = eqb-true _ _ a.0; distinct = ascend_told 0 _ b.0; aimed = λ x m. eqb-true _ _ (all_told _ x w.changes c.0 m); again = c.1 }

  -- tags and senders that are judged
  pub tags_told : (m : Message) → bad_tag r m ≡ false → (x : Showing) → x ∈ shows r.size m → bytes_eq (r.rule x.statement) x.tag ≡ true
  tags_told m t x i = all_told (λ (y : Showing). bytes_eq (r.rule y.statement) y.tag) x (shows r.size m) (not-false _ t) i

  pub senders_told : (m : Message) → no_such_sender r m ≡ false → (s : ℕ) → s ∈ senders m → s < r.size
  senders_told m t s i = leb-false _ _ (none_told (λ k. nat_le r.size k) s (senders m) t i)

  -- VIEW-CHANGEs that are judged
  pub record Judged (c : ViewChange) : Type 0 where
    pub complete : Complete c
    pub proof : ((c.low ≡ 0) × (c.proof ≡ [])) ⊎ ProofTold r.size c.low c.proof
    pub near : c.low ≤ r.low
    pub noted : (k : Noted) × (k ∈ r.noted) × (k.view ≡ c.from) × (k.low ≤ c.low) × (k.top ≤ last_of c)

  pub changes_told : (cs : List ViewChange) → any_incomplete r cs ≡ false → any_low_ahead r cs ≡ false → any_history_missing r cs ≡ false
      → (c : ViewChange) → c ∈ cs → Judged c
  changes_told cs i l h c m =
      let told = complete_told r.size c (all_told _ c cs (not-false _ i) m) in
      record {
        complete = told.0;
        proof = told.1;
        near = ltb-false _ _ (none_told _ c cs l m);
        noted = note_told c r.noted (none_told _ c cs h m);
      }
