-- What a quorum voted for is in every later view: proposed again by its NEW-VIEW, or not above its low.
use Rattle.std.proofs.Common.{◌≡◌, ℕ, zero, suc, ◌+◌, ◌-◌, ◌*◌, ◌<◌, ◌≤◌, ◌⊎◌, List, length, map, refl, sym, ◌∙◌, ap, ap₂, subst, inl, inr, arith}
use Rattle.std.proofs.lemmas.Bool.{cases_eq, cases_lt}
use Rattle.std.proofs.lemmas.List.{length-map}
use Rattle.terms.specs.Pairs.{paired}
use Rattle.terms.specs.Quorums.{leader_of}
use Rattle.terms.specs.declared.requests.Request.{Request}
use Rattle.counter.specs.Statements.{Stated}
use Rattle.parts.specs.Messages.{Prepare}
use Rattle.parts.specs.Statements.{prepare_says, commit_says}
use Rattle.message.specs.Fits.{ViewChangeFits}
use Rattle.message.specs.Messages.{ViewChange, NewView}
use Rattle.message.specs.Statements.{view_change_says}
use Rattle.protocol.proofs.Apart.{same_prepare}
use Rattle.protocol.proofs.Counters.{unique, passed}
use Rattle.protocol.proofs.Highest.{highest_bounds, highest_met}
use Rattle.protocol.proofs.History.{Group, Past, Correct, Complete, commit_of, Prepared, Voted, Standing, Quorum, Accepted, Committed, Sound, Rules}
use Rattle.protocol.proofs.Lists.{in_map}
use Rattle.protocol.proofs.Pigeonhole.{leaves, share}
use Rattle.protocol.proofs.Turns.{turn_has, turn_last, turn_view}
use Rattle.protocol.specs.Changes.{last_of, highest_from, low_of, top_of}
use Rattle.protocol.specs.Sets.{◌∈◌, Distinct}

module _ (g : Group) where
  -- a quorum has a correct seat
  pub one_correct : (xs : List ℕ) → Distinct xs → ((s : ℕ) → s ∈ xs → s < g.seats) → g.quorum ≤ length xs → (s : ℕ) × (s ∈ xs) × Correct g s
  one_correct xs d seated many =
      let l = leaves xs g.faulty d (omega (arith, g.few)) in
      (l.0, l.1, (seated l.0 l.1, l.2))

  -- two quorums share a seat
  one_shared : (xs ys : List ℕ) → Distinct xs → Distinct ys → ((s : ℕ) → s ∈ xs → s < g.seats) → ((s : ℕ) → s ∈ ys → s < g.seats)
      → g.quorum ≤ length xs → g.quorum ≤ length ys → (s : ℕ) × (s ∈ xs) × (s ∈ ys)
  one_shared xs ys dx dy sx sy mx my = share g.seats xs ys dx dy sx sy (omega (arith, g.majority))

-- the seats that sent VIEW-CHANGEs
abbrev senders : List ViewChange → List ℕ
senders cs = map (λ (c : ViewChange). c.sender) cs

module _ (g : Group) (h : Past) where
  sent_by : (target : ℕ) (cs : List ViewChange) → Quorum g h target cs → (s : ℕ) → s ∈ senders cs → s < g.seats
  sent_by target cs Q s i =
      let m = in_map (λ (c : ViewChange). c.sender) s cs i in
      subst (λ x. x < g.seats) (sym m.2) (Q.seated m.0 m.1)

  sent_many : (target : ℕ) (cs : List ViewChange) → Quorum g h target cs → g.quorum ≤ length (senders cs)
  sent_many target cs Q = omega (arith, Q.many, length-map cs (λ (c : ViewChange). c.sender))

  -- a vote is an independent statement of the pair of the proposal
  vote_says : (p : Prepare) (s : ℕ) → Voted g h p s → (x : Stated) × (x ∈ h.log) × (x.kind ≡ 2) × (x.seat ≡ s) × (x.number ≡ 0) × (x.new ≡ paired p.view p.order)
  vote_says p s (inl a) = (prepare_says g.seats p, a.1.1, refl, sym a.0, refl, refl)
  vote_says p s (inr a) = (commit_says g.seats (commit_of s p), a.1, refl, refl, refl, refl)

  -- what an accepted NEW-VIEW proposes for an order between its low and its top
  proposed_at : (w : NewView) → Accepted g h w → (order : ℕ) → low_of w < order → order ≤ top_of w → (q : Prepare) × (q ∈ w.prepares) × (q.view ≡ w.view) × (q.order ≡ order)
  proposed_at w A order above within = turn_has w.view (low_of w) w.prepares order A.run above (omega (arith, turn_last w.view (low_of w) w.prepares A.run))

  -- every proposal for an order in a view has that request
  abbrev pub Settled : ℕ → Request → ℕ → Type 0
  Settled order request view = (p : Prepare) → Prepared g h p → p.view ≡ view → p.order ≡ order → p.request ≡ request

module _ (g : Group) (h : Past) (R : Rules g h) where
  -- two PREPAREs for one view and order have one request
  pub one_proposal : (p e : Prepare) → Prepared g h p → Prepared g h e → p.view ≡ e.view → p.order ≡ e.order → p.request ≡ e.request
  one_proposal p e ip ie view order =
      let same = unique h.log R.legal (prepare_says g.seats p) (prepare_says g.seats e) ip.1 ie.1 refl refl (ap (leader_of g.seats) view) refl (ap₂ paired view order) in
      (same_prepare g.seats p e ip.0 ie.0 same).2

  module _ (p : Prepare) (K : Committed g h p) where
    -- one of the voters is correct
    correct_voter : (s : ℕ) × Correct g s × Voted g h p s
    correct_voter = let c = one_correct g K.voters K.distinct K.seated K.many in (c.0, c.2, K.voted c.0 c.1)

    pub sound : Sound g h p
    sound = let c = correct_voter in R.votes p c.0 c.1 c.2

    small : p.order < 4294967296
    small = let f = sound.issued.0.1 in omega arith

    settled_here : Settled g h p.order p.request p.view
    settled_here x i view order = one_proposal x p i sound.issued view order

    -- a VIEW-CHANGE has not lost the request: its low is not below the order, or its entries reach that order in a from
    -- view that settles it
    abbrev Covers : ViewChange → Type 0
    Covers c = (p.view ≤ c.from) × (p.order ≤ last_of c) × Settled g h p.order p.request c.from

    abbrev NotLost : ViewChange → Type 0
    NotLost c = (p.order ≤ c.low) ⊎ Covers c

    -- so do the accepted NEW-VIEWs of a view, and the VIEW-CHANGEs of correct replicas for a view
    abbrev Opens : ℕ → Type 0
    Opens t = (w : NewView) → w ∈ h.accepted → w.view ≡ t → (p.order ≤ low_of w) ⊎ ((p.order ≤ top_of w) × Settled g h p.order p.request t)

    abbrev Leaves : ℕ → Type 0
    Leaves t = (c : ViewChange) → ViewChangeFits c → view_change_says g.seats c ∈ h.log → Correct g c.sender → c.target ≡ t → NotLost c

    -- a VIEW-CHANGE from a later view tells no less than the NEW-VIEW of that view
    by_note : (c : ViewChange) → Standing g h c → p.view < c.from → Opens c.from → NotLost c
    by_note c s later openings = elim s.noted [
      | inl e ↦ absurd (omega arith)
      | inr n ↦ elim (openings n.0 n.1 n.2) [ inl k ↦ inl (omega arith) | inr k ↦ inr (omega arith, omega arith, k.1) ]
    ]

    -- one whose counter went past the vote before it left the view tells the vote
    by_counter : (c : ViewChange) → Complete c → c.target ≡ p.view + 1 → paired p.view p.order ≤ c.previous → NotLost c
    by_counter c complete next passed =
        let above : 0 < p.order = sound.positive in
        let k = complete.votes p.view (c.previous - p.view * 4294967296) (omega (arith, complete.rises)) (omega arith) (omega (arith, complete.rises)) in
        let here : c.from ≡ p.view = omega (arith, complete.older, k.0) in
        inr (k.0, omega (arith, k.1 here), subst (Settled g h p.order p.request) (sym here) settled_here)

    -- of a quorum that leaves the view, one has voted there
    by_vote : (cs : List ViewChange) → Quorum g h (p.view + 1) cs → (c : ViewChange) × (c ∈ cs) × NotLost c
    by_vote cs Q =
        let s = one_shared g (senders cs) K.voters Q.distinct K.distinct (sent_by g h _ cs Q) K.seated (sent_many g h _ cs Q) K.many in
        let m = in_map (λ (c : ViewChange). c.sender) s.0 cs s.1 in
        let st = Q.standing m.0 m.1 in
        let t = Q.aimed m.0 m.1 in
        let x = vote_says g h p s.0 (K.voted s.0 s.2) in
        let below : p.order < 4294967296 = small in (
          m.0,
          m.1,
          elim (passed h.log R.legal (view_change_says g.seats m.0) x.0 st.issued x.1 refl x.2 (x.3 ∙ m.2) x.4) [
            | inl a ↦ by_counter m.0 st.complete t (omega (arith, a, x.5))
            | inr a ↦ absurd (omega (arith, a, x.5, t))
          ],
        )

    -- of any quorum, one is correct
    by_correct : (t : ℕ) (cs : List ViewChange) → Quorum g h t cs → Leaves t → (c : ViewChange) × (c ∈ cs) × NotLost c
    by_correct t cs Q leavings =
        let s = one_correct g (senders cs) Q.distinct (sent_by g h t cs Q) (sent_many g h t cs Q) in
        let m = in_map (λ (c : ViewChange). c.sender) s.0 cs s.1 in
        let st = Q.standing m.0 m.1 in
        (m.0, m.1, leavings m.0 st.fits st.issued (subst (Correct g) m.2 s.2) (Q.aimed m.0 m.1))

    -- a quorum for a later view has not lost the request: one of it has a low that is not below the order, or the highest
    -- from view settles it and one of that view reaches it
    abbrev NotLostIn : List ViewChange → Type 0
    NotLostIn cs = (c : ViewChange) × (c ∈ cs) × ((p.order ≤ c.low) ⊎ ((c.from ≡ highest_from cs) × Covers c))

    not_lost_in : (t : ℕ) (cs : List ViewChange) → Quorum g h t cs → p.view < t → ((f : ℕ) → p.view < f → f < t → Opens f) → (t ≡ p.view + 1) ⊎ Leaves t → NotLostIn cs
    not_lost_in t cs Q later openings leavings =
        let k = one_not_lost leavings in
        let top = highest_met (λ c. c.from) cs k.0 k.1 in
        let st = Q.standing top.0 top.1 in
        let le = highest_bounds (λ c. c.from) cs k.0 k.1 in
        elim k.2 [
          | inl a ↦ (k.0, k.1, inl a)
          | inr a ↦ elim (cases_lt k.0.from top.0.from) [
            | inr same ↦ (k.0, k.1, inr (omega (arith, top.2), a))
            | inl above ↦ (
              top.0,
              top.1,
              elim (by_note top.0 st (omega (arith, a.0)) (openings top.0.from (omega (arith, a.0)) (omega (arith, st.complete.older, Q.aimed top.0 top.1)))) [
                | inl c ↦ inl c
                | inr c ↦ inr (top.2, c)
              ],
            )
          ]
        ]
      where
        one_not_lost : (t ≡ p.view + 1) ⊎ Leaves t → (c : ViewChange) × (c ∈ cs) × NotLost c
        one_not_lost (inl e) = by_vote cs (subst (λ x. Quorum g h x cs) e Q)
        one_not_lost (inr leavings) = by_correct t cs Q leavings

    -- a correct replica that leaves a later view keeps the request
    leaves_later : (t : ℕ) → p.view + 1 < t → ((f : ℕ) → p.view < f → f < t → Opens f) → ((f : ℕ) → p.view + 1 < f → f < t → Leaves f) → Leaves t
    leaves_later t later openings leavings c fits issued correct aimed =
        let (st, cause) = R.changes c fits issued correct in
        elim (cases_lt p.view c.from) [
          | inl above ↦ by_note c st above (openings c.from above (omega (arith, st.complete.older)))
          | inr low ↦ elim cause [
            | inl b ↦ absurd (omega arith)
            | inr q ↦
                let k = not_lost_in q.1 q.0 q.3 (omega (arith, q.2)) (λ f a b. openings f a (omega (arith, q.2))) (before q.1 (omega (arith, q.2)) (omega (arith, q.2))) in
                let (x_from, x_low, x_last) = q.4 k.0 k.1 in
                elim k.2 [
                  | inl b ↦ inl (omega arith)
                  | inr b ↦
                      let same : k.0.from ≡ c.from = omega (arith, b.1.0) in
                      inr (omega arith, omega (arith, b.1.1, x_last same), subst (Settled g h p.order p.request) same b.1.2)
                ]
          ]
        ]
      where
        before : (u : ℕ) → p.view < u → u < t → (u ≡ p.view + 1) ⊎ Leaves u
        before u a b = elim (cases_eq u (p.view + 1)) [ inl e ↦ inl e | inr n ↦ inr (leavings u (omega arith) b) ]

    -- what an accepted NEW-VIEW proposes again has the request that the highest from view of its VIEW-CHANGEs settles
    settled_again : (w : NewView) → Accepted g h w → Settled g h p.order p.request (highest_from w.changes) → low_of w < p.order → p.order ≤ top_of w
        → Settled g h p.order p.request w.view
    settled_again w A known above within x ix view order =
        let q = proposed_at g h w A p.order above within in
        let s = A.source q.0 q.1 in
        let st = A.quorum.standing s.0 s.2 in
        let same : x.request ≡ q.0.request = one_proposal x q.0 ix (A.prepared q.0 q.1) (view ∙ sym q.2) (order ∙ sym q.3) in
        let was : s.1.request ≡ p.request = known s.1 (st.prepared s.1 s.4) (turn_view s.0.from s.0.low s.0.entries s.1 st.complete.run s.4 ∙ s.3) (s.5 ∙ q.3) in
        same ∙ sym s.6 ∙ was

    -- an accepted NEW-VIEW of a later view keeps the request
    opens_later : (t : ℕ) → p.view < t → ((f : ℕ) → p.view < f → f < t → Opens f) → (t ≡ p.view + 1) ⊎ Leaves t → Opens t
    opens_later t later openings leavings w i e =
        let A = R.accepts w i in
        let k = not_lost_in t w.changes (subst (λ x. Quorum g h x w.changes) e A.quorum) later openings leavings in
        elim k.2 [
          | inl a ↦ inl (omega (arith, a, highest_bounds (λ c. c.low) w.changes k.0 k.1))
          | inr a ↦ elim (cases_lt (low_of w) p.order) [
            | inr b ↦ inl b
            | inl b ↦
                let within : p.order ≤ top_of w = omega (arith, a.1.1, A.reach k.0 k.1 a.0) in
                inr (within, subst (Settled g h p.order p.request) e (settled_again w A (subst (Settled g h p.order p.request) a.0 a.1.2) b within))
          ]
        ]

    -- both, once they hold of the views in between
    view_on : (t : ℕ) → p.view < t → ((f : ℕ) → f < t → p.view < f → Opens f × (p.view + 1 < f → Leaves f)) → Opens t × (p.view + 1 < t → Leaves t)
    view_on t later earlier = (opens_later t later openings (elim (cases_eq t (p.view + 1)) [ inl e ↦ inl e | inr n ↦ inr (leavings (omega arith)) ]), leavings)
      where
        openings : (f : ℕ) → p.view < f → f < t → Opens f
        openings f a b = (earlier f b a).0

        leavings : p.view + 1 < t → Leaves t
        leavings b = leaves_later t b openings (λ f x y. (earlier f y (omega arith)).1 x)

    views_below : (bound t : ℕ) → t < bound → p.view < t → Opens t × (p.view + 1 < t → Leaves t)
    views_below zero t a later = absurd (omega arith)
    views_below (suc bound) t a later = view_on t later (λ f b c. views_below bound f (omega arith) c)

    opens : (w : NewView) → w ∈ h.accepted → p.view < w.view → (p.order ≤ low_of w) ⊎ ((p.order ≤ top_of w) × Settled g h p.order p.request w.view)
    opens w i later = (views_below (suc w.view) w.view (omega arith) later).0 w i refl

    pub settled_later : (w : NewView) → w ∈ h.accepted → p.view < w.view → low_of w < p.order → Settled g h p.order p.request w.view
    settled_later w i later above = elim (opens w i later) [ inl a ↦ absurd (omega arith) | inr a ↦ a.1 ]

    pub proposed_later : (w : NewView) → w ∈ h.accepted → p.view < w.view
        → (p.order ≤ low_of w) ⊎ ((e : Prepare) × (e ∈ w.prepares) × (e.order ≡ p.order) × (e.request ≡ p.request))
    proposed_later w i later = elim (cases_lt (low_of w) p.order) [
      | inr a ↦ inl a
      | inl above ↦ elim (opens w i later) [
        | inl b ↦ inl b
        | inr b ↦
            let A = R.accepts w i in
            let q = proposed_at g h w A p.order above b.0 in
            inr (q.0, q.1, q.3, b.1 q.0 (A.prepared q.0 q.1) q.2 q.3)
      ]
    ]
