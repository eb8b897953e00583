-- What a correct replica keeps to: its record, what it noted, what it holds of other seats, the proof of its low mark, the
-- widths of its numbers, and that its counter never shows more than its record.
use Rattle.std.specs.Prelude.{◌==◌, if◌then◌else◌, Some, None, Option, slice_set, filter, find, true, false, Bool, nat_lt, nat_le}
use Rattle.std.proofs.Common.{◌≡◌, ℕ, ◌+◌, ◌<◌, ◌≤◌, inl, inr, List, [], ◌∷◌, ◌++◌, length, map, take, refl, sym, ◌∙◌, ap, subst, arith, length-append, length-take}
use Rattle.std.proofs.lemmas.List.{length-map}
use Rattle.std.proofs.lemmas.Bool.{and_parts, ltb-true, leb-true, eqb-true}
use Rattle.std.proofs.lemmas.Slice.Eq.{bytes_eq-Decides}
use Rattle.terms.specs.Numbers.{window, largest_group, largest_quorum}
use Rattle.terms.specs.Pairs.{paired}
use Rattle.terms.specs.Quorums.{leader_of, quorum_of}
use Rattle.counter.specs.Statements.{Stated}
use Rattle.parts.specs.Fits.{IsInt, CheckpointFits}
use Rattle.parts.specs.Messages.{Prepare, Checkpoint}
use Rattle.parts.specs.Statements.{checkpoint_says}
use Rattle.message.specs.Messages.{ViewChange}
use Rattle.protocol.specs.Changes.{last_order, agrees}
use Rattle.protocol.specs.Replicas.{Entry, Noted, Replica, founded}
use Rattle.protocol.specs.Sets.{◌∈◌}
use Rattle.protocol.specs.Standing.{held, has_vote, with_vote, with_vote_of, without_votes, vote_added, proposals, end, held_checkpoints, agreeing, settles, lowered, settled}
use Rattle.protocol.proofs.History.{Group, Past, InTurn, Prepared, Voted, Backed, Proves, Proved, Standing}
use Rattle.protocol.proofs.Lists.{in_either, in_take, in_map, in_filter, find_told, distinct_take, distinct_filter}
use Rattle.protocol.proofs.Places.{Placed, placed_nothing, placed_set, placed_distinct, in_held_set}
use Rattle.protocol.proofs.Turns.{turn_append, entries_last, proposals_length, turn_cut, proposals_append, proposals_vote_added, proposals_above, proposals_without_votes, of_proposals}
use Rattle.protocol.proofs.Votes.{with_vote_told, no_votes_told, leader_vote_told}

-- what the counter shows, beside the view, the view of the record and its end: no later view, and no vote that the
-- record lacks
pub record NotAhead (now view from end : ℕ) : Type 0 where
  pub below : now < paired (view + 1) 0
  pub votes : (v a : ℕ) → now ≡ paired v a → 0 < a → a < 4294967296 → (v ≤ from) × (from ≡ v → a ≤ end)

-- it still does when the view, the record's view and the end rise
pub shows_on : (now view from end view′ from′ end′ : ℕ) → NotAhead now view from end → view ≤ view′ → from ≤ from′ → (from ≡ from′ → end ≤ end′) → NotAhead now view′ from′ end′
shows_on now view from end view′ from′ end′ S v f e = record {
  below = omega (arith, S.below);
  votes = λ u a is positive small.
      let s = S.votes u a is positive small in
      (omega (arith, s.0), λ q. let same : from ≡ from′ = omega (arith, s.0) in omega (arith, e same, s.1 (same ∙ q)));
}

-- a vote for an order of the record
pub shows_vote : (view from end order : ℕ) → from ≡ view → order ≤ end → order < 4294967296 → NotAhead (paired view order) view from end
shows_vote view from end order o l s = record { below = omega arith; votes = λ u b is p q. (omega arith, λ e. omega arith) }

-- a VIEW-CHANGE to the next view
pub shows_left : (view from end : ℕ) → NotAhead (paired (view + 1) 0) (view + 1) from end
shows_left view from end = record {
  below = omega arith;
  votes = λ u b is p q. absurd (omega arith);
}

-- numbers of their widths, and no low mark above the count
pub record NumbersOk (view low count : ℕ) : Type 0 where
  pub view_fits : IsInt view
  pub low_fits : IsInt low
  pub count_fits : IsInt count
  pub low_counted : low ≤ count

-- an entry once a seat's vote for an order is added
abbrev voted_at : ℕ → ℕ → Entry → Entry
voted_at s o e = if e.proposal.order == o then record { proposal = e.proposal; votes = with_vote s e.votes } else e

-- what moving low and accepting leave as it was: the place in the group, the counter, the count and the service
pub record Stays {St : Type 0} (r q : Replica St) : Type 0 where
  pub size : q.size ≡ r.size
  pub seat : q.seat ≡ r.seat
  pub rule : q.rule ≡ r.rule
  pub values : q.values ≡ r.values
  pub count : q.count ≡ r.count
  pub state : q.state ≡ r.state

module _ (g : Group) (h : Past) where
  pub record EntryOk (e : Entry) : Type 0 where
    pub prepared : Prepared g h e.proposal
    pub voted : (s : ℕ) → has_vote s e ≡ true → (s < g.seats) × Voted g h e.proposal s

  pub record RecordOk (from low : ℕ) (es : List Entry) : Type 0 where
    pub run : InTurn from low (proposals es)
    pub few : length es ≤ window
    pub each : (e : Entry) → e ∈ es → EntryOk e
    pub backed : Backed g h from low (last_order low (proposals es))

  -- a VIEW-CHANGE for a view, held by a replica with a low mark
  pub record HeldOk (view low : ℕ) (c : ViewChange) : Type 0 where
    pub standing : Standing g h c
    pub aimed : c.target ≡ view
    pub not_above : c.low ≤ low
    pub seated : c.sender < g.seats

  pub record ChangesOk (view low : ℕ) (cs : List (Option ViewChange)) : Type 0 where
    pub each : (c : ViewChange) → c ∈ held cs → HeldOk view low c
    pub placed : Placed (λ (c : ViewChange). c.sender) 0 cs

  -- a CHECKPOINT that a replica holds
  pub record MarkOk (c : Checkpoint) : Type 0 where
    pub fits : CheckpointFits c
    pub issued : checkpoint_says g.seats c ∈ h.log
    pub seated : c.sender < g.seats

  -- the proof of a low mark, and the CHECKPOINTs that may become the next one
  pub record MarksOk (low : ℕ) (ps : List Checkpoint) (ks : List (Option Checkpoint)) : Type 0 where
    pub short : length ps ≤ largest_quorum
    pub proved : Proved g h low ps
    pub each : (c : Checkpoint) → c ∈ held ks → MarkOk c
    pub placed : Placed (λ (c : Checkpoint). c.sender) 0 ks

  abbrev pub NotesOk : List Noted → Type 0
  NotesOk ns = (k : Noted) → k ∈ ns → Backed g h k.view k.low k.top

  -- over the parts of a replica, so that what does not touch them needs no proof
  pub record Holding (view low from count : ℕ) (ps : List Checkpoint) (es : List Entry) (ns : List Noted) (cs : List (Option ViewChange)) (ks : List (Option Checkpoint)) : Type 0 where
    pub entries : RecordOk from low es
    pub notes : NotesOk ns
    pub behind : from ≤ view
    pub changes : ChangesOk view low cs
    pub numbers : NumbersOk view low count
    pub marks : MarksOk low ps ks

  abbrev pub Holds : {St : Type 0} → Replica St → Type 0
  Holds r = Holding r.view r.low r.from r.count r.proof r.entries r.noted r.changes r.checkpoints

  pub wider : (view low last low′ last′ : ℕ) → Backed g h view low last → low ≤ low′ → last ≤ last′ → Backed g h view low′ last′
  wider view low last low′ last′ (inl e) a b = inl e
  wider view low last low′ last′ (inr w) a b = inr (w.0, w.1, w.2, omega (arith, w.3), omega (arith, w.4))

  pub holds_founded : {St : Type 0} (size seat : ℕ) (rule : Stated → List ℕ) (values : List ℕ) (state : St) → Holds (founded size seat rule values state)
  holds_founded size seat rule values state = record {
    entries = record { run = tt; few = omega arith; each = λ e m. absurd m; backed = inl refl };
    notes = λ k m. elim m [ inl e ↦ inl (ap (λ (y : Noted). y.view) e) | inr i ↦ absurd i ];
    behind = omega arith;
    changes = record { each = λ c m. absurd m; placed = placed_nothing (λ (c : ViewChange). c.sender) 0 largest_group };
    numbers = record { view_fits = omega arith; low_fits = omega arith; count_fits = omega arith; low_counted = omega arith };
    marks = record { short = omega arith; proved = inl (refl, refl); each = λ c m. absurd m; placed = placed_nothing (λ (c : Checkpoint). c.sender) 0 largest_group };
  }

  -- a PREPARE more
  pub add_ok : (from low : ℕ) (es : List Entry) (e : Entry) → RecordOk from low es → EntryOk e → e.proposal.view ≡ from
      → e.proposal.order ≡ last_order low (proposals es) + 1 → length es < window
      → RecordOk from low (es ++ e ∷ []) × (last_order low (proposals (es ++ e ∷ [])) ≡ e.proposal.order)
  add_ok from low es e R k v o few =
      let last = entries_last from low es R.run in
      let next : e.proposal.order ≡ low + length (proposals es) + 1 = omega (arith, o, last, proposals_length es) in
      let run : InTurn from low (proposals (es ++ e ∷ [])) = subst (InTurn from low) (sym (proposals_append es (e ∷ []))) (turn_append from low (proposals es) (e.proposal ∷ []) R.run (v, next, tt)) in
      let reach : last_order low (proposals (es ++ e ∷ [])) ≡ e.proposal.order = omega (arith, last, entries_last from low (es ++ e ∷ []) run, length-append es (e ∷ []), o) in (
        record {
          run = run;
          few = omega (arith, length-append es (e ∷ []));
          each = λ x m. elim (in_either x es (e ∷ []) m) [ inl i ↦ R.each x i | inr i ↦ elim i [ inl q ↦ subst EntryOk (sym q) k | inr j ↦ absurd j ] ];
          backed = wider _ _ _ _ _ R.backed (omega arith) (omega (arith, reach, o));
        },
        reach,
      )

  voted_more : (e : Entry) (s : ℕ) → EntryOk e → s < g.seats → Voted g h e.proposal s → EntryOk (record { proposal = e.proposal; votes = with_vote s e.votes })
  voted_more e s k l v = record {
    prepared = k.prepared;
    voted = λ t m. elim (with_vote_told s t e.votes m) [ inl q ↦ subst (λ u. (u < g.seats) × Voted g h e.proposal u) (sym q) (l, v) | inr j ↦ k.voted t j ];
  }

  -- a vote more
  pub vote_ok : (from low s o : ℕ) (es : List Entry) → RecordOk from low es → s < g.seats → ((e : Entry) → e ∈ es → e.proposal.order ≡ o → Voted g h e.proposal s)
      → RecordOk from low (vote_added s o es)
  vote_ok from low s o es R l v = record {
    run = subst (InTurn from low) (sym (proposals_vote_added s o es)) R.run;
    few = omega (arith, R.few, length-map es (voted_at s o));
    each = λ x m. let r = in_map (voted_at s o) x es m in subst EntryOk (sym r.2) (grown r.0 r.1);
    backed = subst (λ ps. Backed g h from low (last_order low ps)) (sym (proposals_vote_added s o es)) R.backed;
  }
    where
      grown : (e : Entry) → e ∈ es → EntryOk (voted_at s o e)
      grown e i = go (e.proposal.order == o) refl
        where
          go : (b : Bool) → (e.proposal.order == o) ≡ b → EntryOk (if b then record { proposal = e.proposal; votes = with_vote s e.votes } else e)
          go true q = voted_more e s (R.each e i) l (v e i (eqb-true _ _ q))
          go false q = R.each e i

  -- a higher low
  cut_ok : (from low l : ℕ) (es : List Entry) → RecordOk from low es → low ≤ l
      → RecordOk from l (filter (λ (e : Entry). nat_lt l e.proposal.order) es) × (last_order low (proposals es) ≤ last_order l (proposals (filter (λ (e : Entry). nat_lt l e.proposal.order) es)))
  cut_ok from low l es R a =
      let c = turn_cut from low l (proposals es) R.run a in
      let same = proposals_above l es in
      let cut : List Entry = filter (λ (e : Entry). nat_lt l e.proposal.order) es in
      let reach : last_order low (proposals es) ≤ last_order l (proposals cut) = subst (λ ps. last_order low (proposals es) ≤ last_order l ps) (sym same) c.1 in (
        record {
          run = subst (InTurn from l) (sym same) c.0;
          few = omega (arith, R.few, c.2, proposals_length es, proposals_length cut, ap length same);
          each = λ x m. R.each x (in_filter _ x es m).0;
          backed = wider _ _ _ _ _ R.backed a reach;
        },
        reach,
      )

  -- PREPAREs without votes
  pub unvoted_ok : (from low : ℕ) (ps : List Prepare) → InTurn from low ps → length ps ≤ window → ((p : Prepare) → p ∈ ps → Prepared g h p)
      → Backed g h from low (last_order low ps) → RecordOk from low (map without_votes ps)
  unvoted_ok from low ps r few P b = record {
    run = subst (InTurn from low) (sym (proposals_without_votes ps)) r;
    few = omega (arith, few, length-map ps without_votes);
    each = λ x m. let k = in_map without_votes x ps m in subst EntryOk (sym k.2) (record { prepared = P k.0 k.1; voted = λ s v. absurd (no_votes_told s v) });
    backed = subst (λ qs. Backed g h from low (last_order low qs)) (sym (proposals_without_votes ps)) b;
  }

  -- PREPAREs with their leader's vote
  pub led_ok : (p : Prepare) (s : ℕ) → s ≡ leader_of g.seats p.view → s < g.seats → Prepared g h p → EntryOk (with_vote_of s p)
  led_ok p s e l i = record { prepared = i; voted = λ t m. let q = leader_vote_told s t m in (omega arith, inl (q ∙ e, i)) }

  pub entry_prepared : (from low : ℕ) (es : List Entry) → RecordOk from low es → (p : Prepare) → p ∈ proposals es → Prepared g h p
  entry_prepared from low es R p m = let r = of_proposals p es m in subst (Prepared g h) (sym r.2) ((R.each r.0 r.1).prepared)

  -- the CHECKPOINTs of a proof are of their widths
  pub proof_fits : (low : ℕ) (ps : List Checkpoint) → Proved g h low ps → (c : Checkpoint) → c ∈ ps → CheckpointFits c
  proof_fits low ps (inl z) c m = absurd (subst (λ cs. c ∈ cs) z.1 m)
  proof_fits low ps (inr p) c m = p.fits c m

  module _ {St : Type 0} (r : Replica St) (H : Holds r) where
    -- the q lowest of a quorum of CHECKPOINTs that are held and agree prove their order
    agreeing_prove : (c : Checkpoint) → g.quorum ≡ quorum_of r.size → quorum_of r.size ≤ length (agreeing r c) → Proves g h c.order (take (quorum_of r.size) (agreeing r c))
    agreeing_prove c q many =
        let from : (x : Checkpoint) → x ∈ take (quorum_of r.size) (agreeing r c) → (x ∈ held_checkpoints r) × (agrees c x ≡ true) =
        λ x m. in_filter (agrees c) x (held_checkpoints r) (in_take x (quorum_of r.size) (agreeing r c) m) in
        record {
          digest = c.digest;
          many = omega (arith, q, many, length-take (quorum_of r.size) (agreeing r c));
          distinct = distinct_take (λ (x : Checkpoint). x.sender) (quorum_of r.size) (agreeing r c)
              (distinct_filter (λ (x : Checkpoint). x.sender) (agrees c) (held_checkpoints r) (placed_distinct (λ (x : Checkpoint). x.sender) 0 r.checkpoints H.marks.placed));
          seated = λ x m. (H.marks.each x (from x m).0).seated;
          same = λ x m.
              let told = and_parts (c.order == x.order) _ (from x m).1 in
              (sym (eqb-true _ _ told.0), sym ((bytes_eq-Decides c.digest x.digest).0 told.1));
          fits = λ x m. (H.marks.each x (from x m).0).fits;
          issued = λ x m. (H.marks.each x (from x m).0).issued;
        }

    -- low moves only up
    pub holds_settled : g.quorum ≡ quorum_of r.size → quorum_of r.size ≤ largest_quorum → Holds (settled r)
    unfolding settled
    holds_settled own q = go (find (settles r) (held_checkpoints r)) refl
      where
        go : (found : Option Checkpoint) → find (settles r) (held_checkpoints r) ≡ found → Holds (lowered r found)
        go None e = H
        go (Some c) e =
            let f = find_told (settles r) c (held_checkpoints r) e in
            let tests = and_parts (nat_lt r.low c.order) _ f.1 in
            let more = and_parts (nat_le c.order r.count) _ tests.1 in
            let up : r.low < c.order = ltb-true _ _ tests.0 in
            record {
              entries = (cut_ok r.from r.low c.order r.entries H.entries (omega arith)).0;
              notes = H.notes;
              behind = H.behind;
              changes = record { each = λ x m. let k = H.changes.each x m in record { standing = k.standing; aimed = k.aimed; not_above = omega (arith, k.not_above); seated = k.seated }; placed = H.changes.placed };
              numbers = record {
                view_fits = H.numbers.view_fits;
                low_fits = (H.marks.each c f.0).fits.1;
                count_fits = H.numbers.count_fits;
                low_counted = leb-true _ _ more.0;
              };
              marks = record {
                short = omega (arith, q, length-take (quorum_of r.size) (agreeing r c));
                proved = inr (agreeing_prove c own (leb-true _ _ more.1));
                each = H.marks.each;
                placed = H.marks.placed;
              };
            }

    pub shows_settled : (now : ℕ) → NotAhead now r.view r.from (end r) → NotAhead now (settled r).view (settled r).from (end (settled r))
    unfolding settled
    shows_settled now S = go (find (settles r) (held_checkpoints r)) refl
      where
        go : (found : Option Checkpoint) → find (settles r) (held_checkpoints r) ≡ found → NotAhead now (lowered r found).view (lowered r found).from (end (lowered r found))
        go None e = S
        go (Some c) e =
            let f = find_told (settles r) c (held_checkpoints r) e in
            let up : r.low < c.order = ltb-true _ _ (and_parts (nat_lt r.low c.order) _ f.1).0 in
            shows_on now r.view r.from (end r) _ _ _ S (omega arith) (omega arith) (λ _. (cut_ok r.from r.low c.order r.entries H.entries (omega arith)).1)

    -- a CHECKPOINT takes its sender's place
    pub holds_checkpoint : (c : Checkpoint) → MarkOk c → Holds (record r { checkpoints = slice_set r.checkpoints c.sender (Some c) })
    holds_checkpoint c k = record {
      entries = H.entries;
      notes = H.notes;
      behind = H.behind;
      changes = H.changes;
      numbers = H.numbers;
      marks = record {
        short = H.marks.short;
        proved = H.marks.proved;
        each = λ x m. elim (in_held_set c.sender c x r.checkpoints m) [ inl e ↦ subst MarkOk (sym e) k | inr j ↦ H.marks.each x j ];
        placed = placed_set (λ (x : Checkpoint). x.sender) 0 c.sender c r.checkpoints (omega arith) H.marks.placed;
      };
    }

    -- so does a VIEW-CHANGE
    pub holds_change : (c : ViewChange) → HeldOk r.view r.low c → Holds (record r { changes = slice_set r.changes c.sender (Some c) })
    holds_change c k = record {
      entries = H.entries;
      notes = H.notes;
      behind = H.behind;
      changes = record {
        each = λ x m. elim (in_held_set c.sender c x r.changes m) [ inl e ↦ subst (HeldOk r.view r.low) (sym e) k | inr j ↦ H.changes.each x j ];
        placed = placed_set (λ (x : ViewChange). x.sender) 0 c.sender c r.changes (omega arith) H.changes.placed;
      };
      numbers = H.numbers;
      marks = H.marks;
    }

    pub holds_entries : (es : List Entry) → RecordOk r.from r.low es → Holds (record r { entries = es })
    holds_entries es R = record { entries = R; notes = H.notes; behind = H.behind; changes = H.changes; numbers = H.numbers; marks = H.marks }

    -- one request more is carried out
    pub holds_count : (n : ℕ) → IsInt n → r.count ≤ n → Holds (record r { count = n })
    holds_count n f more = record {
      entries = H.entries;
      notes = H.notes;
      behind = H.behind;
      changes = H.changes;
      numbers = record { view_fits = H.numbers.view_fits; low_fits = H.numbers.low_fits; count_fits = f; low_counted = omega (arith, H.numbers.low_counted) };
      marks = H.marks;
    }
