-- *open* at a correct seat keeps the rules: its NEW-VIEW is one that a correct seat may accept, and it accepts it itself.
use Rattle.std.specs.Prelude.{Some, max, slice_index, slice_set}
use Rattle.std.proofs.Common.{◌≡◌, ℕ, ◌<◌, ◌≤◌, inl, inr, true, List, [], ◌∷◌, length, map, refl, sym, ◌∙◌, ap, subst, arith, flat_map, length-take}
use Rattle.std.proofs.lemmas.Bool.{false≢true, not-false, eqb-true, leb-true, eqb-false, and_from, and_parts}
use Rattle.std.proofs.lemmas.List.{get_or-set_same, get_or-set_other}
use Rattle.std.proofs.lemmas.Bool.Decides.{nat_tests}
use Rattle.terms.specs.Numbers.{window, tag_bytes}
use Rattle.terms.specs.Pairs.{paired}
use Rattle.terms.specs.Quorums.{leader_of}
use Rattle.counter.specs.Statements.{Stated}
use Rattle.parts.specs.Fits.{PrepareFits, RequestFits}
use Rattle.parts.specs.Messages.{Prepare}
use Rattle.parts.specs.Statements.{order_counter, view_counter, prepare_says, commit_says, checkpoint_says}
use Rattle.message.specs.Fits.{ViewChangeFits, NewViewFits}
use Rattle.message.specs.Messages.{ViewChange as Change, NewView as Opening}
use Rattle.message.specs.Statements.{view_change_says}
use Rattle.message.specs.declared.message.Message.TheVariants.{NewView}
use Rattle.protocol.specs.Accept.{accepted}
use Rattle.protocol.specs.Again.{proposed_again}
use Rattle.protocol.specs.Ask.{tag_prepare}
use Rattle.protocol.specs.Changes.{highest_low, low_of, top_of}
use Rattle.protocol.specs.Meanings.{Meaning}
use Rattle.protocol.specs.Open.{after_open, grants_opening, opened, opening_says, opening_values, own_new_view, rise, value_behind}
use Rattle.protocol.specs.Outcomes.{wrote}
use Rattle.protocol.specs.Replicas.{Replica}
use Rattle.protocol.specs.Runs.{History, by_writing}
use Rattle.protocol.specs.Sets.{◌∈◌}
use Rattle.protocol.specs.Showings.{standing_in}
use Rattle.protocol.specs.Standing.{chosen, quorum, end, held_changes, quorum_held}
use Rattle.protocol.specs.Take.{same_proposal, same_proposals}
use Rattle.protocol.proofs.Accept.{told_accepted, holds_entered, shows_entered, entered_end, entered}
use Rattle.protocol.proofs.Alike.{sound_alike}
use Rattle.protocol.proofs.Apart.{same_prepare, no_commit, commit_fits}
use Rattle.protocol.proofs.Cases.{opened_cases}
use Rattle.protocol.proofs.Gathering.{again_run, again_source}
use Rattle.protocol.proofs.Growth.{Longer, later, later_longer}
use Rattle.protocol.proofs.History.{Group, Past, Rules, Prepared, Accepted, Sound, commit_of}
use Rattle.protocol.proofs.Keeping.{of_seat, Fine, Kept, holds_grows}
use Rattle.protocol.proofs.Lists.{in_right, in_take, in_map, in_either, in_flat_map, distinct_take, put_new, by_recursion}
use Rattle.protocol.proofs.Places.{placed_distinct}
use Rattle.protocol.proofs.Seats.{NotAhead, HeldOk, shows_vote}
use Rattle.protocol.proofs.Steps.{KeptIfAnswered, Ground, came, kept_written, fine_on}
use Rattle.protocol.proofs.Turns.{turn_view, turn_above, turn_last}
use Rattle.protocol.proofs.Values.{opening_legal, opening_matches, opening_has, in_opening, value_behind_last}

-- PREPAREs with their tags say what they said without
same_proposal_tagged : {St : Type 0} (r : Replica St) (p : Prepare) → same_proposal (tag_prepare r p) p ≡ true
same_proposal_tagged r p = grind (arith, nat_tests)

same_proposals_tagged : {St : Type 0} (r : Replica St) (ps : List Prepare) → same_proposals (map (tag_prepare r) ps) ps ≡ true
same_proposals_tagged r [] = refl
same_proposals_tagged r (p ∷ ps) = and_from _ _ (same_proposal_tagged r p) (same_proposals_tagged r ps)

module _ (g : Group) {St : Type 0} (M : Meaning St) (start : St) (rule : Stated → List ℕ) (G : Ground g rule M.digest)
    (h : Past) (R : Rules g h) (seat : ℕ) (ρ : Replica St) (y : History) where
  abbrev r : Replica St
  r = of_seat g rule seat ρ

  -- what its counter of orders shows
  abbrev now : ℕ
  now = slice_index r.values order_counter

  module _ (F : Fine g M start rule h seat (record { replica = r; history = y })) where
    -- what it proposes again when it opens its view
    abbrev again : List Prepare
    again = proposed_again r.view (chosen r)

    -- its NEW-VIEW, whatever the tag
    module _ (tag : List ℕ) where
      abbrev w : Opening
      w = record { view = r.view; changes = chosen r; prepares = map (tag_prepare r) again; tag = tag }

      abbrev opened_past : Past
      opened_past = later h (opening_says g.seats w) (w ∷ [])

      opened_longer : Longer h opened_past
      opened_longer = later_longer h (opening_says g.seats w) (w ∷ [])

      -- the VIEW-CHANGEs in it are some that the seat holds
      chosen_held : (c : Change) → c ∈ chosen r → HeldOk g h r.view r.low c
      chosen_held c m = F.holds.changes.each c (in_take c (quorum r) (held_changes r) m)

      shown_held : (c : Change) → c ∈ chosen r → HeldOk g opened_past r.view r.low c
      shown_held c m = (holds_grows g h opened_past opened_longer r F.holds).changes.each c (in_take c (quorum r) (held_changes r) m)

      -- its PREPAREs fit, since what they propose stood in such VIEW-CHANGEs
      again_fits : (p : Prepare) → p ∈ again → PrepareFits (tag_prepare r p)
      again_fits p m =
          let turn = again_run r.view (chosen r) (λ c i. (chosen_held c i).standing.complete.run) in
          let (c, e, i, top, k, order, request) = again_source r.view (chosen r) p m in
          let f = ((chosen_held c i).standing.prepared e k).0 in
          let view = turn_view r.view (highest_low (chosen r)) again p turn m in
          (omega (arith, view, F.holds.numbers.view_fits), omega (arith, order, f.1), subst RequestFits request f.2, G.tags _)

      opening_prepared : (p : Prepare) → p ∈ w.prepares → Prepared g opened_past p
      opening_prepared p m =
          let (x, i, is) = in_map (tag_prepare r) p again m in
          (subst PrepareFits (sym is) (again_fits x i), put_new (prepare_says g.seats p) (opening_says g.seats w) h.log (opening_has g.seats w p m))

      module _ (many : quorum_held r ≡ true) where
        -- a correct seat may accept it
        opening_accepted : Accepted g opened_past w × (low_of w ≤ r.low) × (length w.prepares ≤ window)
        opening_accepted =
            told_accepted g opened_past r (holds_grows g h opened_past opened_longer r F.holds) w
            (omega (arith, G.quorum, leb-true _ _ many, length-take (quorum r) (held_changes r)))
            (distinct_take (λ (c : Change). c.sender) (quorum r) (held_changes r) (placed_distinct (λ (c : Change). c.sender) 0 r.changes F.holds.changes.placed))
            shown_held
            (same_proposals_tagged r again)
            opening_prepared

        opening_view : (p : Prepare) → p ∈ w.prepares → p.view ≡ r.view
        opening_view p m = turn_view r.view (low_of w) w.prepares p opening_accepted.0.run m

        opening_order : (p : Prepare) → p ∈ w.prepares → (low_of w < p.order) × (p.order ≤ top_of w)
        opening_order p m =
            let A = opening_accepted.0 in
            let o = turn_above r.view (low_of w) w.prepares p A.run m in
            (o.0, omega (arith, o.1, turn_last r.view (low_of w) w.prepares A.run))

        pub opening_fits : length tag ≡ tag_bytes → NewViewFits w
        opening_fits whole = (
          F.holds.numbers.view_fits,
          omega (arith, G.small, length-take (quorum r) (held_changes r)),
          by_recursion ViewChangeFits w.changes (λ c m. (chosen_held c m).standing.fits),
          opening_accepted.2,
          by_recursion PrepareFits w.prepares (λ p m. (opening_prepared p m).0),
          whole,
        )

        -- it opens the view for its PREPAREs itself
        opening_sound : (p : Prepare) → p ∈ w.prepares → Sound g opened_past p
        opening_sound p m =
            let o = opening_order p m in
            record { positive = omega (arith, o.0); issued = opening_prepared p m; opened = inr (w, inl refl, sym (opening_view p m), o.0) }

        -- what the seat sees in it was certified
        seen_prepared : (p : Prepare) → p ∈ standing_in (NewView w) → Prepared g opened_past p
        seen_prepared p m = elim (in_either p (flat_map (λ (c : Change). c.entries) w.changes) w.prepares m) [
          | inl i ↦ let (c, k, j) = in_flat_map (λ (c : Change). c.entries) p w.changes i in (shown_held c k).standing.prepared p j
          | inr i ↦ opening_prepared p i
        ]

        module _ (leading : leader_of g.seats r.view ≡ seat) (newer : r.from < r.view) where
          -- the counter shows what it showed before, or the last of the PREPAREs
          shows_open : NotAhead (value_behind now w.prepares) (accepted r w).view (accepted r w).from (end (accepted r w))
          unfolding accepted
          shows_open =
              let K = holds_grows g h opened_past opened_longer r F.holds in
              let same : r.view ≡ max r.view r.view = omega arith in
              elim (value_behind_last now w.prepares) [
                | inl e ↦ subst (λ n. NotAhead n (accepted r w).view (accepted r w).from (end (accepted r w))) (sym e) (shows_entered g opened_past r K w now F.shows newer)
                | inr (p, m, e) ↦
                    let within : p.order ≤ end (accepted r w) = omega (arith, opening_order p m, entered_end g opened_past r K w opening_accepted.0.run opening_accepted.1) in
                    subst (λ n. NotAhead n (accepted r w).view (accepted r w).from (end (accepted r w))) (sym (e ∙ ap (λ v. paired v p.order) (opening_view p m)))
                    (subst (λ v. NotAhead (paired r.view p.order) v r.view (end (accepted r w))) same (shows_vote r.view r.view (end (accepted r w)) p.order refl within (opening_prepared p m).0.1))
              ]

          values_open : slice_index (opening_values r w) order_counter ≡ value_behind now w.prepares
          values_open =
              let first : List ℕ = slice_set r.values order_counter (value_behind now w.prepares) in
              get_or-set_other first view_counter order_counter w.view 0 (omega arith)
              ∙ get_or-set_same r.values order_counter (value_behind now w.prepares) 0 (omega (arith, F.matches.0))

          fine_open : Fine g M start rule opened_past seat (came y (Some (NewView w)) (after_open r w) (opening_says g.seats w)).member
          fine_open =
              let e = entered r w in
              fine_on g M start rule h seat r (after_open r w) y opened_past (standing_in (NewView w)) w.view F opened_longer
              (record { size = e.stays.size; seat = e.stays.seat; rule = e.stays.rule })
              (holds_entered g opened_past r (holds_grows g h opened_past opened_longer r F.holds) w G.some refl (inl refl) opening_accepted.0 opening_accepted.1 F.holds.numbers.view_fits opening_accepted.2)
              (subst (λ n. NotAhead n (accepted r w).view (accepted r w).from (end (accepted r w))) (sym values_open) shows_open)
              (opening_matches g.seats w seat h.log r.values leading opening_view F.matches)
              seen_prepared
              (λ p m. inl (in_right p (flat_map (λ (c : Change). c.entries) w.changes) w.prepares (e.entries p m)))
              (sym e.view)
              e.stays.count
              e.stays.state

          opens : (out : List ℕ) → length tag ≡ tag_bytes → grants_opening r w ≡ true
              → Kept g M start rule h seat (by_writing y (wrote r.view (NewView w) out (after_open r w) (opening_says g.seats w)))
          opens out whole given =
              let tests = and_parts (rise now w.prepares) _ given in
              kept_written g M start rule h seat y r.view (NewView w) out (after_open r w) (opening_says g.seats w) (opening_fits whole)
              (record {
                fine = fine_open;
                legal = opening_legal g.seats w seat h.log r.values leading opening_view F.matches R.legal tests.0 tests.1;
                by = λ x i. elim (in_opening g.seats w x i) [
                  | inl p ↦ ap (λ (s : Stated). s.seat) p.2 ∙ ap (leader_of g.seats) (opening_view p.0 p.1) ∙ leading
                  | inr e ↦ ap (λ (s : Stated). s.seat) e ∙ leading
                ];
                views = λ v i. elim i [ inl e ↦ subst (Accepted g opened_past) (sym e) opening_accepted.0 | inr none ↦ absurd none ];
                changes = λ c f i. elim (in_opening g.seats w (view_change_says g.seats c) i) [
                  | inl p ↦ absurd (omega (arith, ap (λ (s : Stated). s.kind) p.2))
                  | inr e ↦ absurd (omega (arith, ap (λ (s : Stated). s.kind) e))
                ];
                asks = λ p f i. elim (in_opening g.seats w (prepare_says g.seats p) i) [
                  | inl q ↦ sound_alike g opened_past p q.0 f (same_prepare g.seats p q.0 f (opening_prepared q.0 q.1).0 q.2) (opening_sound q.0 q.1)
                  | inr e ↦ absurd (omega (arith, ap (λ (s : Stated). s.number) e))
                ];
                commits = λ p t f small i. elim (in_opening g.seats w (commit_says g.seats (commit_of t p)) i) [
                  | inl q ↦ absurd (no_commit g.seats q.0 (commit_of t p) (opening_prepared q.0 q.1).0 (commit_fits t p small f) (sym q.2))
                  | inr e ↦ absurd (omega (arith, ap (λ (s : Stated). s.number) e))
                ];
                tells = λ k f i. elim (in_opening g.seats w (checkpoint_says g.seats k) i) [
                  | inl q ↦ absurd (omega (arith, ap (λ (s : Stated). s.number) q.2))
                  | inr e ↦ absurd (omega (arith, ap (λ (s : Stated). s.number) e))
                ];
              })

    pub kept_open : (out : List ℕ) → KeptIfAnswered g M start rule h seat (by_writing y) (opened r out)
    unfolding own_new_view
    kept_open out =
        opened_cases r out (KeptIfAnswered g M start rule h seat (by_writing y)) (λ refusal answered. absurd (false≢true answered))
        (λ long closed leading many given answered.
        let differ = eqb-false _ _ closed in
        opens _ (not-false _ many) (eqb-true _ _ (not-false _ leading)) (omega (arith, differ, F.holds.behind)) out (G.tags _) (not-false _ given))
