-- *suspect* at a correct seat keeps the rules: what its VIEW-CHANGE tells stands, and what a quorum told it is not lost.
use Rattle.std.specs.Prelude.{◌||◌, if◌then◌else◌, max, not, slice_index, slice_set, slice_index_or, true, false}
use Rattle.std.proofs.Common.{◌≡◌, ℕ, ◌+◌, ◌<◌, ◌≤◌, inl, inr, Bool, true, false, List, [], ◌∷◌, ◌++◌, length, map, refl, sym, ◌∙◌, ap, subst, arith}
use Rattle.std.proofs.lemmas.Bool.{false≢true, not-false, eqb-true, ltb-false, leb-true, cases_eq}
use Rattle.std.proofs.lemmas.List.{get_or-set_same}
use Rattle.terms.specs.Numbers.{window, tag_bytes, largest_group}
use Rattle.terms.specs.Pairs.{paired}
use Rattle.counter.specs.Statements.{Stated}
use Rattle.counter.specs.declared.kinds.Kind.TheVariants.{Continuing}
use Rattle.parts.specs.Fits.{IsInt, PrepareFits, CheckpointFits}
use Rattle.parts.specs.Messages.{Prepare}
use Rattle.parts.specs.Statements.{order_counter}
use Rattle.message.specs.Fits.{ViewChangeFits}
use Rattle.message.specs.Messages.{ViewChange as Change}
use Rattle.message.specs.Statements.{view_change_says}
use Rattle.message.specs.declared.message.Message.TheVariants.{ViewChange}
use Rattle.protocol.specs.Again.{in_turn}
use Rattle.protocol.specs.Changes.{last_of}
use Rattle.protocol.specs.Meanings.{Meaning}
use Rattle.protocol.specs.Outcomes.{wrote}
use Rattle.protocol.specs.Replicas.{Entry, Replica, nothing_held}
use Rattle.protocol.specs.Runs.{History, Came, by_suspecting}
use Rattle.protocol.specs.Sets.{◌∈◌}
use Rattle.protocol.specs.Standing.{end, grants, held_changes, is_open, proposals, quorum_held, without_votes}
use Rattle.protocol.specs.Suspect.{known_entries, left, merged, merged_from, own_change, suspected}
use Rattle.protocol.proofs.Alike.{change_alike}
use Rattle.protocol.proofs.Cases.{suspected_cases}
use Rattle.protocol.proofs.Gathering.{merged_run, merged_source, merged_reach, merged_keeps, merged_length, merged_votes}
use Rattle.protocol.proofs.Growth.{Longer, cause_grows}
use Rattle.protocol.proofs.Highest.{highest_bounds, highest_any}
use Rattle.protocol.proofs.History.{Group, Correct, Past, Rules, Prepared, Standing, Cause, InTurn, Backed}
use Rattle.protocol.proofs.Keeping.{of_seat, Fine, Kept, holds_grows}
use Rattle.protocol.proofs.Lists.{by_recursion}
use Rattle.protocol.proofs.Places.{placed_distinct, placed_nothing, placed_set, in_held_set}
use Rattle.protocol.proofs.Seats.{NotAhead, HeldOk, Holds, shows_left, shows_on, entry_prepared, unvoted_ok, proof_fits, wider}
use Rattle.protocol.proofs.Steps.{KeptIfAnswered, written_reads, Ground, came, with_one, longer_one, kept_one, fine_on}
use Rattle.protocol.proofs.Turns.{proposals_without_votes, in_proposals, proposals_length}
use Rattle.protocol.proofs.Values.{legal_continuing, matches_one}
use Rattle.protocol.proofs.Votes.{no_votes_told}

-- what the counter of orders shows
abbrev now : {St : Type 0} → Replica St → ℕ
now r = slice_index r.values order_counter

module _ (g : Group) (h : Past) {St : Type 0} (r : Replica St) (H : Holds g h r) where
  -- its VIEW-CHANGE is within its limits
  pub change_fits : NotAhead (now r) r.view r.from (end r) → IsInt r.seat → IsInt (r.view + 1) → ((s : Stated) → length (r.rule s) ≡ tag_bytes) → ViewChangeFits (own_change r)
  change_fits S seat view tags = (
    seat,
    view,
    omega (arith, S.below),
    omega (arith, H.behind),
    H.numbers.low_fits,
    H.marks.short,
    by_recursion CheckpointFits r.proof (proof_fits g h r.low r.proof H.marks.proved),
    omega (arith, H.entries.few, proposals_length r.entries),
    by_recursion PrepareFits (proposals r.entries) (λ p m. (entry_prepared g h r.from r.low r.entries H.entries p m).0),
    tags _,
  )

  -- and it stands
  own_standing : NotAhead (now r) r.view r.from (end r) → ViewChangeFits (own_change r) → view_change_says g.seats (own_change r) ∈ h.log → Standing g h (own_change r)
  own_standing S fits i = record {
    issued = i;
    fits = fits;
    complete = record { rises = S.below; older = omega (arith, H.behind); run = H.entries.run; votes = S.votes };
    proved = H.marks.proved;
    prepared = entry_prepared g h r.from r.low r.entries H.entries;
    noted = H.entries.backed;
  }

  holds_left : Standing g h (own_change r) → r.seat < g.seats → IsInt (r.view + 1) → Holds g h (left r)
  holds_left st seat view = record {
    entries = unvoted_ok g h r.from r.low (proposals r.entries) H.entries.run (omega (arith, H.entries.few, proposals_length r.entries)) (entry_prepared g h r.from r.low r.entries H.entries) H.entries.backed;
    notes = H.notes;
    behind = omega (arith, H.behind);
    changes = record {
      each = λ c m. elim (in_held_set r.seat (own_change r) c nothing_held m) [
        | inl e ↦ subst (HeldOk g h (r.view + 1) r.low) (sym e) (record { standing = st; aimed = refl; not_above = omega arith; seated = seat })
        | inr none ↦ absurd none
      ];
      placed = placed_set (λ (c : Change). c.sender) 0 r.seat (own_change r) nothing_held (omega arith) (placed_nothing (λ (c : Change). c.sender) 0 largest_group);
    };
    numbers = record {
      view_fits = view;
      low_fits = H.numbers.low_fits;
      count_fits = H.numbers.count_fits;
      low_counted = H.numbers.low_counted;
    };
    marks = H.marks;
  }

  -- the record that is gathered from the VIEW-CHANGEs that are held
  turns : (c : Change) → c ∈ held_changes r → InTurn c.from c.low c.entries
  turns c m = (H.changes.each c m).standing.complete.run

  -- it goes as far as each of them that is of its view, and as the record did
  reach : (c : Change) → c ∈ held_changes r → c.from ≡ merged_from r → last_of c ≤ end (merged r)
  reach c m e = let k = H.changes.each c m in merged_reach r H.entries.run turns c m k.not_above k.standing.fits.7 e

  keeps : r.from ≡ merged_from r → end r ≤ end (merged r)
  keeps e = merged_keeps r H.entries.run turns H.entries.few e

  merged_prepared : (p : Prepare) → p ∈ proposals (merged r).entries → Prepared g h p
  merged_prepared p m = elim (merged_source r p m) [
    | inl own ↦ entry_prepared g h r.from r.low r.entries H.entries p own.1
    | inr told ↦ (H.changes.each told.0 told.1).standing.prepared p told.3
  ]

  -- its from view was accepted, and nothing of it is left out
  merged_backed : Backed g h (merged_from r) r.low (end (merged r)) × (merged_from r ≤ r.view)
  merged_backed = elim (cases_eq r.from (merged_from r)) [
    | inl e ↦ (subst (λ f. Backed g h f r.low (end (merged r))) e (wider g h _ _ _ _ _ H.entries.backed (omega arith) (keeps e)), omega (arith, H.behind))
    | inr n ↦ elim (highest_any (λ (c : Change). c.from) (held_changes r)) [
      | inl none ↦ absurd (n (omega (arith, none)))
      | inr x ↦
          let k = H.changes.each x.0 x.1 in
          let e : x.0.from ≡ merged_from r = omega (arith, x.2, n) in
          (subst (λ f. Backed g h f r.low (end (merged r))) e (wider g h _ _ _ _ _ k.standing.noted k.not_above (reach x.0 x.1 e)), omega (arith, k.standing.complete.older, k.aimed))
    ]
  ]

  pub holds_merged : Holds g h (merged r)
  unfolding merged
  holds_merged = record {
    entries = record {
      run = merged_run r H.entries.run turns;
      few = merged_length r;
      each = λ e m. record {
        prepared = merged_prepared e.proposal (in_proposals e (merged r).entries m);
        voted = λ s v. absurd (no_votes_told s (subst (λ votes. slice_index_or votes s false ≡ true) (merged_votes r e m) v));
      };
      backed = merged_backed.0;
    };
    notes = H.notes;
    behind = merged_backed.1;
    changes = H.changes;
    numbers = H.numbers;
    marks = H.marks;
  }

  pub shows_merged : NotAhead (now r) r.view r.from (end r) → NotAhead (now r) (merged r).view (merged r).from (end (merged r))
  unfolding merged
  shows_merged S = shows_on (now r) r.view r.from (end r) r.view (merged_from r) (end (merged r)) S (omega arith) (omega arith) keeps

  -- it suspects again because a quorum left the view too, and its VIEW-CHANGE leaves out nothing that they told
  closed_cause : g.quorum ≤ length (held_changes r) → Cause g h (own_change (merged r))
  unfolding merged
  closed_cause many = inr (
    held_changes r,
    r.view,
    refl,
    record {
      many = many;
      distinct = placed_distinct (λ (c : Change). c.sender) 0 r.changes H.changes.placed;
      seated = λ c m. (H.changes.each c m).seated;
      aimed = λ c m. (H.changes.each c m).aimed;
      standing = λ c m. (H.changes.each c m).standing;
    },
    λ c m. (omega (arith, highest_bounds (λ (x : Change). x.from) (held_changes r) c m), (H.changes.each c m).not_above, reach c m),
  )

module _ (g : Group) {St : Type 0} (M : Meaning St) (start : St) (rule : Stated → List ℕ) (G : Ground g rule M.digest)
    (h : Past) (R : Rules g h) (seat : ℕ) (ok : Correct g seat) (ρ : Replica St) (y : History) where
  abbrev r : Replica St
  r = of_seat g rule seat ρ

  -- the counter gives the certificate for the VIEW-CHANGE to the next view
  abbrev Given : Type 0
  Given = not (grants r Continuing order_counter (paired (r.view + 1) 0)) ≡ false

  -- what a call comes to that gave a view up as well
  abbrev given_up : ℕ → Came St → Came St
  given_up view c = record c { member = record c.member { history = record c.member.history { view = max c.member.history.view view } } }

  -- what it comes to when the seat leaves its view with the record of a replica
  abbrev came_left : Replica St → List ℕ → Came St
  came_left q out = by_suspecting y (wrote (r.view + 1) (ViewChange (own_change q)) out (left q) (view_change_says r.size (own_change q) ∷ []))

  module _ (F : Fine g M start rule h seat (record { replica = r; history = y })) where
    -- the record is its own, or one that it gathered; all else of the replica is as it was
    module _ (from : ℕ) (es : List Entry) where
      abbrev q : Replica St
      q = record r { from = from; entries = es }

      abbrev told : Change
      told = own_change q

      abbrev said : Stated
      said = view_change_says g.seats told

      module _ (H : Holds g h q) (S : NotAhead (now r) r.view from (end q)) (C : Cause g h told) (small : IsInt (r.view + 1)) where
        told_fits : ViewChangeFits told
        told_fits = change_fits g h q H S (omega (arith, ok.0, G.small)) small G.tags

        abbrev left_past : Past
        left_past = with_one h said

        left_longer : Longer h left_past
        left_longer = longer_one h said

        told_stands : Standing g left_past told
        told_stands = own_standing g left_past q (holds_grows g h left_past left_longer q H) S told_fits (inl refl)

        fine_left : Fine g M start rule left_past seat (record { replica = left q; history = record y { seen = told.entries ++ y.seen; view = max (max y.view 0) (r.view + 1) } })
        fine_left =
            let K = holds_left g left_past q (holds_grows g h left_past left_longer q H) told_stands ok.0 small in
            let shown : slice_index (slice_set r.values order_counter (paired (r.view + 1) 0)) order_counter ≡ paired (r.view + 1) 0 = get_or-set_same r.values order_counter (paired (r.view + 1) 0) 0 (omega (arith, F.matches.0)) in
            fine_on g M start rule h seat r (left q) (record y { view = max y.view 0 }) left_past told.entries (r.view + 1)
            (record { founded = F.founded; holds = F.holds; shows = F.shows; matches = F.matches; saw = F.saw; view = omega (arith, F.view); reached = F.reached })
            left_longer
            (record { size = refl; seat = refl; rule = refl })
            K
            (subst (λ n. NotAhead n (r.view + 1) from (end (left q))) (sym shown) (shows_left r.view from (end (left q))))
            (matches_one said h.log seat r.values refl (omega arith) F.matches)
            told_stands.prepared
            (λ p m. inl (subst (λ ps. p ∈ ps) (proposals_without_votes (proposals es)) m))
            (omega arith)
            refl
            refl

        leaves : (out : List ℕ) → Given → Kept g M start rule h seat (came_left q out)
        leaves out given =
            subst (λ read. Kept g M start rule h seat (given_up (r.view + 1) (came y read (left q) (said ∷ [])))) (sym (written_reads (ViewChange told) out told_fits))
            (kept_one g M start rule h seat _ said fine_left
            (legal_continuing said h.log seat r.values R.legal F.matches refl refl refl (not-false _ given))
            refl
            (λ c f e. change_alike g left_past c told f e (told_stands, cause_grows g h left_past left_longer told C))
            (λ p f e. absurd (omega (arith, ap (λ (s : Stated). s.kind) e)))
            (λ p t f s e. absurd (omega (arith, ap (λ (s : Stated). s.kind) e)))
            (λ k f e. absurd (omega (arith, ap (λ (s : Stated). s.number) e))))

    leaves_open : (out : List ℕ) → IsInt (r.view + 1) → is_open r ≡ true → Given → Kept g M start rule h seat (came_left r out)
    leaves_open out small here given = leaves r.from r.entries F.holds F.shows (inl (ap (λ v. v + 1) (sym (eqb-true _ _ here)))) small out given

    leaves_closed : (out : List ℕ) → IsInt (r.view + 1) → quorum_held r ≡ true → Given → Kept g M start rule h seat (came_left (merged r) out)
    unfolding merged
    leaves_closed out small many given =
        leaves (merged_from r) (map without_votes (in_turn window r.low (known_entries r))) (holds_merged g h r F.holds) (shows_merged g h r F.holds F.shows)
        (closed_cause g h r F.holds (omega (arith, G.quorum, leb-true _ _ many))) small out given

    pub kept_suspect : (out : List ℕ) → KeptIfAnswered g M start rule h seat (by_suspecting y) (suspected r out)
    kept_suspect out =
        suspected_cases r out (KeptIfAnswered g M start rule h seat (by_suspecting y)) (λ refusal answered. absurd (false≢true answered))
        (λ long small may given answered. go (omega (arith, ltb-false _ _ small)) (not-false _ may) given (is_open r) refl)
      where
        go : IsInt (r.view + 1) → (is_open r || quorum_held r) ≡ true → Given → (b : Bool) → is_open r ≡ b → Kept g M start rule h seat (came_left (if b then r else merged r) out)
        go small may given true here = leaves_open out small here given
        go small may given false here = leaves_closed out small (sym (ap (λ b. b || quorum_held r) here) ∙ may) given
