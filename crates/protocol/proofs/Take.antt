-- *take* at a correct seat keeps the rules, whatever message it takes.
use Rattle.std.specs.Prelude.{◌==◌, slice_index, slice_set, max, true, false, Option, Some, None}
use Rattle.std.proofs.Common.{◌≡◌, ℕ, ◌+◌, ◌<◌, ◌≤◌, inl, inr, List, [], ◌∷◌, ◌++◌, length, map, refl, sym, ◌∙◌, ap, subst, arith, flat_map}
use Rattle.std.proofs.lemmas.Bool.{false≢true, not-false, eqb-true, eq-eqb, ltb-false, leb-false}
use Rattle.terms.specs.Numbers.{window}
use Rattle.terms.specs.Quorums.{leader_of}
use Rattle.counter.specs.Statements.{Stated}
use Rattle.xdr.specs.Laws.{Bytes}
use Rattle.parts.specs.Fits.{PrepareFits, CommitFits, CheckpointFits}
use Rattle.parts.specs.Messages.{Prepare as Proposal, Commit as Vote, Checkpoint as Mark}
use Rattle.parts.specs.Statements.{order_counter, commit_says}
use Rattle.message.specs.Decoding.{decode}
use Rattle.message.specs.Fits.{ViewChangeFits, NewViewFits}
use Rattle.message.specs.Laws.{MessageFits}
use Rattle.message.specs.Messages.{ViewChange as Change, NewView as Opening}
use Rattle.message.specs.Statements.{view_change_says}
use Rattle.message.specs.declared.message.Message.{Message}
use Rattle.message.specs.declared.message.Message.TheVariants.{Prepare, Commit, Checkpoint, ViewChange, NewView}
use Rattle.message.proofs.Decoding.{messages_exact}
use Rattle.protocol.specs.Accept.{accepted}
use Rattle.protocol.specs.Ask.{extended}
use Rattle.protocol.specs.Changes.{last_order, low_of}
use Rattle.protocol.specs.Mark.{with_checkpoint}
use Rattle.protocol.specs.Meanings.{Meaning}
use Rattle.protocol.specs.Replicas.{Entry, Replica}
use Rattle.protocol.specs.Runs.{History, AllIssued, by_taking}
use Rattle.protocol.specs.Sets.{◌∈◌}
use Rattle.protocol.specs.Showings.{Showing, shows, change_shows, prepare_shows, checkpoint_shows, standing_in, change_senders}
use Rattle.protocol.specs.Standing.{with_vote_of, proposals, end, entry_at, vote_added, settled}
use Rattle.protocol.specs.Take.{bad_tag, no_such_sender, any_incomplete, any_low_ahead, any_history_missing, founded_on, other_request, take_prepare, take_commit, take_checkpoint, take_view_change, take_new_view, take_message, taken}
use Rattle.protocol.proofs.Accept.{judged_held, told_accepted, holds_entered, shows_entered, entered}
use Rattle.protocol.proofs.Alike.{commit_says_alike}
use Rattle.protocol.proofs.Cases.{prepare_cases, commit_cases, checkpoint_cases, view_change_cases, new_view_cases}
use Rattle.protocol.proofs.Growth.{later, later_longer, accepted_grows}
use Rattle.protocol.proofs.History.{Group, Past, Rules, Prepared, Proved, Voted, Accepted, commit_of}
use Rattle.protocol.proofs.Keeping.{of_seat, Fine, Kept, holds_grows}
use Rattle.protocol.proofs.Lists.{in_either, in_left, in_right, to_map, to_flat_map, in_flat_map, find_told, find_some, in_by_recursion}
use Rattle.protocol.proofs.Seats.{NotAhead, shows_on, HeldOk, add_ok, vote_ok, led_ok, holds_entries, holds_checkpoint, holds_change}
use Rattle.protocol.proofs.Steps.{KeptIfAnswered, Ground, came, kept_quiet, kept_taken, fine_on, fine_settled}
use Rattle.protocol.proofs.Tests.{Judged, tags_told, senders_told, changes_told, founded_told, same_request_told}
use Rattle.protocol.proofs.Turns.{turn_view, turn_one, entries_last, proposals_append, proposals_vote_added, in_proposals}
use Rattle.protocol.proofs.Values.{Matches}

module _ (g : Group) {St : Type 0} (M : Meaning St) (start : St) (rule : Stated → List ℕ) (G : Ground g rule M.digest)
    (h : Past) (R : Rules g h) (seat : ℕ) (ρ : Replica St) (y : History) where
  abbrev r : Replica St
  r = of_seat g rule seat ρ

  module _ (F : Fine g M start rule h seat (record { replica = r; history = y })) where
    -- the statements of a message whose tags all pass were issued
    abbrev Issued : List Showing → Type 0
    Issued shown = (x : Showing) → x ∈ shown → x.statement ∈ h.log

    issued : (m : Message) → AllIssued g.seats rule h.log (Some m) → bad_tag r m ≡ false → Issued (shows g.seats m)
    issued m all good x i = all x i (tags_told r m good x i)

    -- of a VIEW-CHANGE that shows only what was issued
    change_issued : (c : Change) → ViewChangeFits c → Issued (change_shows g.seats c)
        → (view_change_says g.seats c ∈ h.log) × ((p : Proposal) → p ∈ c.entries → Prepared g h p)
    change_issued c fits all = (
      all _ (inl refl),
      λ p m. (in_by_recursion PrepareFits p c.entries fits.8 m, all _ (inr (in_right _ (map (checkpoint_shows g.seats) c.proof) _ (to_map (prepare_shows g.seats) p c.entries m)))),
    )

    -- its CHECKPOINTs are of seats of the group and were issued, so they prove its low mark
    change_proved : (c : Change) → ViewChangeFits c → Issued (change_shows g.seats c) → ((s : ℕ) → s ∈ change_senders c → s < g.seats) → Judged r c
        → Proved g h c.low c.proof
    change_proved c fits all seated judged = elim judged.proof [
      | inl none ↦ inl none
      | inr told ↦ inr (record {
        digest = told.digest;
        many = omega (arith, told.many, G.quorum);
        distinct = told.distinct;
        seated = λ k m. seated k.sender (inr (to_map (λ (x : Mark). x.sender) k c.proof m));
        same = told.same;
        fits = λ k m. in_by_recursion CheckpointFits k c.proof fits.6 m;
        issued = λ k m. all _ (inr (in_left _ (map (checkpoint_shows g.seats) c.proof) (map (prepare_shows g.seats) c.entries) (to_map (checkpoint_shows g.seats) k c.proof m)));
      })
    ]

    -- it stands, as one that is held for a view
    change_held : (c : Change) (target : ℕ) → ViewChangeFits c → Issued (change_shows g.seats c) → ((s : ℕ) → s ∈ change_senders c → s < g.seats) → c.target ≡ target → Judged r c
        → HeldOk g h target r.low c
    change_held c target fits all seated aimed judged =
        let i = change_issued c fits all in
        judged_held g h r F.holds c target fits i.0 (change_proved c fits all seated judged) i.1 (seated c.sender (inl refl)) aimed judged

    -- a message that is no NEW-VIEW
    quiet : (after : Replica St) (new : List Proposal) → Fine g M start rule h seat (record { replica = after; history = record y { seen = new ++ y.seen; view = max y.view 0 } })
        → Kept g M start rule h seat (record { member = record { replica = settled after; history = record y { seen = new ++ y.seen; view = max y.view 0 } }; certified = []; entered = [] })
    quiet after new fine = kept_quiet g M start rule h seat _ R.legal (fine_settled g M start rule G h seat after _ fine)

    kept_prepare : (bytes : List ℕ) (p : Proposal) → decode bytes ≡ Some (Prepare p) → PrepareFits p → AllIssued g.seats rule h.log (Some (Prepare p))
        → KeptIfAnswered g M start rule h seat (by_taking bytes y) (take_prepare r p)
    kept_prepare bytes p e fits all =
        prepare_cases r p (KeptIfAnswered g M start rule h seat (by_taking bytes y))
        (λ refusal no_answer. absurd (false≢true no_answer))
        (λ opens view own order near tags _.
        let here : r.from ≡ r.view = eqb-true _ _ (not-false _ opens) in
        let of_view : p.view ≡ r.view = eqb-true _ _ (not-false _ view) in
        let next : p.order ≡ end r + 1 = eqb-true _ _ (not-false _ order) in
        let prepared : Prepared g h p = (fits, issued (Prepare p) all tags _ (inl refl)) in
        let leader : leader_of g.seats r.view ≡ leader_of g.seats p.view = ap (leader_of g.seats) (sym of_view) in
        let entry = with_vote_of (leader_of g.seats r.view) p in
        let few : length r.entries < window = omega (arith, ltb-false _ _ near, next, entries_last r.from r.low r.entries F.holds.entries.run) in
        let added = add_ok g h r.from r.low r.entries entry F.holds.entries (led_ok g h p _ leader (omega (arith, G.some)) prepared) (of_view ∙ sym here) next few in
        kept_taken g M start rule h seat y bytes (Prepare p) (extended r p) e
        (quiet (extended r p) (p ∷ [])
        (fine_on g M start rule h seat r (extended r p) y h (p ∷ []) 0 F (later_longer h [] []) (record { size = refl; seat = refl; rule = refl })
        (holds_entries g h r F.holds (r.entries ++ entry ∷ []) added.0)
        (shows_on _ r.view r.from (end r) _ _ _ F.shows (omega arith) (omega arith) (λ _. omega (arith, added.1, next)))
        F.matches
        (λ x i. elim i [ inl q ↦ subst (Prepared g h) (sym q) prepared | inr none ↦ absurd none ])
        (λ x i. elim (in_either x (proposals r.entries) (p ∷ []) (subst (λ ps. x ∈ ps) (proposals_append r.entries (entry ∷ [])) i)) [ inl j ↦ inr j | inr j ↦ inl j ])
        (omega arith) refl refl)))

    -- the COMMIT is the sender's order message for each entry of its order
    commit_votes : (c : Vote) → CommitFits c → commit_says g.seats c ∈ h.log → c.view ≡ r.from → other_request c.request (entry_at c.order r.entries) ≡ false
        → (e : Entry) → e ∈ r.entries → e.proposal.order ≡ c.order → Voted g h e.proposal c.sender
    commit_votes c fits i of_view request e m order =
        let found = find_some (λ (x : Entry). x.proposal.order == c.order) e r.entries m (eq-eqb _ _ order) in
        let told = find_told (λ (x : Entry). x.proposal.order == c.order) found.0 r.entries found.1 in
        let stands = in_proposals e r.entries m in
        let one : e.proposal ≡ found.0.proposal =
        turn_one r.from r.low (proposals r.entries) e.proposal found.0.proposal F.holds.entries.run stands (in_proposals found.0 r.entries told.0) (order ∙ sym (eqb-true _ _ told.1)) in
        let asked : c.request ≡ found.0.proposal.request = same_request_told _ _ (not-false _ (subst (λ o. other_request c.request o ≡ false) found.1 request)) in
        let v : c.view ≡ e.proposal.view = of_view ∙ sym (turn_view r.from r.low (proposals r.entries) e.proposal F.holds.entries.run stands) in
        let q : c.request ≡ e.proposal.request = asked ∙ sym (ap (λ (x : Proposal). x.request) one) in
        let says : commit_says g.seats c ≡ commit_says g.seats (commit_of c.sender e.proposal) =
        ap (commit_says g.seats) (λ k. record { sender = c.sender; view = v k; order = sym order k; request = q k; tag = c.tag }) ∙ commit_says_alike g.seats c.sender e.proposal c.tag in
        inr ((F.holds.entries.each e m).prepared.0, subst (λ s. s ∈ h.log) says i)

    kept_commit : (bytes : List ℕ) (c : Vote) → decode bytes ≡ Some (Commit c) → CommitFits c → AllIssued g.seats rule h.log (Some (Commit c))
        → KeptIfAnswered g M start rule h seat (by_taking bytes y) (take_commit r c)
    kept_commit bytes c e fits all =
        commit_cases r c (KeptIfAnswered g M start rule h seat (by_taking bytes y))
        (λ refusal no_answer. absurd (false≢true no_answer))
        (λ opens view leads own sender within tags held request _.
        let of_view : c.view ≡ r.from = eqb-true _ _ (not-false _ view) ∙ sym (eqb-true _ _ (not-false _ opens)) in
        let q = record r { entries = vote_added c.sender c.order r.entries } in
        let seated = senders_told r (Commit c) sender c.sender (inl refl) in
        let stays = proposals_vote_added c.sender c.order r.entries in
        kept_taken g M start rule h seat y bytes (Commit c) q e
        (quiet q []
        (fine_on g M start rule h seat r q y h [] 0 F (later_longer h [] []) (record { size = refl; seat = refl; rule = refl })
        (holds_entries g h r F.holds (vote_added c.sender c.order r.entries)
        (vote_ok g h r.from r.low c.sender c.order r.entries F.holds.entries seated (commit_votes c fits (issued (Commit c) all tags _ (inl refl)) of_view request)))
        (shows_on _ r.view r.from (end r) _ _ _ F.shows (omega arith) (omega arith) (λ _. omega (arith, ap (last_order r.low) stays)))
        F.matches
        (λ x i. absurd i)
        (λ x i. inr (subst (λ ps. x ∈ ps) stays i))
        (omega arith) refl refl)))

    kept_checkpoint : (bytes : List ℕ) (c : Mark) → decode bytes ≡ Some (Checkpoint c) → CheckpointFits c → AllIssued g.seats rule h.log (Some (Checkpoint c))
        → KeptIfAnswered g M start rule h seat (by_taking bytes y) (take_checkpoint r c)
    kept_checkpoint bytes c e fits all =
        checkpoint_cases r c (KeptIfAnswered g M start rule h seat (by_taking bytes y))
        (λ refusal no_answer. absurd (false≢true no_answer))
        (λ own sender order tags held _.
        kept_taken g M start rule h seat y bytes (Checkpoint c) (with_checkpoint r c) e
        (quiet (with_checkpoint r c) []
        (fine_on g M start rule h seat r (with_checkpoint r c) y h [] 0 F (later_longer h [] []) (record { size = refl; seat = refl; rule = refl })
        (holds_checkpoint g h r F.holds c (record { fits = fits; issued = issued (Checkpoint c) all tags _ (inl refl); seated = senders_told r (Checkpoint c) sender c.sender (inl refl) }))
        F.shows
        F.matches
        (λ x i. absurd i)
        (λ x i. inr i)
        (omega arith) refl refl)))

    kept_view_change : (bytes : List ℕ) (c : Change) → decode bytes ≡ Some (ViewChange c) → ViewChangeFits c → AllIssued g.seats rule h.log (Some (ViewChange c))
        → KeptIfAnswered g M start rule h seat (by_taking bytes y) (take_view_change r c)
    kept_view_change bytes c e fits all =
        view_change_cases r c (KeptIfAnswered g M start rule h seat (by_taking bytes y))
        (λ refusal no_answer. absurd (false≢true no_answer))
        (λ target closed own sender tags held whole low history _.
        let i = change_issued c fits (issued (ViewChange c) all tags) in
        let q = record r { changes = slice_set r.changes c.sender (Some c) } in
        let judged = changes_told r (c ∷ []) whole low history c (inl refl) in
        let stands = change_held c r.view fits (issued (ViewChange c) all tags) (senders_told r (ViewChange c) sender) (eqb-true _ _ (not-false _ target)) judged in
        kept_taken g M start rule h seat y bytes (ViewChange c) q e
        (quiet q c.entries
        (fine_on g M start rule h seat r q y h c.entries 0 F (later_longer h [] []) (record { size = refl; seat = refl; rule = refl })
        (holds_change g h r F.holds c stands)
        F.shows
        F.matches
        i.1
        (λ x m. inr m)
        (omega arith) refl refl)))

    -- a NEW-VIEW that the seat may accept, and in which it sees what was certified
    abbrev MayEnter : Opening → Type 0
    MayEnter w =
        Accepted g h w × (low_of w ≤ r.low) × (length w.prepares ≤ window) × ((c : Change) → c ∈ w.changes → (p : Proposal) → p ∈ c.entries → Prepared g h p) × ((p : Proposal) → p ∈ w.prepares → Prepared g h p)

    -- so is one that passes the tests
    may_enter : (w : Opening) → NewViewFits w → Issued (shows g.seats (NewView w)) → no_such_sender r (NewView w) ≡ false → any_incomplete r w.changes ≡ false
        → any_low_ahead r w.changes ≡ false → any_history_missing r w.changes ≡ false
        → founded_on r w ≡ true
        → MayEnter w
    may_enter w fits all sender whole low history based =
        let formed = founded_told r w based in
        let all_in : (c : Change) → c ∈ w.changes → Issued (change_shows g.seats c) =
        λ c m x i. all x (inr (in_left x (flat_map (change_shows g.seats) w.changes) (map (prepare_shows g.seats) w.prepares) (to_flat_map (change_shows g.seats) x c w.changes m i))) in
        let fits_in : (c : Change) → c ∈ w.changes → ViewChangeFits c = λ c m. in_by_recursion ViewChangeFits c w.changes fits.2 m in
        let prepared : (p : Proposal) → p ∈ w.prepares → Prepared g h p =
        λ p m. (in_by_recursion PrepareFits p w.prepares fits.4 m, all _ (inr (in_right _ (flat_map (change_shows g.seats) w.changes) _ (to_map (prepare_shows g.seats) p w.prepares m)))) in
        let stands : (c : Change) → c ∈ w.changes → HeldOk g h w.view r.low c =
        λ c m. change_held c w.view (fits_in c m) (all_in c m) (λ s i. senders_told r (NewView w) sender s (to_flat_map change_senders s c w.changes m i)) (formed.aimed c m) (changes_told r w.changes whole low history c m) in
        let a = told_accepted g h r F.holds w (omega (arith, formed.many, G.quorum)) formed.distinct stands formed.again prepared in
        (a.0, a.1, a.2, (λ c m. (change_issued c (fits_in c m) (all_in c m)).1), prepared)

    kept_new_view : (bytes : List ℕ) (w : Opening) → decode bytes ≡ Some (NewView w) → NewViewFits w → AllIssued g.seats rule h.log (Some (NewView w))
        → KeptIfAnswered g M start rule h seat (by_taking bytes y) (take_new_view r w)
    kept_new_view bytes w e fits all =
        new_view_cases r w (KeptIfAnswered g M start rule h seat (by_taking bytes y))
        (λ refusal no_answer. absurd (false≢true no_answer))
        (λ newer own sender tags whole low history based _.
        let may = may_enter w fits (issued (NewView w) all tags) sender whole low history (not-false _ based) in
        kept_taken g M start rule h seat y bytes (NewView w) (accepted r w) e (enters w fits (leb-false _ _ newer) may))
      where
        enters : (w : Opening) → NewViewFits w → r.from < w.view
            → MayEnter w
            → Kept g M start rule h seat (came y (Some (NewView w)) (settled (accepted r w)) [])
        enters w fits newer a =
            let k = later h [] (w ∷ []) in
            let longer = later_longer h [] (w ∷ []) in
            let right : Accepted g k w = accepted_grows g h k longer w a.0 in
            let q = entered r w in
            let holds = holds_entered g k r (holds_grows g h k longer r F.holds) w G.some refl (inl refl) right a.1 fits.0 a.2 in
            let shown = subst (λ vs. NotAhead (slice_index vs order_counter) (accepted r w).view (accepted r w).from (end (accepted r w))) (sym q.stays.values) (shows_entered g h r F.holds w _ F.shows newer) in
            record {
              fine = fine_settled g M start rule G k seat (accepted r w) _ (fine_on g M start rule h seat r (accepted r w) y k (standing_in (NewView w)) w.view F longer (record { size = q.stays.size; seat = q.stays.seat; rule = q.stays.rule })
                  holds
                  shown
                  (subst (Matches h.log seat) (sym q.stays.values) F.matches)
                  (λ p m. elim (in_either p (flat_map (λ (c : Change). c.entries) w.changes) w.prepares m) [
                    | inl i ↦ let c = in_flat_map (λ (c : Change). c.entries) p w.changes i in a.3 c.0 c.1 p c.2
                    | inr i ↦ a.4 p i
                  ])
                  (λ p m. inl (in_right p (flat_map (λ (c : Change). c.entries) w.changes) w.prepares (q.entries p m)))
                  (sym q.view) q.stays.count q.stays.state);
              legal = R.legal;
              by = λ x i. absurd i;
              views = λ x i. elim i [ inl z ↦ subst (Accepted g k) (sym z) right | inr none ↦ absurd none ];
              changes = λ x f i. absurd i;
              asks = λ p f i. absurd i;
              commits = λ p t f s i. absurd i;
              tells = λ c f i. absurd i;
            }

    kept_message : (bytes : List ℕ) (m : Message) → decode bytes ≡ Some m → MessageFits m → AllIssued g.seats rule h.log (Some m)
        → KeptIfAnswered g M start rule h seat (by_taking bytes y) (take_message r (Some m))
    kept_message bytes (Prepare p) e fits all done = kept_prepare bytes p e fits all done
    kept_message bytes (Commit c) e fits all done = kept_commit bytes c e fits all done
    kept_message bytes (Checkpoint c) e fits all done = kept_checkpoint bytes c e fits all done
    kept_message bytes (ViewChange c) e fits all done = kept_view_change bytes c e fits all done
    kept_message bytes (NewView w) e fits all done = kept_new_view bytes w e fits all done

    pub kept_take : (bytes : List ℕ) → Bytes bytes → AllIssued g.seats rule h.log (decode bytes) → KeptIfAnswered g M start rule h seat (by_taking bytes y) (taken r bytes)
    unfolding taken
    kept_take bytes w8 all = go (decode bytes) refl all
      where
        go : (d : Option Message) → decode bytes ≡ d → AllIssued g.seats rule h.log d → KeptIfAnswered g M start rule h seat (by_taking bytes y) (take_message r d)
        go None e a done = absurd (false≢true done)
        go (Some m) e a done = kept_message bytes m e (messages_exact.only bytes m w8 e).1 a done
