-- *carry out* at a correct seat keeps the rules: what is carried out was seen proposed, and a quorum voted for it.
use Rattle.std.specs.Prelude.{◌==◌, ◌&&◌, slice_index_or, Bool, true, false, not, Option, Some, None}
use Rattle.std.proofs.Common.{◌≡◌, ℕ, ◌+◌, ◌≤◌, List, [], ◌∷◌, ◌++◌, length, refl, sym, ◌∙◌, ap, subst, arith, length-append}
use Rattle.std.proofs.lemmas.Bool.{false≢true, not-false, eqb-true, eq-eqb, leb-true, and_parts, and_from, or_parts}
use Rattle.terms.specs.declared.requests.Request.{Request}
use Rattle.counter.specs.Statements.{Stated}
use Rattle.parts.specs.Messages.{Prepare}
use Rattle.protocol.specs.Agreement.{after_all}
use Rattle.protocol.specs.CarryOut.{after_carry_out, entry_carried_out, carried_out}
use Rattle.protocol.specs.Meanings.{Meaning}
use Rattle.protocol.specs.Replicas.{Entry, Replica}
use Rattle.protocol.specs.Runs.{History, by_carrying_out, requests_of, seen_proposed}
use Rattle.protocol.specs.Sets.{◌∈◌}
use Rattle.protocol.specs.Standing.{quorum, vote_count, voted_by_quorum, proposals, entry_at}
use Rattle.protocol.proofs.Agreement.{Carried, in_order_push}
use Rattle.protocol.proofs.Cases.{carried_cases, entry_cases}
use Rattle.protocol.proofs.Coverage.{one_proposal}
use Rattle.protocol.proofs.History.{Group, Past, Rules, Committed}
use Rattle.protocol.proofs.Keeping.{of_seat, Reached, Fine}
use Rattle.protocol.proofs.Lists.{find_told, find_some}
use Rattle.protocol.proofs.Seats.{holds_count}
use Rattle.protocol.proofs.Steps.{KeptIfAnswered, Ground, kept_quiet, fine_settled}
use Rattle.protocol.proofs.Turns.{turn_view, in_proposals}
use Rattle.protocol.proofs.Votes.{seats_with, seats_with_count, seats_with_distinct, seats_with_told}

after_all_push : {St : Type 0} (next : St → Request → St) (start : St) (rs : List Request) (r : Request) → after_all next start (rs ++ r ∷ []) ≡ next (after_all next start rs) r
after_all_push next start [] r = refl
after_all_push next start (x ∷ rs) r = after_all_push next (next start x) rs r

module _ (g : Group) {St : Type 0} (M : Meaning St) (start : St) (rule : Stated → List ℕ) (G : Ground g rule M.digest)
    (h : Past) (R : Rules g h) (seat : ℕ) (ρ : Replica St) (y : History) where
  abbrev r : Replica St
  r = of_seat g rule seat ρ

  module _ (F : Fine g M start rule h seat (record { replica = r; history = y })) where
    -- an entry with a quorum of votes
    committed : (e : Entry) → e ∈ r.entries → quorum r ≤ vote_count e → Committed g h e.proposal
    committed e m many =
        let held : (s : ℕ) → s ∈ seats_with 0 e.votes → slice_index_or e.votes s false ≡ true =
        λ s i. subst (λ k. slice_index_or e.votes k false ≡ true) (omega arith) (seats_with_told 0 e.votes s i).1 in
        record {
          voters = seats_with 0 e.votes;
          many = omega (arith, G.quorum, many, seats_with_count 0 e.votes);
          distinct = seats_with_distinct 0 e.votes;
          seated = λ s i. ((F.holds.entries.each e m).voted s (held s i)).0;
          voted = λ s i. ((F.holds.entries.each e m).voted s (held s i)).1;
        }

    -- the request that was seen proposed is the entry's
    seen : (e : Entry) → e ∈ r.entries → r.from ≡ r.view → seen_proposed y.view e.proposal.order y.seen ≡ e.proposal.request ∷ []
    seen e m here =
        let p = e.proposal in
        let i = in_proposals e r.entries m in
        let of_view : p.view ≡ y.view = turn_view r.from r.low (proposals r.entries) p F.holds.entries.run i ∙ here ∙ sym F.view in
        let test : Prepare → Bool = λ q. q.view == y.view && q.order == p.order in
        let found = find_some test p y.seen (F.saw.entries p i) (and_from _ _ (eq-eqb _ _ of_view) (eq-eqb _ _ refl)) in
        let told = find_told test found.0 y.seen found.1 in
        let parts = and_parts (found.0.view == y.view) _ told.1 in
        let one = one_proposal g h R found.0 p (F.saw.issued found.0 told.0) (F.holds.entries.each e m).prepared (eqb-true _ _ parts.0 ∙ sym of_view) (eqb-true _ _ parts.1) in
        ap requests_of found.1 ∙ ap (λ x. x ∷ []) one

    -- so it is what the list gains
    pub gains : (e : Entry) → e ∈ r.entries → e.proposal.order ≡ r.count + 1 → r.from ≡ r.view
        → y.carried ++ seen_proposed y.view (r.count + 1) y.seen ≡ y.carried ++ e.proposal.request ∷ []
    gains e m order here = ap (λ rs. y.carried ++ rs) (subst (λ o. seen_proposed y.view o y.seen ≡ e.proposal.request ∷ []) order (seen e m here))

    carries : (e : Entry) → e ∈ r.entries → e.proposal.order ≡ r.count + 1 → r.from ≡ r.view → quorum r ≤ vote_count e
        → Fine g M start rule h seat (record { replica = after_carry_out M r e; history = record y { carried = y.carried ++ seen_proposed y.view (r.count + 1) y.seen } })
    carries e m order here many =
        let next : Carried g h (length y.carried + 1) e.proposal.request = (e.proposal, order ∙ omega (arith, F.reached.counted), refl, committed e m many) in
        let reached : Reached g h M.next start (y.carried ++ e.proposal.request ∷ []) (r.count + 1) (M.next r.state e.proposal.request) = record {
          counted = length-append y.carried (e.proposal.request ∷ []) ∙ omega (arith, F.reached.counted);
          made = ap (λ x. M.next x e.proposal.request) F.reached.made ∙ sym (after_all_push M.next start y.carried e.proposal.request);
          done = in_order_push g h y.carried e.proposal.request F.reached.done next;
        } in
        record {
          founded = record { size = refl; seat = refl; rule = refl };
          holds = holds_count g h r F.holds (r.count + 1) (omega (arith, order, (F.holds.entries.each e m).prepared.0.1)) (omega arith);
          shows = F.shows;
          matches = F.matches;
          saw = record { issued = F.saw.issued; entries = F.saw.entries };
          view = F.view;
          reached = subst (λ rs. Reached g h M.next start rs (r.count + 1) (M.next r.state e.proposal.request)) (sym (gains e m order here)) reached;
        }

    pub kept_carry_out : KeptIfAnswered g M start rule h seat (by_carrying_out y) (carried_out M r)
    kept_carry_out =
        carried_cases r M (KeptIfAnswered g M start rule h seat (by_carrying_out y))
        (λ refusal no_answer. absurd (false≢true no_answer))
        (λ opens. go (entry_at (r.count + 1) r.entries) refl (eqb-true _ _ (not-false _ opens)))
      where
        go : (found : Option Entry) → entry_at (r.count + 1) r.entries ≡ found → r.from ≡ r.view
            → KeptIfAnswered g M start rule h seat (by_carrying_out y) (entry_carried_out M r found)
        go None e here = λ done. absurd (false≢true done)
        go (Some e) found here = entry_cases r M e (KeptIfAnswered g M start rule h seat (by_carrying_out y)) (λ refusal no_answer. absurd (false≢true no_answer)) (λ stops _.
            let told = find_told (λ (x : Entry). x.proposal.order == r.count + 1) e r.entries found in
            let many = leb-true _ _ (not-false _ (or_parts (not (voted_by_quorum r e)) _ stops).0) in
            kept_quiet g M start rule h seat _ R.legal (fine_settled g M start rule G h seat (after_carry_out M r e) _ (carries e told.0 (eqb-true _ _ told.1) here many)))
