-- *vote* at a correct seat keeps the rules: it votes for an entry of its record, of a view that is open.
use Rattle.std.specs.Prelude.{nat_lt, Option, Some, None}
use Rattle.std.proofs.Common.{◌≡◌, ℕ, ◌<◌, ◌≤◌, inl, inr, true, List, [], ◌∷◌, refl, sym, ◌∙◌, ap, subst, arith}
use Rattle.std.proofs.lemmas.Bool.{false≢true, not-false, eqb-true}
use Rattle.terms.specs.Pairs.{paired}
use Rattle.counter.specs.Statements.{Stated}
use Rattle.counter.specs.declared.kinds.Kind.TheVariants.{Independent}
use Rattle.parts.specs.Fits.{CommitFits}
use Rattle.parts.specs.Messages.{Prepare as Proposal}
use Rattle.parts.specs.Statements.{order_counter, commit_says}
use Rattle.message.specs.declared.message.Message.TheVariants.{Commit}
use Rattle.protocol.specs.Changes.{last_order}
use Rattle.protocol.specs.Meanings.{Meaning}
use Rattle.protocol.specs.Outcomes.{wrote}
use Rattle.protocol.specs.Replicas.{Entry, Replica}
use Rattle.protocol.specs.Runs.{History, by_writing}
use Rattle.protocol.specs.Sets.{◌∈◌}
use Rattle.protocol.specs.Standing.{end, grants, proposals, first_to_vote, shown}
use Rattle.protocol.specs.Vote.{commit_for, after_vote, voted, vote_cast}
use Rattle.protocol.proofs.Alike.{sound_alike, commit_says_alike}
use Rattle.protocol.proofs.Apart.{same_commit, no_commit, commit_fits}
use Rattle.protocol.proofs.Cases.{voted_cases, cast_cases}
use Rattle.protocol.proofs.Growth.{Longer, prepared_grows}
use Rattle.protocol.proofs.History.{Group, Correct, Past, Rules, Voted, Opened, Sound, commit_of}
use Rattle.protocol.proofs.Keeping.{of_seat, Fine, Kept, holds_grows}
use Rattle.protocol.proofs.Lists.{find_told}
use Rattle.protocol.proofs.Seats.{RecordOk, EntryOk, Holds, vote_ok, holds_entries}
use Rattle.protocol.proofs.Steps.{KeptIfAnswered, Ground, came, with_one, longer_one, kept_one, kept_written, fine_on, opened_here, shows_now}
use Rattle.protocol.proofs.Turns.{turn_above, turn_view, turn_one, turn_last, proposals_vote_added, in_proposals}
use Rattle.protocol.proofs.Values.{matches_one, legal_independent}

module _ (g : Group) {St : Type 0} (M : Meaning St) (start : St) (rule : Stated → List ℕ) (G : Ground g rule M.digest)
    (h : Past) (R : Rules g h) (seat : ℕ) (ok : Correct g seat) (ρ : Replica St) (y : History) where
  abbrev r : Replica St
  r = of_seat g rule seat ρ

  module _ (F : Fine g M start rule h seat (record { replica = r; history = y })) where
    -- its COMMIT for an entry of the record is within its limits
    pub vote_fits : (e : Entry) → e ∈ r.entries → CommitFits (commit_for r e.proposal)
    vote_fits e stood = let f = (F.holds.entries.each e stood).prepared.0 in (omega (arith, ok.0, G.small), F.holds.numbers.view_fits, f.1, f.2, G.tags _)

    -- for an entry of the record of an open view
    module _ (e : Entry) (stood : e ∈ r.entries) (here : r.from ≡ r.view) (granted : grants r Independent order_counter (paired r.view e.proposal.order) ≡ true) where
      abbrev told : Proposal
      told = e.proposal

      abbrev votes_for : Stated
      votes_for = commit_says g.seats (commit_for r told)

      -- the past once it is certified, and what the seat holds then
      abbrev past : Past
      past = with_one h votes_for

      longer : Longer h past
      longer = longer_one h votes_for

      held : Holds g past r
      held = holds_grows g h past longer r F.holds

      entry_ok : EntryOk g h e
      entry_ok = F.holds.entries.each e stood

      among : told ∈ proposals r.entries
      among = in_proposals e r.entries stood

      of_view : told.view ≡ r.view
      of_view = turn_view r.from r.low (proposals r.entries) told F.holds.entries.run among ∙ here

      within : (r.low < told.order) × (told.order ≤ end r)
      within = let i = turn_above r.from r.low (proposals r.entries) told F.holds.entries.run among in (i.0, omega (arith, i.1, turn_last r.from r.low (proposals r.entries) F.holds.entries.run))

      own_fits : CommitFits (commit_for r told)
      own_fits = vote_fits e stood

      -- its COMMIT is tagged for what the seat's COMMIT for the proposal is tagged for
      same_vote : commit_says g.seats (commit_of seat told) ≡ votes_for
      same_vote =
          let c = commit_for r told in
          sym (commit_says_alike g.seats seat told c.tag) ∙ ap (λ v. commit_says g.seats (record c { view = v })) of_view

      vote_record : RecordOk g past r.from r.low (after_vote r told.order).entries
      vote_record =
          vote_ok g past r.from r.low seat told.order r.entries held.entries ok.0
          (λ f i same.
          let one = turn_one r.from r.low (proposals r.entries) f.proposal told F.holds.entries.run (in_proposals f r.entries i) among same in
          subst (λ q. Voted g past q seat) (sym one) (inr (entry_ok.prepared.0, inl same_vote)))

      vote_fine : Fine g M start rule past seat (came y (Some (Commit (commit_for r told))) (after_vote r told.order) (votes_for ∷ [])).member
      vote_fine =
          let same = proposals_vote_added seat told.order r.entries in
          fine_on g M start rule h seat r (after_vote r told.order) y past [] 0 F longer
          (record { size = refl; seat = refl; rule = refl })
          (holds_entries g past r held _ vote_record)
          (shows_now r.values r.view r.from told.order (end (after_vote r told.order)) (omega (arith, F.matches.0)) here (omega (arith, within.1, ap (last_order r.low) same)) (omega (arith, entry_ok.prepared.0.1)))
          (matches_one votes_for h.log seat r.values refl (omega arith) F.matches)
          (λ q m. absurd m)
          (λ q m. inr (subst (λ ps. q ∈ ps) same m))
          (omega arith) refl refl

      vote_sound : Sound g past told
      vote_sound = record {
        positive = omega (arith, within.0);
        issued = prepared_grows g h past longer told entry_ok.prepared;
        opened = subst (λ v. Opened g past v told.order) (sym of_view) (opened_here g h past r told.order F.holds longer here within.0);
      }

      votes : (out : List ℕ) → Kept g M start rule h seat (by_writing y (wrote told.order (Commit (commit_for r told)) out (after_vote r told.order) (votes_for ∷ [])))
      votes out =
          kept_written g M start rule h seat y told.order (Commit (commit_for r told)) out (after_vote r told.order) (votes_for ∷ []) own_fits
          (kept_one g M start rule h seat _ votes_for vote_fine
          (legal_independent votes_for h.log seat r.values R.legal F.matches refl refl refl granted)
          refl
          (λ c f same. absurd (omega (arith, ap (λ (x : Stated). x.kind) same)))
          (λ q f same. absurd (no_commit g.seats q (commit_for r told) f own_fits same))
          (λ q s f i same.
          let c = same_commit g.seats (commit_of s q) (commit_for r told) (commit_fits s q i f) own_fits same in
          sound_alike g past q told f (c.1 ∙ sym of_view, c.2, c.3) vote_sound)
          (λ k f same. absurd (omega (arith, ap (λ (x : Stated). x.number) same))))

    pub kept_vote : (out : List ℕ) → KeptIfAnswered g M start rule h seat (by_writing y) (voted r out)
    kept_vote out =
        voted_cases r out (KeptIfAnswered g M start rule h seat (by_writing y))
        (λ refusal no_answer. absurd (false≢true no_answer))
        (λ long opens follows. go (eqb-true _ _ (not-false _ opens)) (first_to_vote r) refl)
      where
        go : r.from ≡ r.view → (found : Option Entry) → first_to_vote r ≡ found → KeptIfAnswered g M start rule h seat (by_writing y) (vote_cast r out found)
        go here None found = λ no_answer. absurd (false≢true no_answer)
        go here (Some e) found =
            cast_cases r out e (KeptIfAnswered g M start rule h seat (by_writing y))
            (λ refusal no_answer. absurd (false≢true no_answer))
            (λ granted _. votes e (find_told (λ (x : Entry). nat_lt (shown r) x.proposal.order) e r.entries found).0 here (not-false _ granted) out)
