-- What an answered call tells: each message is within its limits, so it reads back, and its tag is that of its statement.
use Rattle.std.specs.Prelude.{if◌then◌else◌, nat_lt, ◌==◌, Bool, true, false, Option, Some, None, Ok, Result}
use Rattle.std.proofs.Common.{◌≡◌, ℕ, ◌+◌, List, [], ◌∷◌, length, map, refl, sym, ◌∙◌, ap, subst, arith, take}
use Rattle.std.proofs.lemmas.Bool.{not-false, eqb-true, ltb-false}
use Rattle.terms.specs.Numbers.{window}
use Rattle.terms.specs.declared.refusals.Refusal.{Refusal}
use Rattle.terms.specs.declared.requests.Request.{Request}
use Rattle.counter.specs.Statements.{Stated}
use Rattle.xdr.specs.Layout.{pasted}
use Rattle.parts.specs.Encoding.{untagged_prepare, untagged_commit, untagged_checkpoint}
use Rattle.parts.specs.Fits.{IsInt, RequestFits}
use Rattle.parts.specs.Messages.{Prepare as Proposal}
use Rattle.parts.specs.Statements.{prepare_says}
use Rattle.message.specs.Decoding.{encode, decode, tag_of, says}
use Rattle.message.specs.Encoding.{untagged_view_change, untagged_new_view}
use Rattle.message.specs.Fits.{ViewChangeFits}
use Rattle.message.specs.Laws.{MessageFits}
use Rattle.message.specs.Statements.{view_change_says}
use Rattle.message.specs.declared.message.Message.{Message}
use Rattle.message.specs.declared.message.Message.TheVariants.{Prepare, Commit, Checkpoint, ViewChange, NewView}
use Rattle.protocol.specs.Again.{in_turn, proposed_again}
use Rattle.protocol.specs.Ask.{tag_prepare, proposal, asked}
use Rattle.protocol.specs.CarryOut.{carried_out, entry_carried_out}
use Rattle.protocol.specs.Mark.{own_mark, marked}
use Rattle.protocol.specs.Meanings.{Meaning}
use Rattle.protocol.specs.Open.{own_new_view, opened}
use Rattle.protocol.specs.Outcomes.{Outcome, wrote}
use Rattle.protocol.specs.Replicas.{Entry, Replica}
use Rattle.protocol.specs.Runs.{Member, History}
use Rattle.protocol.specs.Standing.{is_open, chosen, shown, first_to_vote, entry_at, without_votes}
use Rattle.protocol.specs.Suspect.{known_entries, merged, merged_from, own_change, left, suspected}
use Rattle.protocol.specs.Telling.{Stands, AskTells, VoteTells, MarkTells, SuspectTells, OpenTells, CarryOutTells, Tells}
use Rattle.protocol.specs.Vote.{commit_for, vote_cast, voted}
use Rattle.protocol.proofs.Ask.{ask_fits}
use Rattle.protocol.proofs.CarryOut.{gains}
use Rattle.protocol.proofs.Cases.{asked_cases, voted_cases, cast_cases, marked_cases, suspected_cases, opened_cases, carried_cases, entry_cases}
use Rattle.protocol.proofs.History.{Group, Past, Rules, Correct}
use Rattle.protocol.proofs.Keeping.{of_seat, own_replica, Fine}
use Rattle.protocol.proofs.Lists.{find_told, in_map}
use Rattle.protocol.proofs.Mark.{mark_fits}
use Rattle.protocol.proofs.Open.{opening_fits}
use Rattle.protocol.proofs.Steps.{Ground, written_reads}
use Rattle.protocol.proofs.Suspect.{change_fits, holds_merged, shows_merged}
use Rattle.protocol.proofs.Turns.{in_proposals}
use Rattle.protocol.proofs.Vote.{vote_fits}

-- equal answers have equal parts
parts : {A B : Type 0} (x y : A × B) → ◌≡◌ {A = Result (A × B) Refusal} (Ok x) (Ok y) → (x.0 ≡ y.0) × (x.1 ≡ y.1)
parts x y e = let same : x ≡ y = cc in (ap (λ z. z.0) same, ap (λ z. z.1) same)

-- a message that was written to the front of a buffer
stands : (n : ℕ) (rule : Stated → List ℕ) (m : Message) (out : List ℕ) (count : ℕ) → MessageFits m → tag_of m ≡ rule (says n m) → length (encode m) ≡ count
    → Stands n rule count (pasted out 0 (encode m)) m
stands n rule m out count fits tagged long = (subst (λ k. decode (take k (pasted out 0 (encode m))) ≡ Some m) long (written_reads m out fits), tagged)

module _ (g : Group) {St : Type 0} (M : Meaning St) (start : St) (rule : Stated → List ℕ) (G : Ground g rule M.digest)
    (h : Past) (R : Rules g h) (seat : ℕ) (ok : Correct g seat) where
  module _ (ρ : Replica St) (y : History) where
    abbrev r : Replica St
    r = of_seat g rule seat ρ

    abbrev m : Member St
    m = record { replica = r; history = y }

    module _ (F : Fine g M start rule h seat m) where
      tells_ask : (request : Request) (out : List ℕ) → RequestFits request → AskTells M g.seats rule start seat m request (asked r request out)
      unfolding untagged_prepare
      tells_ask request out fits =
          asked_cases r request out (AskTells M g.seats rule start seat m request)
          (λ refusal order count e. absurd (cc e))
          (λ long opens leading near small granted order count e.
          let p = proposal r request in
          let told = parts _ _ e in
          (p, stands g.seats rule (Prepare p) out count (ask_fits g M start rule G h R seat ok ρ y F request fits (omega (arith, ltb-false _ _ small))) refl told.1, refl, told.0, refl))

      tells_vote : (out : List ℕ) → VoteTells M g.seats rule start seat m (voted r out)
      unfolding untagged_commit
      tells_vote out =
          voted_cases r out (VoteTells M g.seats rule start seat m)
          (λ refusal order count e. absurd (cc e))
          (λ long opens follows. go (first_to_vote r) refl)
        where
          go : (found : Option Entry) → first_to_vote r ≡ found → VoteTells M g.seats rule start seat m (vote_cast r out found)
          go None found = λ order count e. absurd (cc e)
          go (Some x) found =
              cast_cases r out x (VoteTells M g.seats rule start seat m)
              (λ refusal order count e. absurd (cc e))
              (λ granted order count e.
              let c = commit_for r x.proposal in
              let stood = (find_told (λ (z : Entry). nat_lt (shown r) z.proposal.order) x r.entries found).0 in
              let told = parts _ _ e in
              (c, stands g.seats rule (Commit c) out count (vote_fits g M start rule G h R seat ok ρ y F x stood) refl told.1, refl, refl, told.0, (x.proposal, in_proposals x r.entries stood, told.0, refl)))

      tells_mark : (scratch out : List ℕ) → MarkTells M g.seats rule start seat m (marked M r scratch out)
      unfolding untagged_checkpoint
      tells_mark scratch out =
          marked_cases r M scratch out (MarkTells M g.seats rule start seat m)
          (λ refusal order count e. absurd (cc e))
          (λ long room owed granted order count e.
          let c = own_mark M r in
          let told = parts _ _ e in
          (c, stands g.seats rule (Checkpoint c) out count (mark_fits g M start rule G h R seat ok ρ y F) refl told.1, refl, told.0, sym told.0, refl))

      -- its VIEW-CHANGE with its own record, or with one that it gathered
      abbrev leaves : Replica St → List ℕ → Outcome (ℕ × ℕ) (List ℕ) St
      leaves q out = wrote (r.view + 1) (ViewChange (own_change q)) out (left q) (view_change_says r.size (own_change q) ∷ [])

      tells_left : (from : ℕ) (es : List Entry) (out : List ℕ) → ViewChangeFits (own_change (record r { from = from; entries = es }))
          → SuspectTells M g.seats rule start seat m (leaves (record r { from = from; entries = es }) out)
      unfolding untagged_view_change
      tells_left from es out fits = λ view count e.
          let c = own_change (record r { from = from; entries = es }) in
          let told = parts _ _ e in
          (c, stands g.seats rule (ViewChange c) out count fits refl told.1, refl, told.0, sym told.0, refl, refl)

      tells_suspect : (out : List ℕ) → SuspectTells M g.seats rule start seat m (suspected r out)
      unfolding merged
      tells_suspect out =
          suspected_cases r out (SuspectTells M g.seats rule start seat m)
          (λ refusal view count e. absurd (cc e))
          (λ long small may given. go (omega (arith, ltb-false _ _ small)) (is_open r))
        where
          go : IsInt (r.view + 1) → (b : Bool) → SuspectTells M g.seats rule start seat m (leaves (if b then r else merged r) out)
          go small true = tells_left r.from r.entries out (change_fits g h r F.holds F.shows (omega (arith, ok.0, G.small)) small G.tags)
          go small false =
              tells_left (merged_from r) (map without_votes (in_turn window r.low (known_entries r))) out
              (change_fits g h (merged r) (holds_merged g h r F.holds) (shows_merged g h r F.holds F.shows) (omega (arith, ok.0, G.small)) small G.tags)

      tells_open : (out : List ℕ) → OpenTells M g.seats rule start seat m (opened r out)
      unfolding own_new_view untagged_new_view untagged_prepare
      tells_open out =
          opened_cases r out (OpenTells M g.seats rule start seat m)
          (λ refusal view count e. absurd (cc e))
          (λ long closed leading many given view count e.
          let x = own_new_view r in
          let told = parts _ _ e in (
            x,
            stands g.seats rule (NewView x) out count (opening_fits g M start rule G h R seat ρ y F x.tag (not-false _ many) (G.tags _)) refl told.1,
            told.0,
            sym told.0,
            refl,
            (λ p i. let (q, j, is) = in_map (tag_prepare r) p (proposed_again r.view (chosen r)) i in subst (λ (z : Proposal). z.tag ≡ rule (prepare_says g.seats z)) (sym is) refl),
          ))

      tells_carry_out : CarryOutTells M g.seats rule start seat m (carried_out M r)
      tells_carry_out =
          carried_cases r M (CarryOutTells M g.seats rule start seat m)
          (λ refusal order reply e. absurd (cc e))
          (λ opens. go (entry_at (r.count + 1) r.entries) refl (eqb-true _ _ (not-false _ opens)))
        where
          go : (found : Option Entry) → entry_at (r.count + 1) r.entries ≡ found → r.from ≡ r.view → CarryOutTells M g.seats rule start seat m (entry_carried_out M r found)
          go None found here = λ order reply e. absurd (cc e)
          go (Some x) found here =
              entry_cases r M x (CarryOutTells M g.seats rule start seat m)
              (λ refusal order reply e. absurd (cc e))
              (λ stops order reply e.
              let stood = find_told (λ (z : Entry). z.proposal.order == r.count + 1) x r.entries found in
              let told = parts _ _ e in
              (x.proposal.request, sym told.0, sym told.1 ∙ ap (λ s. M.reply s x.proposal.request) F.reached.made, gains g M start rule G h R seat ρ y F x stood.0 (eqb-true _ _ stood.1) here))

  -- of each correct seat at each moment of a run
  pub told : (m : Member St) → Fine g M start rule h seat m → Tells M g.seats rule start seat m
  told m F =
      let own = own_replica g rule seat m F.founded in
      let f = subst (Fine g M start rule h seat) own F in
      subst (Tells M g.seats rule start seat) (sym own) (record {
        ask = tells_ask m.replica m.history f;
        vote = tells_vote m.replica m.history f;
        mark = tells_mark m.replica m.history f;
        suspect = tells_suspect m.replica m.history f;
        open_view = tells_open m.replica m.history f;
        carry_out = tells_carry_out m.replica m.history f;
      })
