-- *ask* at a correct seat keeps the rules: it leads the view that it proposes in, and its record goes on with the PREPARE.
use Rattle.std.specs.Prelude.{Some}
use Rattle.std.proofs.Common.{◌≡◌, ℕ, ◌+◌, ◌≤◌, inl, inr, true, List, [], ◌∷◌, length, refl, sym, ap, subst, arith}
use Rattle.std.proofs.lemmas.Bool.{false≢true, not-false, eqb-true, ltb-false}
use Rattle.terms.specs.Numbers.{window}
use Rattle.terms.specs.Pairs.{paired}
use Rattle.terms.specs.declared.requests.Request.{Request}
use Rattle.counter.specs.Statements.{Stated}
use Rattle.counter.specs.declared.kinds.Kind.TheVariants.{Independent}
use Rattle.parts.specs.Fits.{IsInt, RequestFits, PrepareFits}
use Rattle.parts.specs.Messages.{Prepare as Proposal}
use Rattle.parts.specs.Statements.{order_counter, prepare_says}
use Rattle.message.specs.declared.message.Message.TheVariants.{Prepare}
use Rattle.protocol.specs.Ask.{next_order, proposal, extended, after_ask, asked}
use Rattle.protocol.specs.Meanings.{Meaning}
use Rattle.protocol.specs.Outcomes.{wrote}
use Rattle.protocol.specs.Replicas.{Replica}
use Rattle.protocol.specs.Runs.{History, by_writing}
use Rattle.protocol.specs.Sets.{◌∈◌}
use Rattle.protocol.specs.Standing.{end, leader, grants, proposals, with_vote_of}
use Rattle.protocol.proofs.Alike.{sound_alike}
use Rattle.protocol.proofs.Apart.{same_prepare, no_commit, commit_fits}
use Rattle.protocol.proofs.Cases.{asked_cases}
use Rattle.protocol.proofs.Growth.{Longer}
use Rattle.protocol.proofs.History.{Group, Correct, Past, Rules, Prepared, Sound, commit_of}
use Rattle.protocol.proofs.Keeping.{of_seat, Fine, Kept, holds_grows}
use Rattle.protocol.proofs.Lists.{in_either}
use Rattle.protocol.proofs.Seats.{RecordOk, Holds, add_ok, led_ok, holds_entries}
use Rattle.protocol.proofs.Steps.{KeptIfAnswered, Ground, came, with_one, longer_one, kept_one, kept_written, fine_on, opened_here, shows_now}
use Rattle.protocol.proofs.Turns.{entries_last, proposals_append}
use Rattle.protocol.proofs.Values.{matches_one, legal_independent}

module _ (g : Group) {St : Type 0} (M : Meaning St) (start : St) (rule : Stated → List ℕ) (G : Ground g rule M.digest)
    (h : Past) (R : Rules g h) (seat : ℕ) (ok : Correct g seat) (ρ : Replica St) (y : History) where
  abbrev r : Replica St
  r = of_seat g rule seat ρ

  module _ (F : Fine g M start rule h seat (record { replica = r; history = y })) where
    -- its PREPARE is within its limits
    pub ask_fits : (request : Request) → RequestFits request → IsInt (next_order r) → PrepareFits (proposal r request)
    ask_fits request fits small = (F.holds.numbers.view_fits, small, fits, G.tags _)

    -- when all its tests passed
    module _ (request : Request) (fits : RequestFits request) (here : r.from ≡ r.view) (led : leader r ≡ seat) (near : next_order r ≤ r.low + window)
        (small : IsInt (next_order r)) (granted : grants r Independent order_counter (paired r.view (next_order r)) ≡ true) where
      abbrev p : Proposal
      p = proposal r request

      abbrev asks_for : Stated
      asks_for = prepare_says g.seats p

      -- the past once it is certified, and what the seat holds then
      abbrev past : Past
      past = with_one h asks_for

      longer : Longer h past
      longer = longer_one h asks_for

      held : Holds g past r
      held = holds_grows g h past longer r F.holds

      own_fits : PrepareFits p
      own_fits = ask_fits request fits small

      ask_prepared : Prepared g past p
      ask_prepared = (own_fits, inl refl)

      last : end r ≡ r.low + length r.entries
      last = entries_last r.from r.low r.entries F.holds.entries.run

      -- the record goes on with it, and holds the leader's vote for it
      ask_record : RecordOk g past r.from r.low (extended r p).entries × (end (extended r p) ≡ next_order r)
      ask_record =
          add_ok g past r.from r.low r.entries (with_vote_of (leader r) p) held.entries
          (led_ok g past p (leader r) refl (omega (arith, led, ok.0)) ask_prepared)
          (sym here) refl
          (omega (arith, near, last))

      ask_fine : Fine g M start rule past seat (came y (Some (Prepare p)) (after_ask r request) (asks_for ∷ [])).member
      ask_fine =
          fine_on g M start rule h seat r (after_ask r request) y past (p ∷ []) 0 F longer
          (record { size = refl; seat = refl; rule = refl })
          (holds_entries g past r held _ ask_record.0)
          (shows_now r.values r.view r.from (next_order r) (end (extended r p)) (omega (arith, F.matches.0)) here (omega (arith, ask_record.1)) small)
          (matches_one asks_for h.log seat r.values led (omega arith) F.matches)
          (λ q m. elim m [ inl e ↦ subst (Prepared g past) (sym e) ask_prepared | inr none ↦ absurd none ])
          (λ q m. elim (in_either q (proposals r.entries) (p ∷ []) (subst (λ ps. q ∈ ps) (proposals_append r.entries (with_vote_of (leader r) p ∷ [])) m)) [ inl i ↦ inr i | inr i ↦ inl i ])
          (omega arith) refl refl

      ask_sound : Sound g past p
      ask_sound = record {
        positive = omega arith;
        issued = ask_prepared;
        opened = opened_here g h past r (next_order r) F.holds longer here (omega (arith, last));
      }

      asks : (out : List ℕ) → Kept g M start rule h seat (by_writing y (wrote (next_order r) (Prepare p) out (after_ask r request) (asks_for ∷ [])))
      asks out =
          kept_written g M start rule h seat y (next_order r) (Prepare p) out (after_ask r request) (asks_for ∷ []) own_fits
          (kept_one g M start rule h seat _ asks_for ask_fine
          (legal_independent asks_for h.log seat r.values R.legal F.matches refl led refl granted)
          led
          (λ c f told. absurd (omega (arith, ap (λ (x : Stated). x.kind) told)))
          (λ q f told. sound_alike g past q p f (same_prepare g.seats q p f own_fits told) ask_sound)
          (λ q s f i told. absurd (no_commit g.seats p (commit_of s q) own_fits (commit_fits s q i f) (sym told)))
          (λ k f told. absurd (omega (arith, ap (λ (x : Stated). x.number) told))))

    pub kept_ask : (request : Request) (out : List ℕ) → RequestFits request → KeptIfAnswered g M start rule h seat (by_writing y) (asked r request out)
    kept_ask request out fits =
        asked_cases r request out (KeptIfAnswered g M start rule h seat (by_writing y))
        (λ refusal no_answer. absurd (false≢true no_answer))
        (λ long opens leading near small granted _.
        asks request fits (eqb-true _ _ (not-false _ opens)) (eqb-true _ _ (not-false _ leading)) (ltb-false _ _ near) (omega (arith, ltb-false _ _ small)) (not-false _ granted) out)
