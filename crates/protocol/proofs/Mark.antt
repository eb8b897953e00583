-- *mark* at a correct seat keeps the rules: its CHECKPOINT tells of the requests that it carried out.
use Rattle.std.specs.Prelude.{Some}
use Rattle.std.proofs.Common.{◌≡◌, ℕ, inl, inr, List, [], ◌∷◌, refl, sym, ap, subst, arith}
use Rattle.std.proofs.lemmas.Bool.{false≢true, not-false, leb-true}
use Rattle.std.proofs.lemmas.List.{get_or-set_other}
use Rattle.counter.specs.Statements.{Stated}
use Rattle.parts.specs.Fits.{CheckpointFits}
use Rattle.parts.specs.Messages.{Checkpoint as Mark}
use Rattle.parts.specs.Statements.{order_counter, checkpoint_counter, checkpoint_says}
use Rattle.message.specs.declared.message.Message.TheVariants.{Checkpoint}
use Rattle.protocol.specs.Mark.{own_mark, after_mark, marked}
use Rattle.protocol.specs.Meanings.{Meaning}
use Rattle.protocol.specs.Replicas.{Replica}
use Rattle.protocol.specs.Runs.{History, by_marking}
use Rattle.protocol.specs.Standing.{end, settled}
use Rattle.protocol.proofs.Apart.{same_checkpoint}
use Rattle.protocol.proofs.Cases.{marked_cases}
use Rattle.protocol.proofs.Growth.{Longer}
use Rattle.protocol.proofs.History.{Group, Correct, Past, Rules}
use Rattle.protocol.proofs.Keeping.{of_seat, Reached, Told, Fine, holds_grows, reached_grows}
use Rattle.protocol.proofs.Seats.{NotAhead, Holds, holds_checkpoint}
use Rattle.protocol.proofs.Steps.{KeptIfAnswered, Ground, came, fine_settled, with_one, longer_one, kept_one, kept_written, fine_on}
use Rattle.protocol.proofs.Values.{matches_one, legal_continuing}

module _ (g : Group) {St : Type 0} (M : Meaning St) (start : St) (rule : Stated → List ℕ) (G : Ground g rule M.digest)
    (h : Past) (R : Rules g h) (seat : ℕ) (ok : Correct g seat) (ρ : Replica St) (y : History) where
  abbrev r : Replica St
  r = of_seat g rule seat ρ

  module _ (F : Fine g M start rule h seat (record { replica = r; history = y })) where
    abbrev marks_for : Stated
    marks_for = checkpoint_says g.seats (own_mark M r)

    -- the past once it is certified, and what the seat holds then
    abbrev past : Past
    past = with_one h marks_for

    longer : Longer h past
    longer = longer_one h marks_for

    held : Holds g past r
    held = holds_grows g h past longer r F.holds

    pub mark_fits : CheckpointFits (own_mark M r)
    mark_fits = (omega (arith, ok.0, G.small), F.holds.numbers.count_fits, G.digests _, G.tags _)

    -- the CHECKPOINT has a counter of its own, so the counter of orders shows what it showed
    mark_fine : Fine g M start rule past seat (came y (Some (Checkpoint (own_mark M r))) (after_mark M r) (marks_for ∷ [])).member
    mark_fine =
        fine_on g M start rule h seat r (after_mark M r) y past [] 0 F longer
        (record { size = refl; seat = refl; rule = refl })
        (holds_checkpoint g past r held (own_mark M r) (record { fits = mark_fits; issued = inl refl; seated = ok.0 }))
        (subst (λ n. NotAhead n r.view r.from (end r)) (sym (get_or-set_other r.values checkpoint_counter order_counter 0 0 (omega arith))) F.shows)
        (matches_one marks_for h.log seat r.values refl (omega arith) F.matches)
        (λ q m. absurd m)
        (λ q m. inr m)
        (omega arith) refl refl

    -- what is tagged for the same statement tells of as many requests, and of the state that they made
    mark_told : (c : Mark) → CheckpointFits c → checkpoint_says g.seats c ≡ marks_for → Told g past M start c
    mark_told c f says =
        let same = same_checkpoint g.seats c (own_mark M r) f mark_fits says in
        let now = reached_grows g h past longer M.next start y.carried r.count r.state F.reached in
        record {
          requests = y.carried;
          state = r.state;
          reached = subst (λ k. Reached g past M.next start y.carried k r.state) (sym same.1) now;
          digest = same.2;
        }

    pub kept_mark : (scratch out : List ℕ) → KeptIfAnswered g M start rule h seat (by_marking y) (marked M r scratch out)
    kept_mark scratch out =
        marked_cases r M scratch out (KeptIfAnswered g M start rule h seat (by_marking y))
        (λ refusal no_answer. absurd (false≢true no_answer))
        (λ long room owed granted _.
        kept_written g M start rule h seat y r.count (Checkpoint (own_mark M r)) out (settled (after_mark M r)) (marks_for ∷ []) mark_fits
        (kept_one g M start rule h seat _ marks_for (fine_settled g M start rule G past seat (after_mark M r) _ mark_fine)
        (legal_continuing marks_for h.log seat r.values R.legal F.matches refl refl (omega (arith, leb-true _ _ (not-false _ granted))) (not-false _ granted))
        refl
        (λ c f same. absurd (omega (arith, ap (λ (x : Stated). x.number) same)))
        (λ q f same. absurd (omega (arith, ap (λ (x : Stated). x.number) same)))
        (λ q s f i same. absurd (omega (arith, ap (λ (x : Stated). x.number) same)))
        mark_told))
