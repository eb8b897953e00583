-- From places that a run left to those that one entry more leaves, and to agreement.
use Rattle.std.specs.Prelude.{slice_get}
use Rattle.std.proofs.Common.{◌≡◌, ℕ, List, [], ◌∷◌, ◌++◌, length, Option, None, Some, Result, refl, sym, ap, ◌∙◌, subst, arith}
use Rattle.std.proofs.lemmas.Option.{slice_get_within}
use Rattle.terms.specs.Numbers.{digest_bytes}
use Rattle.terms.specs.declared.refusals.Refusal.{Refusal}
use Rattle.counter.specs.Statements.{Stated}
use Rattle.protocol.specs.Agreement.{Agreed, Founding}
use Rattle.protocol.specs.Meanings.{Meaning}
use Rattle.protocol.specs.Replicas.{Replica}
use Rattle.protocol.specs.Runs.{World, Event, beginning, happened, played, Possible, Correct, Run}
use Rattle.protocol.specs.Sets.{◌∈◌}
use Rattle.protocol.proofs.Runs.{group_agrees, later_views_bring, low_marks_tell}
use Rattle.cluster.specs.Entries.{Lent, call_of, seat_of, acted, added_at, added}
use Rattle.cluster.specs.Places.{Place, others_of, Holds}
use Rattle.cluster.specs.Places.Place.{Held, Alone}
use Rattle.cluster.specs.Promises.{UnforgedCall, Unforged, CallFits, EntryFits, After, Follows, GoesOn, Founded, EqualCountsEqualStates, PlacesAgree}
use Rattle.cluster.specs.declared.entries.Answer.{Answer}
use Rattle.cluster.specs.declared.entries.Call.{Call}
use Rattle.cluster.specs.declared.entries.Call.TheVariants.{Ask, Take, Vote, CarryOut, Mark, Suspect, Open}
use Rattle.cluster.specs.declared.entries.Entry.{Entry}
use Rattle.cluster.specs.declared.entries.Entry.TheVariants.{At, Elsewhere}
use Rattle.cluster.proofs.Places.{other_is_alone, alone_is_other}
use Rattle.cluster.proofs.Playing.{seen_at, acted_keeps, acted_others}

module _ {St : Type 0} (M : Meaning St) (n : ℕ) (rule : Stated → List ℕ) where
  -- a run that goes on
  played_on : (w : World St) (run more : List Event) → played M rule w (run ++ more) ≡ played M rule (played M rule w run) more
  played_on w [] more = refl
  played_on w (e ∷ run) more = played_on (happened M rule w e) run more

  run_on : (faulty : List ℕ) (w : World St) (run more : List Event) → Run M n rule faulty w run → Run M n rule faulty (played M rule w run) more → Run M n rule faulty w (run ++ more)
  run_on faulty w [] more legal further = further
  run_on faulty w (e ∷ run) more legal further = (legal.0, run_on faulty (happened M rule w e) run more legal.1 further)

  -- a seat with a replica keeps to the rules
  held_correct : (places : List (Place St)) (seat : ℕ) (r : Replica St) → length places ≡ n → slice_get places seat ≡ Some (Held r) → Correct n (others_of places) seat
  held_correct places seat r many e = (
    omega (arith, slice_get_within places seat (Held r) e, many),
    λ other. let t = other_is_alone 0 places seat other in
        let same : slice_get places seat ≡ Some (Alone t.1) = subst (λ s. slice_get places s ≡ Some (Alone t.1)) (omega (arith, t.2)) t.3 in
        absurd (cc),
  )

  possible : (issued : List Stated) (call : Call) (lent : Lent) → CallFits call → UnforgedCall n rule issued call → Possible n rule issued (call_of call lent)
  possible issued (Ask request) lent fits unforged = fits
  possible issued (Take bytes) lent fits unforged = (fits, unforged)
  possible issued Vote lent fits unforged = tt
  possible issued CarryOut lent fits unforged = tt
  possible issued Mark lent fits unforged = tt
  possible issued Suspect lent fits unforged = tt
  possible issued Open lent fits unforged = tt

  module _ (places : List (Place St)) (w : World St) (many : length places ≡ n) where
    legal_at : (place : Option (Place St)) (entry : Entry) (lent : Lent) → slice_get places (seat_of entry) ≡ place
        → EntryFits entry → Unforged n rule w.issued entry → Run M n rule (others_of places) w (added_at place entry lent)
    legal_at None entry lent e fits unforged = tt
    legal_at (Some (Held r)) (At seat call) lent e fits unforged = ((held_correct places seat r many e, possible w.issued call lent fits unforged), tt)
    legal_at (Some (Held r)) (Elsewhere seat kind number new message) lent e fits unforged = tt
    legal_at (Some (Alone c)) (At seat call) lent e fits unforged = tt
    legal_at (Some (Alone c)) (Elsewhere seat kind number new message) lent e fits unforged =
        (subst (λ s. s ∈ others_of places) (omega arith) (alone_is_other 0 places seat c e), tt)

  goes_on : (start : St) (places : List (Place St)) (run : List Event) (entry : Entry) (lent : Lent) → EntryFits entry → After M n rule start places run
      → Unforged n rule (played M rule (beginning n rule start) run).issued entry
      → After M n rule start (acted M places entry lent).1 (run ++ added places entry lent)
  goes_on start places run entry lent fits A unforged =
      let first : World St = beginning n rule start in
      let w : World St = played M rule first run in
      record {
        legal = subst (λ faulty. Run M n rule faulty first (run ++ added places entry lent)) (sym (acted_others M places entry lent))
            (run_on (others_of places) first run (added places entry lent) A.legal (legal_at places w A.world.many (slice_get places (seat_of entry)) entry lent refl fits unforged));
        world = subst (Holds n rule (acted M places entry lent).1) (sym (played_on first run (added places entry lent)))
            (acted_keeps M n rule places w A.world entry lent);
      }

-- so what is promised of an entry follows from what it comes to
module _ {St : Type 0} (M : Meaning St) (places : List (Place St)) (entry : Entry) (lent later : Lent) (answer : Result Answer Refusal) (after : List (Place St))
    (e : (answer, after, later) ≡ acted M places entry lent) where
  pub follows : Follows M places entry lent after
  follows n rule w H = subst (λ ps. Holds n rule ps (played M rule w (added places entry lent))) (sym (ap (λ o. o.1) e)) (acted_keeps M n rule places w H entry lent)

  pub goes_further : EntryFits entry → GoesOn M places entry lent after
  goes_further fits n rule start run A unforged =
      subst (λ ps. After M n rule start ps (run ++ added places entry lent)) (sym (ap (λ o. o.1) e)) (goes_on M n rule start places run entry lent fits A unforged)

  pub same_others : others_of after ≡ others_of places
  same_others = ap (λ o. others_of o.1) e ∙ acted_others M places entry lent

module _ {St : Type 0} (M : Meaning St) (whole : (bytes : List ℕ) → length (M.digest bytes) ≡ digest_bytes) (places : List (Place St)) where
  founding : (n : ℕ) (rule : Stated → List ℕ) → Founded n rule places → Founding n rule (others_of places) M.digest
  founding n rule F = record { sized = F.sized; whole_tags = F.whole_tags; few = F.few; whole_digests = whole }

  module _ (n : ℕ) (rule : Stated → List ℕ) (start : St) (F : Founded n rule places) (run : List Event) (A : After M n rule start places run) where
    worlds_agree : Agreed M n (others_of places) start (played M rule (beginning n rule start) run)
    worlds_agree = group_agrees M n rule (others_of places) start (founding n rule F) run A.legal

    replicas_agree : EqualCountsEqualStates M places
    replicas_agree s t p q at_s at_t counts =
        let w : World St = played M rule (beginning n rule start) run in
        let first : p ≡ (w.members s).replica = seen_at M n rule places w A.world s (Held p) at_s in
        let second : q ≡ (w.members t).replica = seen_at M n rule places w A.world t (Held q) at_t in
        subst (λ x. (x.state ≡ q.state) × (M.written x.state ≡ M.written q.state)) (sym first)
        (subst (λ y. ((w.members s).replica.state ≡ y.state) × (M.written (w.members s).replica.state ≡ M.written y.state)) (sym second)
        (worlds_agree.equal s t (held_correct M n rule places s p A.world.many at_s) (held_correct M n rule places t q A.world.many at_t)
        (sym (ap (λ r. r.count) first) ∙ counts ∙ ap (λ r. r.count) second)))

  pub places_agree : PlacesAgree M places
  places_agree n rule start F run A = record {
    world = worlds_agree n rule start F run A;
    brought = later_views_bring M n rule (others_of places) start (founding n rule F) run A.legal;
    marked = low_marks_tell M n rule (others_of places) start (founding n rule F) run A.legal;
    replicas = replicas_agree n rule start F run A;
  }
