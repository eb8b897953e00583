-- A call that tests stop, and one that they let go on.
use Rattle.std.proofs.Common.{◌≡◌, Bool, true, false, List, [], ◌∷◌, if◌then◌else◌, Ok, Err, refl}
use Rattle.terms.specs.declared.refusals.Refusal.{Refusal}
use Rattle.protocol.specs.Outcomes.{Outcome, refuse, unless}
use Rattle.protocol.specs.Replicas.{Replica}
use Rattle.replica.specs.Judging.{judged, unless_any}

module _ {A B St : Type 0} (r : Replica St) (lent : B) (next : Outcome A B St) where
  stops_here : (b : Bool) (x e : Refusal) (ts : List (Bool × Refusal)) → (judged ts ≡ Err e → unless_any ts r lent next ≡ refuse e r lent) → (if b then Err x else judged ts) ≡ Err e → unless b x r lent (unless_any ts r lent next) ≡ refuse e r lent
  stops_here true x e ts later stopped = let same : x ≡ e = cc in rw same refl
  stops_here false x e ts later stopped = later stopped

  pub stops : (ts : List (Bool × Refusal)) (e : Refusal) → judged ts ≡ Err e → unless_any ts r lent next ≡ refuse e r lent
  stops [] e stopped = cc
  stops (t ∷ ts) e stopped = stops_here t.0 t.1 e ts (stops ts e) stopped

  goes_on_here : (b : Bool) (x : Refusal) (ts : List (Bool × Refusal)) → (judged ts ≡ Ok tt → unless_any ts r lent next ≡ next) → (if b then Err x else judged ts) ≡ Ok tt → unless b x r lent (unless_any ts r lent next) ≡ next
  goes_on_here true x ts later passed = cc
  goes_on_here false x ts later passed = later passed

  pub goes_on : (ts : List (Bool × Refusal)) → judged ts ≡ Ok tt → unless_any ts r lent next ≡ next
  goes_on [] passed = refl
  goes_on (t ∷ ts) passed = goes_on_here t.0 t.1 ts (goes_on ts) passed
