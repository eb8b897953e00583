-- The laws of certificates: a call by its three outcomes, and calls one after the other.
use Rattle.std.proofs.lemmas.Grind.{common_steps}
use Rattle.std.proofs.Common.{◌≡◌, ℕ, ◌<◌, ◌≤◌, true, false, List, [], ◌∷◌, ◌++◌, length, get_or, set, is_ok, Ok, Err, Result, ◌∙◌, arith}
use Rattle.std.proofs.ByRecursion.{All-weaker}
use Rattle.std.proofs.lemmas.Bool.{leb-true, ltb-true}
use Rattle.std.specs.List.{AllByRecursion}
use Rattle.terms.specs.declared.refusals.Refusal.{Refusal}
use Rattle.terms.specs.declared.refusals.Refusal.TheVariants.{NoSuchCounter, ValueNotAllowed}
use Rattle.counter.specs.Certificates.{counters, allows, certificate_for}
use Rattle.counter.specs.Kinds.{kind_number}
use Rattle.counter.specs.Laws.{Call, Permitted, called, values_after, granted, issued, Follows, InLine, CounterLaws}
use Rattle.counter.specs.Statements.{Stated}
use Rattle.counter.specs.declared.kinds.Kind.{Kind}
use Rattle.counter.specs.declared.kinds.Kind.TheVariants.{Continuing, Independent}

permitted : (kind : Kind) (present new : ℕ) → allows kind present new ≡ true → Permitted kind present new
permitted Continuing present new test = leb-true present new test
permitted Independent present new test = ltb-true present new test

module _ (rule : Stated → List ℕ) (seat : ℕ) where
  -- what holds of both refusals, and of a certificate that is permitted, holds of every call
  by_outcome : (values : List ℕ) (c : Call) (P : Result (List ℕ) Refusal × List ℕ → Type 0)
      → (counters ≤ c.number → P (Err NoSuchCounter, values))
      → ((Permitted c.kind (get_or values c.number 0) c.new → ⊥) → P (Err ValueNotAllowed, values))
      → (c.number < counters → Permitted c.kind (get_or values c.number 0) c.new → P (Ok (rule (certificate_for seat values c.kind c.number c.new c.message)), set values c.number c.new))
      → P (called rule seat values c)
  by_outcome values c P far banned certified = grind arith

  call_rises : (values : List ℕ) (c : Call) (k : ℕ) → get_or values k 0 ≤ get_or (called rule seat values c).1 k 0
  call_rises values c k = grind (arith, common_steps)

  rises : (values : List ℕ) (calls : List Call) (k : ℕ) → get_or values k 0 ≤ get_or (values_after rule seat values calls) k 0
  rises values [] k = omega arith
  rises values (c ∷ cs) k = omega (arith, call_rises values c k, rises (called rule seat values c).1 cs k)

  call_length : (values : List ℕ) (c : Call) → length (called rule seat values c).1 ≡ length values
  call_length values c = grind (arith, common_steps)

  call_others : (values : List ℕ) (c : Call) (k : ℕ) → (k ≡ c.number → ⊥) → get_or (called rule seat values c).1 k 0 ≡ get_or values k 0
  call_others values c k other = grind (arith, common_steps)

  refuses_nothing_else : (values : List ℕ) (c : Call) → c.number < counters → Permitted c.kind (get_or values c.number 0) c.new → is_ok (called rule seat values c).0 ≡ true
  refuses_nothing_else values c inside allowed = grind arith

  refused_changes_nothing : (values : List ℕ) (c : Call) → is_ok (called rule seat values c).0 ≡ false → (called rule seat values c).1 ≡ values
  refused_changes_nothing values c = grind arith

-- a statement that goes on from where its counter stands
unfoldable GoesOn : List ℕ → Stated → Type 0
GoesOn values s = (s.kind ≡ kind_number Continuing → get_or values s.number 0 ≤ s.old) × (s.kind ≡ kind_number Independent → get_or values s.number 0 < s.new)

module _ (rule : Stated → List ℕ) (seat : ℕ) where
  certificate_goes_on : (values : List ℕ) (kind : Kind) (number new : ℕ) (message : List ℕ) → Permitted kind (get_or values number 0) new → GoesOn values (certificate_for seat values kind number new message)
  unfolding GoesOn
  certificate_goes_on values Continuing number new message allowed = grind (arith, common_steps)
  certificate_goes_on values Independent number new message allowed = grind (arith, common_steps)

  goes_on_from_below : (values : List ℕ) (c : Call) (s : Stated) → GoesOn (called rule seat values c).1 s → GoesOn values s
  unfolding GoesOn
  goes_on_from_below values c s on = grind (arith, common_steps)

  -- every statement that calls get a tag for goes on from where they found the counter
  issued_go_on : (values : List ℕ) (calls : List Call) → AllByRecursion (GoesOn values) (issued rule seat values calls)
  issued_go_on values [] = tt
  issued_go_on values (c ∷ cs) =
      let after : List ℕ = (called rule seat values c).1 in
      let later : AllByRecursion (GoesOn values) (issued rule seat after cs) = All-weaker (GoesOn after) (GoesOn values) (goes_on_from_below values c) _ (issued_go_on after cs) in
      by_outcome rule seat values c (λ o. AllByRecursion (GoesOn values) (granted o.0 (certificate_for seat values c.kind c.number c.new c.message) ++ issued rule seat after cs))
      (λ far. later) (λ banned. later) (λ near allowed. (certificate_goes_on values c.kind c.number c.new c.message allowed, later))

  -- what goes on from the values behind a certificate follows it
  follows : (values : List ℕ) (c : Call) (t : Stated) → c.number < length values → GoesOn (set values c.number c.new) t → Follows (certificate_for seat values c.kind c.number c.new c.message) t
  unfolding GoesOn
  follows values c t inside on same = grind (arith, common_steps)

  issued_in_line : (values : List ℕ) (calls : List Call) → length values ≡ counters → InLine (issued rule seat values calls)
  issued_in_line values [] three = tt
  issued_in_line values (c ∷ cs) three =
      let after : List ℕ = (called rule seat values c).1 in
      let later : InLine (issued rule seat after cs) = issued_in_line after cs (call_length rule seat values c ∙ three) in
      by_outcome rule seat values c (λ o. AllByRecursion (GoesOn o.1) (issued rule seat after cs) → InLine (granted o.0 (certificate_for seat values c.kind c.number c.new c.message) ++ issued rule seat after cs))
      (λ far on. later) (λ banned on. later)
      (λ near allowed on. (All-weaker _ _ (λ t from. follows values c t (omega arith) from) _ on, later))
      (issued_go_on after cs)

pub counter_laws : CounterLaws
counter_laws =
    record {
      refuses_nothing_else = refuses_nothing_else;
      refused_changes_nothing = refused_changes_nothing;
      others_stay = call_others;
      never_falls = rises;
      in_line = issued_in_line;
    }
