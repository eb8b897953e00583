-- What every counter owes, whatever its seat and its tags are: it never falls, refuses nothing but what the rules
-- refuse, and what it has certified stands in one line.
use Rattle.std.specs.Prelude.{◌≡◌, ℕ, ◌<◌, ◌≤◌, true, false, List, [], ◌∷◌, ◌++◌, length, is_ok, Ok, Err, Result, ◌≢◌, slice_index}
use Rattle.std.specs.List.{AllByRecursion}
use Rattle.terms.specs.declared.refusals.Refusal.{Refusal}
use Rattle.counter.specs.Certificates.{counters, certificate_for, certified}
use Rattle.counter.specs.Kinds.{kind_number}
use Rattle.counter.specs.Statements.{Stated}
use Rattle.counter.specs.declared.kinds.Kind.{Kind}
use Rattle.counter.specs.declared.kinds.Kind.TheVariants.{Continuing, Independent}

-- what a certificate call asks for
pub record Call : Type 0 where
  pub kind : Kind
  pub number : ℕ
  pub new : ℕ
  pub message : List ℕ

-- the new value is one that the kind may have
abbrev pub Permitted : Kind → ℕ → ℕ → Type 0
Permitted Continuing present new = present ≤ new
Permitted Independent present new = present < new

-- the statement of a call that was not refused
abbrev pub granted : Result (List ℕ) Refusal → Stated → List Stated
granted (Ok tag) statement = statement ∷ []
granted (Err refusal) statement = []

module _ (rule : Stated → List ℕ) (seat : ℕ) where
  abbrev pub called : List ℕ → Call → Result (List ℕ) Refusal × List ℕ
  called values c = certified rule seat values c.kind c.number c.new c.message

  -- the values after calls, one after the other
  abbrev pub values_after : List ℕ → List Call → List ℕ
  values_after values [] = values
  values_after values (c ∷ cs) = values_after (called values c).1 cs

  -- the statements for which calls, one after the other, got tags
  abbrev pub issued : List ℕ → List Call → List Stated
  issued values [] = []
  issued values (c ∷ cs) =
      granted (called values c).0 (certificate_for seat values c.kind c.number c.new c.message) ++ issued (called values c).1 cs

-- a later statement of the same counter goes on from an earlier one: if continuing, its old value is not below the
-- earlier one's new value; if independent, its new value is above it
abbrev pub Follows : Stated → Stated → Type 0
Follows earlier later =
    earlier.number ≡ later.number
    → (later.kind ≡ kind_number Continuing → earlier.new ≤ later.old) × (later.kind ≡ kind_number Independent → earlier.new < later.new)

-- each statement is followed by all that come after it. So no two independent certificates of a counter have one value,
-- and none has a value above the old and up to the new value of a continuing certificate
abbrev pub InLine : List Stated → Type 0
InLine [] = Unit {0}
InLine (s ∷ later) = AllByRecursion (Follows s) later × InLine later

pub record CounterLaws : Type 0 where
  -- a permitted value of a counter that there is, is never refused
  pub refuses_nothing_else : (rule : Stated → List ℕ) (seat : ℕ) (values : List ℕ) (c : Call) → c.number < counters → Permitted c.kind (slice_index values c.number) c.new → is_ok (called rule seat values c).0 ≡ true
  -- any other call is refused, and changes nothing
  pub refused_changes_nothing : (rule : Stated → List ℕ) (seat : ℕ) (values : List ℕ) (c : Call) → is_ok (called rule seat values c).0 ≡ false → (called rule seat values c).1 ≡ values
  -- a call sets one value, and the others stay
  pub others_stay : (rule : Stated → List ℕ) (seat : ℕ) (values : List ℕ) (c : Call) (k : ℕ) → (k ≢ c.number) → slice_index (called rule seat values c).1 k ≡ slice_index values k
  -- whatever is called, no value falls
  pub never_falls : (rule : Stated → List ℕ) (seat : ℕ) (values : List ℕ) (calls : List Call) (k : ℕ) → slice_index values k ≤ slice_index (values_after rule seat values calls) k
  -- whatever is called, the statements that got tags stand in one line
  pub in_line : (rule : Stated → List ℕ) (seat : ℕ) (values : List ℕ) (calls : List Call) → length values ≡ counters → InLine (issued rule seat values calls)
