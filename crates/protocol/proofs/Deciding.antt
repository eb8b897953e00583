-- A test that tells of a run written out whether it may happen.
use Rattle.std.specs.List.{list_all, list_any}
use Rattle.std.proofs.Common.{◌≡◌, ℕ, ◌^◌, ◌<◌, Bool, true, false, not, ◌&&◌, ◌||◌, ◌==◌, List, [], ◌∷◌, nat_lt, bytes_eq, Option, Some, None, ◌⊎◌, refl, subst, inl, inr, eqb-true, ltb-true, arith}
use Rattle.std.proofs.lemmas.Bool.{and_parts, false≢true}
use Rattle.std.proofs.lemmas.Bool.Decides.{nat_tests}
use Rattle.std.proofs.lemmas.Slice.Eq.{bytes_eq-Decides}
use Rattle.terms.specs.declared.requests.Request.{Request}
use Rattle.counter.specs.Statements.{Stated}
use Rattle.parts.specs.Fits.{RequestFits}
use Rattle.message.specs.Decoding.{decode}
use Rattle.message.specs.declared.message.Message.{Message}
use Rattle.protocol.specs.Meanings.{Meaning}
use Rattle.protocol.specs.Runs.{Event, Call, World, happened, AllIssued, Possible, MayHappen, Run}
use Rattle.protocol.specs.Runs.Call.{Ask, Take, Vote, CarryOut, Mark, Suspect, Open}
use Rattle.protocol.specs.Runs.Event.{At, Elsewhere}
use Rattle.protocol.specs.Sets.{◌∈◌}
use Rattle.protocol.specs.Showings.{Showing, shows}
use Rattle.protocol.proofs.Lists.{all_told, by_recursion}

-- a test of some element
here_or_there : {P Q : Type 0} (a : Bool) {b : Bool} → (a ≡ true → P) → (b ≡ true → Q) → (a || b) ≡ true → P ⊎ Q
here_or_there true here there e = inl (here refl)
here_or_there false here there e = inr (there e)

one_holds : {A : Type 0} (test : A → Bool) (x : A) → ((y : A) → test y ≡ true → x ≡ y) → (ys : List A) → list_any test ys ≡ true → x ∈ ys
one_holds test x same [] e = absurd (false≢true e)
one_holds test x same (y ∷ ys) e = here_or_there (test y) (same y) (one_holds test x same ys) e

-- the same statement
abbrev same_statement : Stated → Stated → Bool
same_statement s t = s.kind == t.kind && (s.seat == t.seat && (s.number == t.number && (s.new == t.new && (s.old == t.old && bytes_eq s.message t.message))))

one_statement : (s t : Stated) → same_statement s t ≡ true → s ≡ t
one_statement s t e = grind (arith, nat_tests, bytes_eq-Decides, and_parts)

abbrev is_issued : List Stated → Stated → Bool
is_issued issued s = list_any (same_statement s) issued

issued_stands : (issued : List Stated) (s : Stated) → is_issued issued s ≡ true → s ∈ issued
issued_stands issued s e = one_holds (same_statement s) s (one_statement s) issued e

-- what passes its check was issued
abbrev is_backed : (Stated → List ℕ) → List Stated → Showing → Bool
is_backed rule issued x = not (bytes_eq (rule x.statement) x.tag) || is_issued issued x.statement

backed_stands : (rule : Stated → List ℕ) (issued : List Stated) (x : Showing) → is_backed rule issued x ≡ true → bytes_eq (rule x.statement) x.tag ≡ true → x.statement ∈ issued
backed_stands rule issued x e passes = issued_stands issued x.statement (subst (λ b. (not b || is_issued issued x.statement) ≡ true) passes e)

abbrev all_backed : ℕ → (Stated → List ℕ) → List Stated → Option Message → Bool
all_backed n rule issued None = true
all_backed n rule issued (Some m) = list_all (is_backed rule issued) (shows n m)

all_issued : (n : ℕ) (rule : Stated → List ℕ) (issued : List Stated) (m : Option Message) → all_backed n rule issued m ≡ true → AllIssued n rule issued m
all_issued n rule issued None e = tt
all_issued n rule issued (Some m) e = λ x i. backed_stands rule issued x (all_told (is_backed rule issued) x (shows n m) e i)

-- numbers of 32 bits in a request
abbrev request_fits : Request → Bool
request_fits r = nat_lt r.client (2 ^ 32) && (nat_lt r.sequence (2 ^ 32) && (nat_lt r.code (2 ^ 32) && (nat_lt r.key (2 ^ 32) && nat_lt r.value (2 ^ 32))))

request_fits_told : (r : Request) → request_fits r ≡ true → RequestFits r
request_fits_told r e = grind (arith, nat_tests, and_parts)

abbrev is_possible : ℕ → (Stated → List ℕ) → List Stated → Call → Bool
is_possible n rule issued (Ask request out) = request_fits request
is_possible n rule issued (Take bytes) = list_all (λ b. nat_lt b 256) bytes && all_backed n rule issued (decode bytes)
is_possible n rule issued (Vote out) = true
is_possible n rule issued CarryOut = true
is_possible n rule issued (Mark scratch out) = true
is_possible n rule issued (Suspect out) = true
is_possible n rule issued (Open out) = true

possible : (n : ℕ) (rule : Stated → List ℕ) (issued : List Stated) (c : Call) → is_possible n rule issued c ≡ true → Possible n rule issued c
possible n rule issued (Ask request out) e = request_fits_told request e
possible n rule issued (Take bytes) e =
    let (bytes_are, backed) = and_parts (list_all (λ b. nat_lt b 256) bytes) (all_backed n rule issued (decode bytes)) e in
    (by_recursion (λ b. b < 256) bytes (λ b i. ltb-true b 256 (all_told (λ a. nat_lt a 256) b bytes bytes_are i)), all_issued n rule issued (decode bytes) backed)
possible n rule issued (Vote out) e = tt
possible n rule issued CarryOut e = tt
possible n rule issued (Mark scratch out) e = tt
possible n rule issued (Suspect out) e = tt
possible n rule issued (Open out) e = tt

-- the seats that do not keep to the rules
abbrev is_faulty : List ℕ → ℕ → Bool
is_faulty faulty seat = list_any (λ s. seat == s) faulty

abbrev may_happen : ℕ → (Stated → List ℕ) → List ℕ → List Stated → Event → Bool
may_happen n rule faulty issued (At seat c) = (nat_lt seat n && not (is_faulty faulty seat)) && is_possible n rule issued c
may_happen n rule faulty issued (Elsewhere seat c) = is_faulty faulty seat

faulty_stands : (faulty : List ℕ) (seat : ℕ) → is_faulty faulty seat ≡ true → seat ∈ faulty
faulty_stands faulty seat e = one_holds (λ s. seat == s) seat (eqb-true seat) faulty e

not_faulty : (faulty : List ℕ) (seat : ℕ) → not (is_faulty faulty seat) ≡ true → seat ∈ faulty → ⊥
not_faulty [] seat e i = i
not_faulty (s ∷ ss) seat e i = elim i [ inl same ↦ grind (arith, nat_tests, same, e) | inr j ↦ not_faulty ss seat (grind (arith, nat_tests, e)) j ]

happens : (n : ℕ) (rule : Stated → List ℕ) (faulty : List ℕ) (issued : List Stated) (e : Event) → may_happen n rule faulty issued e ≡ true → MayHappen n rule faulty issued e
happens n rule faulty issued (At seat c) e =
    let (keeps, may) = and_parts (nat_lt seat n && not (is_faulty faulty seat)) (is_possible n rule issued c) e in
    let (seated, correct) = and_parts (nat_lt seat n) (not (is_faulty faulty seat)) keeps in
    ((ltb-true seat n seated, not_faulty faulty seat correct), possible n rule issued c may)
happens n rule faulty issued (Elsewhere seat c) e = faulty_stands faulty seat e

module _ {St : Type 0} (M : Meaning St) (n : ℕ) (rule : Stated → List ℕ) (faulty : List ℕ) where
  -- a run, entry by entry
  abbrev pub is_run : World St → List Event → Bool
  is_run w [] = true
  is_run w (e ∷ es) = may_happen n rule faulty w.issued e && is_run (happened M rule w e) es

  pub runs : (w : World St) (es : List Event) → is_run w es ≡ true → Run M n rule faulty w es
  runs w [] e = tt
  runs w (x ∷ xs) e =
      let (first, later) = and_parts (may_happen n rule faulty w.issued x) (is_run (happened M rule w x) xs) e in
      (happens n rule faulty w.issued x first, runs (happened M rule w x) xs later)
