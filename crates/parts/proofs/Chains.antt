-- Records are exact if their fields are: a record's fields are read one behind the other.
use Rattle.std.proofs.Common.{◌≡◌, ℕ, ◌^◌, ◌<◌, List, ◌++◌, Some, Option, sym, refl, ap, ◌∙◌, arith}
use Rattle.xdr.specs.Layout.{int}
use Rattle.xdr.specs.Laws.{Exact}
use Rattle.xdr.specs.Reading.{and_then}
use Rattle.xdr.proofs.Exactness.{fits_like, then_exact, made_exact}
use Rattle.parts.specs.Reading.{type_from}

-- a type begins the bytes
types_exact : (type : ℕ) → type < 2 ^ 32 → Exact (λ n. n ≡ type) int (type_from type)
types_exact type small = grind arith

pub typed :
    (type : ℕ) → type < 2 ^ 32
    → {Y : Type 0} {fits : Y → Type 0} {write : Y → List ℕ} {read : List ℕ → Option (Y × List ℕ)}
    → Exact fits write read
    → Exact fits (λ y. int type ++ write y) (λ bytes. and_then (type_from type bytes) (λ _ rest. read rest))
typed type small {Y} {fits} {write} {read} exact =
    fits_like
    (then_exact (types_exact type small) {Y = Y} (λ y. type) {others = fits} {write_others = write} {next = λ _ rest. read rest}
    (λ x e. fits_like exact (λ y. (type ≡ x) × fits y) (λ y f. (sym e, f)) (λ y f. f.1)))
    fits (λ y f. f.1) (λ y f. (refl, f))

module _ {X : Type 0} {fits : X → Type 0} {write : X → List ℕ} {read : List ℕ → Option (X × List ℕ)} (exact : Exact fits write read) {Y : Type 0} {K : Type 0} (known : Y → K) (field : Y → X) (k : K) where
  -- a field behind those that are known
  pub next_field :
      {others : Y → Type 0} {write_others : Y → List ℕ} {next : X → List ℕ → Option (Y × List ℕ)}
      → ((x : X) → fits x → Exact (λ y. ◌≡◌ {A = K × X} (known y, field y) (k, x) × others y) write_others (next x))
      → Exact (λ y. (known y ≡ k) × (fits (field y) × others y)) (λ y. write (field y) ++ write_others y) (λ bytes. and_then (read bytes) next)
  next_field {others} {write_others} {next} each =
      fits_like
      (then_exact exact field {others = λ y. (known y ≡ k) × others y}
      (λ x f. fits_like (each x f) (λ y. (field y ≡ x) × ((known y ≡ k) × others y)) (λ y g. (ap (λ p. p.1) g.0, (ap (λ p. p.0) g.0, g.1))) (λ y g. (ap (λ a. (a, field y)) g.1.0 ∙ ap (λ b. (k, b)) g.0, g.1.1))))
      (λ y. (known y ≡ k) × (fits (field y) × others y)) (λ y f. (f.1.0, (f.0, f.1.1))) (λ y f. (f.1.0, (f.0, f.1.1)))

  -- the last field, with which the record is whole
  pub last_field :
      (made : K → X → Y) → ((y : Y) → made (known y) (field y) ≡ y) → ((x : X) → known (made k x) ≡ k) → ((x : X) → field (made k x) ≡ x)
      → Exact (λ y. (known y ≡ k) × fits (field y)) (λ y. write (field y)) (λ bytes. and_then (read bytes) (λ x rest. Some (made k x, rest)))
  last_field made whole keeps parts =
      fits_like
      (made_exact exact field (made k) (λ x f. parts x))
      (λ y. (known y ≡ k) × fits (field y))
      (λ y f. (ap known (sym f.0) ∙ keeps (field y), f.1))
      (λ y f. (ap (λ a. made a (field y)) (sym f.0) ∙ whole y, f.1))

-- the same bytes, put together otherwise
pub writes_like :
    {Y : Type 0} {fits : Y → Type 0} {write : Y → List ℕ} {read : List ℕ → Option (Y × List ℕ)}
    → Exact fits write read → (write' : Y → List ℕ) → ((y : Y) → write y ≡ write' y) → Exact fits write' read
writes_like {read = read} exact write' same =
    record {
      back = λ y rest f. ap (λ bytes. read (bytes ++ rest)) (sym (same y)) ∙ exact.back y rest f;
      only = λ bytes y rest h e. let o = exact.only bytes y rest h e in (o.0 ∙ ap (λ written. written ++ rest) (same y), o.1);
    }
