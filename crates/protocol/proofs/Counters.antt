-- What a log that counters keep to says of two statements of one counter.
use Rattle.std.proofs.Common.{◌≡◌, ℕ, ◌<◌, ◌≤◌, ◌⊎◌, List, [], ◌∷◌, sym, ◌∙◌, ap, subst, inl, inr, arith}
use Rattle.std.proofs.lemmas.Bool.{cases_eq}
use Rattle.counter.specs.Statements.{Stated}
use Rattle.protocol.proofs.History.{value_of, Allowed, Legal}
use Rattle.protocol.specs.Sets.{◌∈◌}

rises : (present : ℕ) (s : Stated) → Allowed present s → present ≤ s.new
rises present s (inl a) = a.2
rises present s (inr a) = omega arith

-- a continuing statement tells the value that was shown
follows : (present : ℕ) (s : Stated) → s.kind ≡ 1 → Allowed present s → s.old ≡ present
follows present s e (inl a) = a.1
follows present s e (inr a) = absurd (omega arith)

-- and an independent one leaves it
exceeds : (present : ℕ) (s : Stated) → s.kind ≡ 2 → Allowed present s → present < s.new
exceeds present s e (inl a) = absurd (omega arith)
exceeds present s e (inr a) = a.2

-- one more statement sets the value of its own counter, and leaves that of every other one
pub value_next : (s : Stated) (older : List Stated) (seat number : ℕ)
    → ((s.seat ≡ seat) × (s.number ≡ number) × (value_of (s ∷ older) seat number ≡ s.new)) ⊎ (((s.seat ≡ seat) × (s.number ≡ number) → ⊥) × (value_of (s ∷ older) seat number ≡ value_of older seat number))
value_next s older seat number = elim (cases_eq s.seat seat) [
  | inr n ↦ inr (λ p. n p.0, grind arith)
  | inl e ↦ elim (cases_eq s.number number) [ inr n ↦ inr (λ p. n p.1, grind arith) | inl f ↦ inl (e, f, grind arith) ]
]

-- no statement is above what its counter shows
reached : (log : List Stated) → Legal log → (s : Stated) → s ∈ log → s.new ≤ value_of log s.seat s.number
reached [] l s m = absurd m
reached (t ∷ older) l s (inl e) = elim (value_next t older s.seat s.number) [
  | inl p ↦ omega (arith, ap (λ x. x.new) e)
  | inr p ↦ absurd (p.0 (ap (λ x. x.seat) (sym e), ap (λ x. x.number) (sym e)))
]
reached (t ∷ older) l s (inr m) =
    let i = reached older l.1 s m in
    elim (value_next t older s.seat s.number) [
      | inl p ↦
          let u : value_of older t.seat t.number ≤ t.new = rises _ t l.0 in
          let w : value_of older s.seat s.number ≤ t.new = subst (λ x. value_of older x s.number ≤ t.new) p.0 (subst (λ x. value_of older t.seat x ≤ t.new) p.1 u) in
          omega arith
      | inr p ↦ omega arith
    ]

-- t is the newest, and s an older one of the same counter
after : (x : Stated) (older : List Stated) → Legal (x ∷ older) → (t s : Stated) → t ≡ x → s ∈ older → s.seat ≡ t.seat → s.number ≡ t.number
    → (present : ℕ) × (s.new ≤ present) × Allowed present t
after x older l t s e m seat number = (
  value_of older t.seat t.number,
  rw (seat, number) at (reached older l.1 s m),
  subst (λ y. Allowed (value_of older y.seat y.number) y) (sym e) l.0,
)

beyond : (x : Stated) (older : List Stated) → Legal (x ∷ older) → (t s : Stated) → t ≡ x → s ∈ older → s.seat ≡ t.seat → s.number ≡ t.number → t.kind ≡ 2 → s.new < t.new
beyond x older l t s e m seat number kind =
    let a = after x older l t s e m seat number in
    let b = exceeds a.0 t kind a.2 in
    omega (arith, a.1)

-- two independent statements of one counter with one value are one
pub unique : (log : List Stated) → Legal log → (s t : Stated) → s ∈ log → t ∈ log → s.kind ≡ 2 → t.kind ≡ 2 → s.seat ≡ t.seat → s.number ≡ t.number → s.new ≡ t.new → s ≡ t
unique [] l s t m k si ti seat number new = absurd m
unique (x ∷ older) l s t (inl e) (inl f) si ti seat number new = e ∙ sym f
unique (x ∷ older) l s t (inl e) (inr k) si ti seat number new =
    let b = beyond x older l s t e k (sym seat) (sym number) si in
    absurd (omega arith)
unique (x ∷ older) l s t (inr m) (inl f) si ti seat number new =
    let b = beyond x older l t s f m seat number ti in
    absurd (omega arith)
unique (x ∷ older) l s t (inr m) (inr k) si ti seat number new = unique older l.1 s t m k si ti seat number new

-- no independent statement stands between the two values of a continuing one
pub passed : (log : List Stated) → Legal log → (w s : Stated) → w ∈ log → s ∈ log → w.kind ≡ 1 → s.kind ≡ 2 → s.seat ≡ w.seat → s.number ≡ w.number
    → (s.new ≤ w.old) ⊎ (w.new < s.new)
passed [] l w s m k wi si seat number = absurd m
passed (x ∷ older) l w s (inl e) (inl f) wi si seat number = absurd (omega (arith, ap (λ (y : Stated). y.kind) (e ∙ sym f)))
passed (x ∷ older) l w s (inl e) (inr k) wi si seat number =
    let a = after x older l w s e k seat number in
    let b = follows a.0 w wi a.2 in
    inl (omega arith)
passed (x ∷ older) l w s (inr m) (inl f) wi si seat number = inr (beyond x older l s w f m (sym seat) (sym number) si)
passed (x ∷ older) l w s (inr m) (inr k) wi si seat number = passed older l.1 w s m k wi si seat number
