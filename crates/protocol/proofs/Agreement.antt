-- Agreement of what was carried out: one request for each number, so of two lists in order one begins the other.
use Rattle.std.proofs.Common.{◌≡◌, ℕ, zero, suc, ◌+◌, ◌≤◌, ◌⊎◌, List, [], ◌∷◌, ◌++◌, length, slice_get, Some, take, refl, sym, ◌∙◌, ap, ap₂, subst, inl, inr, append-nil, length-append, arith}
use Rattle.std.proofs.lemmas.Bool.{cases_eq, cases_lt}
use Rattle.std.proofs.lemmas.List.{take_at, take_all}
use Rattle.terms.specs.declared.requests.Request.{Request}
use Rattle.parts.specs.Messages.{Prepare}
use Rattle.protocol.proofs.Coverage.{one_proposal, sound, settled_later}
use Rattle.protocol.proofs.Growth.{Longer, committed_grows}
use Rattle.protocol.proofs.History.{Group, Past, Committed, Rules}
use Rattle.protocol.specs.Sets.{Begins}

module _ {A : Type 0} where
  -- of two lists that differ nowhere, one begins the other
  one_begins : (xs ys : List A) → ((i : ℕ) (x y : A) → slice_get xs i ≡ Some x → slice_get ys i ≡ Some y → x ≡ y) → Begins xs ys ⊎ Begins ys xs
  one_begins [] ys same = inl (ys, refl)
  one_begins (x ∷ xs) [] same = inr (x ∷ xs, refl)
  one_begins (x ∷ xs) (y ∷ ys) same =
      let e = same 0 x y refl refl in
      elim (one_begins xs ys (λ i. same (suc i))) [ inl r ↦ inl (r.0, ap₂ (λ z zs. z ∷ zs) (sym e) r.1) | inr r ↦ inr (r.0, ap₂ (λ z zs. z ∷ zs) e r.1) ]

  -- of two lists of which one begins the other, the shorter one is the front of the longer one
  front : (xs ys : List A) → Begins xs ys ⊎ Begins ys xs → length xs ≤ length ys → xs ≡ take (length xs) ys
  front xs ys (inl (more, e)) short = sym (ap (take (length xs)) e ∙ take_at xs more (length xs) refl)
  front xs ys (inr ([], e)) short = e ∙ append-nil ys ∙ sym (take_all (length xs) ys (omega (arith, ap length (e ∙ append-nil ys))))
  front xs ys (inr (z ∷ more, e)) short = absurd (omega (arith, simp length-append at (ap length e)))

  -- what stands in a list with one more at its end
  pushed_get : (xs : List A) (last : A) (i : ℕ) (x : A) → slice_get (xs ++ last ∷ []) i ≡ Some x → (slice_get xs i ≡ Some x) ⊎ ((i ≡ length xs) × (last ≡ x))
  pushed_get [] last zero x e = inr (refl, cc)
  pushed_get [] last (suc i) x e = cc
  pushed_get (y ∷ xs) last zero x e = inl e
  pushed_get (y ∷ xs) last (suc i) x e = elim (pushed_get xs last i x e) [ inl old ↦ inl old | inr new ↦ inr (omega (arith, new.0), new.1) ]

module _ (g : Group) (h : Past) where
  -- what is carried out as a number
  abbrev pub Carried : ℕ → Request → Type 0
  Carried order request = (p : Prepare) × (p.order ≡ order) × (p.request ≡ request) × Committed g h p

  -- requests carried out from number 1 on
  abbrev pub InOrder : List Request → Type 0
  InOrder rs = (i : ℕ) (r : Request) → slice_get rs i ≡ Some r → Carried (i + 1) r

  -- and the next one
  pub in_order_push : (rs : List Request) (r : Request) → InOrder rs → Carried (length rs + 1) r → InOrder (rs ++ r ∷ [])
  in_order_push rs r d next i x e = elim (pushed_get rs r i x e) [
    | inl old ↦ d i x old
    | inr new ↦ subst (λ k. Carried (k + 1) x) (sym new.0) (subst (λ y. Carried (length rs + 1) y) new.1 next)
  ]

module _ (g : Group) (h : Past) (R : Rules g h) where
  later_same : (p e : Prepare) → Committed g h p → Committed g h e → p.order ≡ e.order → p.view ≤ e.view → e.request ≡ p.request
  later_same p e K E order later =
      let x = sound g h R e E in
      elim (cases_eq e.view p.view) [
        | inl here ↦ one_proposal g h R e p x.issued (sound g h R p K).issued here (sym order)
        | inr n ↦ elim x.opened [
          | inl z ↦ absurd (omega arith)
          | inr w ↦ settled_later g h R p K w.0 w.1 (omega (arith, w.2)) (omega (arith, w.3)) e x.issued (sym w.2) (sym order)
        ]
      ]

  -- one request for each number, whoever sees its quorum and in whichever view
  one_request : (p e : Prepare) → Committed g h p → Committed g h e → p.order ≡ e.order → p.request ≡ e.request
  one_request p e K E order = elim (cases_lt p.view e.view) [ inl later ↦ sym (later_same p e K E order (omega arith)) | inr l ↦ later_same e p E K (sym order) l ]

  one_carried : (order : ℕ) (x y : Request) → Carried g h order x → Carried g h order y → x ≡ y
  one_carried order x y a b = sym a.2 ∙ one_request a.0 b.0 a.3 b.3 (a.1 ∙ sym b.1) ∙ b.2

  -- two lists of what was carried out in order never part
  pub lists_agree : (xs ys : List Request) → InOrder g h xs → InOrder g h ys → Begins xs ys ⊎ Begins ys xs
  lists_agree xs ys X Y = one_begins xs ys (λ i x y ex ey. one_carried (i + 1) x y (X i x ex) (Y i y ey))

  -- the shorter one is the front of the longer one, and they are equal if they are of one length
  pub front_lists : (xs ys : List Request) → InOrder g h xs → InOrder g h ys → length xs ≤ length ys → xs ≡ take (length xs) ys
  front_lists xs ys X Y short = front xs ys (lists_agree xs ys X Y) short

  pub same_lists : (xs ys : List Request) → InOrder g h xs → InOrder g h ys → length xs ≡ length ys → xs ≡ ys
  same_lists xs ys X Y long = front_lists xs ys X Y (omega (arith, long)) ∙ take_all (length xs) ys (omega (arith, long))

module _ (g : Group) (h k : Past) (longer : Longer h k) where
  carried_grows : (order : ℕ) (r : Request) → Carried g h order r → Carried g k order r
  carried_grows order r a = (a.0, a.1, a.2, committed_grows g h k longer a.0 a.3)

  pub in_order_grows : (rs : List Request) → InOrder g h rs → InOrder g k rs
  in_order_grows rs d i r e = carried_grows (i + 1) r (d i r e)
