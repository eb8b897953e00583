-- The pair [view|order] as one number, and the ways back.
use Rattle.std.specs.Prelude.{◌≡◌, ℕ, ◌+◌, ◌*◌, ◌/◌, ◌%◌, ◌<◌, ◌⊎◌}

abbrev pub paired : ℕ → ℕ → ℕ
paired v o = v * 4294967296 + o

abbrev pub view_part : ℕ → ℕ
view_part p = p / 4294967296

abbrev pub order_part : ℕ → ℕ
order_part p = p % 4294967296

-- a pair has its view and its order
abbrev pub PairsPart : Type 0
PairsPart = (v o : ℕ) → o < 4294967296 → (view_part (paired v o) ≡ v) × (order_part (paired v o) ≡ o)

-- a number is the pair of its parts
abbrev pub PartsPair : Type 0
PartsPair = (p : ℕ) → paired (view_part p) (order_part p) ≡ p

-- a pair is below another exactly if its view is, or if the views agree and its order is
abbrev pub PairsAscend : Type 0
PairsAscend = (v o w p : ℕ) → o < 4294967296 → p < 4294967296
    → ((v < w) ⊎ ((v ≡ w) × (o < p)) → paired v o < paired w p) × (paired v o < paired w p → (v < w) ⊎ ((v ≡ w) × (o < p)))
