-- What stands before the first byte that passes a test, what begins there, and what stands behind it.
use Rattle.std.proofs.Common.{◌≡◌, ℕ, Bool, true, false, not, List, [], ◌∷◌, length, take, one-add, add-one, ◌∙◌, arith, ap}
use Rattle.std.proofs.lemmas.Bool.Decides.{nat_tests}
use Rattle.std.proofs.lemmas.List.{take_all}
use Rattle.std.proofs.lemmas.List.Elements.{All-get_or}
use Rattle.std.proofs.lemmas.List.Sums.{position_or_len_is, prefix_len-le-length}
use Rattle.std.specs.List.{All, position, position_or_len, before_first, after_first}
use Rattle.std.specs.Option.{unwrap_or}
use Rattle.texts.specs.Cutting.{from_first}

-- by the first byte: it does not pass and the search goes on, or it passes
module _ (test : ℕ → Bool) (b : ℕ) (bs : List ℕ) where
  pub before_on : test b ≡ false → before_first test (b ∷ bs) ≡ b ∷ before_first test bs
  before_on on = simp (on, one-add)

  pub before_off : test b ≡ true → before_first test (b ∷ bs) ≡ []
  before_off off = simp off

  pub after_on : test b ≡ false → after_first test (b ∷ bs) ≡ after_first test bs
  after_on on = simp (on, one-add, add-one)

  pub from_on : test b ≡ false → from_first test (b ∷ bs) ≡ from_first test bs
  from_on on = simp (on, one-add)

  pub from_off : test b ≡ true → from_first test (b ∷ bs) ≡ b ∷ bs
  from_off off = simp off

-- `unwrap_or` at what `position` gives
pub position_or : (test : ℕ → Bool) (bs : List ℕ) → unwrap_or (position test bs) (length bs) ≡ position_or_len test bs
position_or test bs = let within = prefix_len-le-length (λ b. not (test b)) bs in grind (arith, nat_tests)

-- where no byte passes, all stand before
pub before_all : (test : ℕ → Bool) (bs : List ℕ) → All (λ b. test b ≡ false) bs → before_first test bs ≡ bs
before_all test bs none =
    let len = position_or_len_is test bs (length bs) 0 (omega arith) (λ k inside. All-get_or (λ b. test b ≡ false) bs k 0 inside none) (λ inside. absurd (omega arith)) in
    ap (λ n. take n bs) len ∙ take_all (length bs) bs (omega arith)
