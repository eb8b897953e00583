-- A word is the one that a text spells where its length and each of its bytes are the text's.
use Rattle.std.proofs.Common.{◌≡◌, ℕ, suc, Bool, true, ◌&&◌, nat_eq, List, [], ◌∷◌, length, get_or, refl, arith}
use Rattle.std.proofs.lemmas.Bool.Decides.{nat_tests}
use Rattle.script.specs.Words.{spelt}

-- the bytes of a text stand in a word from a place on
abbrev reads : List ℕ → List ℕ → ℕ → Bool
reads [] word k = true
reads (b ∷ text) word k = nat_eq (get_or word k 0) b && reads text word (suc k)

reads_behind : (text : List ℕ) (x : ℕ) (word : List ℕ) (k : ℕ) → reads text (x ∷ word) (suc k) ≡ reads text word k
reads_behind [] x word k = refl
reads_behind (b ∷ text) x word k = simp (reads_behind text x word (suc k))

pub spelt_by_bytes : (text word : List ℕ) → spelt text word ≡ (nat_eq (length word) (length text) && reads text word 0)
unfolding spelt
spelt_by_bytes [] [] = refl
spelt_by_bytes [] (x ∷ word) = grind (arith, nat_tests)
spelt_by_bytes (b ∷ text) [] = grind (arith, nat_tests)
spelt_by_bytes (b ∷ text) (x ∷ word) = let rest = spelt_by_bytes text word in let shift = reads_behind text x word 0 in grind (arith, nat_tests)

-- what the arms of a `match` on a word want
pub ruleset spelling = (nat_tests, spelt_by_bytes)
