-- Values that all have one width, one behind the other.
use Rattle.std.proofs.Common.{ℕ, ◌+◌, ◌*◌, ◌<◌, ◌≤◌, List, [], ◌∷◌, arith}
use Rattle.std.specs.List.{AllByRecursion}

-- what holds of every value holds of all in a list
pub every : {X : Type 0} (P : X → Type 0) → ((x : X) → P x) → (xs : List X) → AllByRecursion P xs
every P holds [] = tt
every P holds (x ∷ xs) = (holds x, every P holds xs)

-- the next of n values ends within them
pub width_within : (width i n : ℕ) → i < n → width * i + width ≤ width * n
width_within width i n less = grind arith
