-- The four columns one behind the other.
use Rattle.std.proofs.Common.{◌≡◌, ℕ, List, [], ◌∷◌, map, get_or, refl, ap, ◌∙◌, rules}
use Rattle.aes.specs.Cipher.{joined, mix_column, mix_columns, word}
use Rattle.streams.proofs.Arrays.{map_by}
use Rattle.aes.proofs.rounds.mix_columns.Goals as goal

abbrev mixed : List ℕ → List ℕ
mixed column = mix_column (get_or column 0 0) (get_or column 1 0) (get_or column 2 0) (get_or column 3 0)

all_mixed : (s : List ℕ) → joined (map mixed (word s 0 ∷ word s 1 ∷ word s 2 ∷ word s 3 ∷ [])) ≡ mix_columns s
unfolding mix_column mix_columns
all_mixed s = refl

pub returns : goal.returns
returns c =
    let columns = map_by _ mixed [] [] _ _ _ 4 (λ p x y q k. search rules) (simp c.words.ensures) c.map.ensures.items in
    c.joined.ensures ∙ ap joined (columns ∙ ap (map mixed) c.words.ensures) ∙ all_mixed c.args.s
