-- The schedule word by word, and the rounds in rows of eight.
use Rattle.std.proofs.lemmas.Grind.{common_steps}
use Rattle.std.proofs.Common.{◌≡◌, ℕ, zero, suc, ◌-◌, ◌*◌, ◌<◌, ◌≤◌, List, [], ◌∷◌, ◌++◌, map, length, get_or, take, drop, sym, refl, ap, ◌∙◌, arith}
use Rattle.std.specs.List.{fold, zip, range_with_len}
use Rattle.std.specs.Simd.{first_chunks}
use Rattle.std.proofs.lemmas.List.{length-take-le, length-drop, take-append-drop}
use Rattle.sha256.specs.Sha256.{scheduled, extended, round, rounds}

-- rounds in two parts
rounds_append : (s ks ls ws vs : List ℕ) → length ks ≡ length ws → rounds s (ks ++ ls) (ws ++ vs) ≡ rounds (rounds s ks ws) ls vs
unfolding rounds
rounds_append s [] ls [] vs e = refl
rounds_append s [] ls (w ∷ ws) vs e = absurd (omega arith)
rounds_append s (k ∷ ks) ls [] vs e = absurd (omega arith)
rounds_append s (k ∷ ks) ls (w ∷ ws) vs e = rounds_append (round s k w) ks ls ws vs (omega arith)

-- the rounds over a row of constants and a row of words
abbrev pub row_rounds : List ℕ → List ℕ × List ℕ → List ℕ
row_rounds s rows = rounds s rows.0 rows.1

rounds_of_chunks : (n : ℕ) (s ks ws : List ℕ) → length ks ≡ 8 * n → length ws ≡ 8 * n
    → fold row_rounds s (zip (first_chunks 8 n ks) (first_chunks 8 n ws)) ≡ rounds s ks ws
unfolding rounds
rounds_of_chunks zero s [] ws k_long w_long = refl
rounds_of_chunks zero s (k ∷ ks) ws k_long w_long = absurd (omega arith)
rounds_of_chunks (suc n) s ks ws k_long w_long =
    let same : length (take 8 ks) ≡ length (take 8 ws) = length-take-le 8 ks (omega arith) ∙ sym (length-take-le 8 ws (omega arith)) in
    rounds_of_chunks n (rounds s (take 8 ks) (take 8 ws)) (drop 8 ks) (drop 8 ws) (simp length-drop (omega arith))
    (simp length-drop (omega arith))
    ∙ sym (rounds_append s (take 8 ks) (drop 8 ks) (take 8 ws) (drop 8 ws) same)
    ∙ ap (λ x. rounds s x (take 8 ws ++ drop 8 ws)) (take-append-drop 8 ks)
    ∙ ap (λ x. rounds s ks x) (take-append-drop 8 ws)

-- rounds in rows of eight
pub rounds_by_rows : (n : ℕ) (s ks ws : List ℕ) (k_rows w_rows : List (List ℕ)) → k_rows ≡ first_chunks 8 n ks → w_rows ≡ first_chunks 8 n ws
    → length ks ≡ 8 * n → length ws ≡ 8 * n → fold row_rounds s (zip k_rows w_rows) ≡ rounds s ks ws
rounds_by_rows n s ks ws k_rows w_rows k_is w_is k_long w_long = rw (k_is, w_is) (rounds_of_chunks n s ks ws k_long w_long)

-- a list of eight is its elements
eight : (w : List ℕ) → length w ≡ 8 → w ≡ map (λ i. get_or w i 0) (range_with_len 0 8)
eight w long = grind (arith, common_steps)

-- eight rounds, one after the other
pub rounds_eight : (s k w : List ℕ) → length k ≡ 8 → length w ≡ 8 → rounds s k w ≡
    (let s1 = round s (get_or k 0 0) (get_or w 0 0) in
    let s2 = round s1 (get_or k 1 0) (get_or w 1 0) in
    let s3 = round s2 (get_or k 2 0) (get_or w 2 0) in
    let s4 = round s3 (get_or k 3 0) (get_or w 3 0) in
    let s5 = round s4 (get_or k 4 0) (get_or w 4 0) in
    let s6 = round s5 (get_or k 5 0) (get_or w 5 0) in
    let s7 = round s6 (get_or k 6 0) (get_or w 6 0) in
    round s7 (get_or k 7 0) (get_or w 7 0))
unfolding rounds
rounds_eight s k w k_long w_long = grind (arith, common_steps)

-- the word at place t, behind the t words before it
pub extended_more : (left less t : ℕ) (w : List ℕ) (x : ℕ) → left ≡ suc less → 16 ≤ t → t < length w
    → x ≡ scheduled (get_or w (t - 2) 0) (get_or w (t - 7) 0) (get_or w (t - 15) 0) (get_or w (t - 16) 0)
    → extended less (take t w ++ x ∷ []) ≡ extended left (take t w)
unfolding extended
extended_more left less t w x e few below x_is = grind (arith, common_steps)

pub extended_all : (left : ℕ) (w : List ℕ) → left ≡ 0 → extended left w ≡ w
unfolding extended
extended_all left w none = grind arith
