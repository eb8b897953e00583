-- Sums of lists of bytes.
use Rattle.std.proofs.Common.{◌≡◌, ℕ, zero, suc, ◌<◌, List, [], ◌∷◌, map, length, get_or, sym, refl, ap, ◌∙◌, arith}
use lib.Bits.{bit_xor, xor_comm}
use Rattle.std.specs.List.{range_with_len}
use Rattle.std.proofs.lemmas.List.FromFn.{fill_by_all}
use Rattle.aes.specs.Cipher.{xors}

pub length-xors : (a b : List ℕ) → length a ≡ length b → length (xors a b) ≡ length a
unfolding xors
length-xors [] ys e = refl
length-xors (x ∷ xs) [] e = omega arith
length-xors (x ∷ xs) (y ∷ ys) e = ap suc (length-xors xs ys (omega arith))

get_or-xors : (a b : List ℕ) (k : ℕ) → length a ≡ length b → k < length a → get_or (xors a b) k 0 ≡ bit_xor (get_or a k 0) (get_or b k 0)
unfolding xors
get_or-xors [] ys k e h = omega arith
get_or-xors (x ∷ xs) [] k e h = omega arith
get_or-xors (x ∷ xs) (y ∷ ys) zero e h = refl
get_or-xors (x ∷ xs) (y ∷ ys) (suc k) e h = get_or-xors xs ys k (omega arith) (omega arith)

pub xors_comm : (a b : List ℕ) → xors a b ≡ xors b a
unfolding xors
xors_comm [] [] = refl
xors_comm [] (y ∷ ys) = refl
xors_comm (x ∷ xs) [] = refl
xors_comm (x ∷ xs) (y ∷ ys) = let first = xor_comm x y in let rest = xors_comm xs ys in cc

-- the sum, place by place
pub xors_places : (a b : List ℕ) (n : ℕ) → length a ≡ n → length b ≡ n → map (λ k. bit_xor (get_or a k 0) (get_or b k 0)) (range_with_len 0 n) ≡ xors a b
xors_places a b n l m =
    let same : length a ≡ length b = l ∙ sym m in
    sym (fill_by_all (λ k. bit_xor (get_or a k 0) (get_or b k 0)) (xors a b) n 0 (length-xors a b same ∙ l)
    (λ k h. get_or-xors a b k same (omega arith)))
