-- A message that is parsed into blocks, block by block.
use Rattle.std.proofs.lemmas.Grind.{common_steps}
use Rattle.std.proofs.Common.{◌≡◌, ℕ, zero, suc, ◌+◌, ◌*◌, ◌/◌, ◌<◌, ◌≤◌, List, [], ◌∷◌, ◌++◌, length, get_or, take, drop, sym, refl, ap, ◌∙◌, arith}
use Rattle.std.specs.List.{flat_map, fold}
use Rattle.std.specs.Simd.{first_chunks}
use Rattle.std.proofs.lemmas.List.{append_assoc, length-append, take_at, drop_at, drop-drop, take-append-drop}
use Rattle.sha256.specs.Sha256.{blocks, parsed, compressed, hashed}

-- the first block stands in front of the others
parsed_block : (b rest : List ℕ) → length b ≡ 64 → parsed (b ++ rest) ≡ b ∷ parsed rest
unfolding parsed blocks
parsed_block b rest long =
    let one : length (b ++ rest) / 64 ≡ suc (length rest / 64) = simp length-append (omega arith) in
    ap (λ n. blocks n (b ++ rest)) one
    ∙ ap (λ x. x ∷ blocks (length rest / 64) (drop 64 (b ++ rest))) (take_at b rest 64 long)
    ∙ ap (λ x. b ∷ blocks (length rest / 64) x) (drop_at b rest 64 long)

parsed_short : (m : List ℕ) → length m / 64 ≡ 0 → parsed m ≡ []
unfolding parsed blocks
parsed_short m none = grind arith

-- what is hashed block by block
pub hashed_block : (h b rest : List ℕ) → length b ≡ 64 → hashed h (parsed (b ++ rest)) ≡ hashed (compressed h b) (parsed rest)
unfolding hashed
hashed_block h b rest long = ap (hashed h) (parsed_block b rest long)

pub hashed_short : (h m : List ℕ) → length m / 64 ≡ 0 → hashed h (parsed m) ≡ h
unfolding hashed
hashed_short h m none = ap (hashed h) (parsed_short m none)

-- blocks are hashed one after the other
pub hashed_fold : (h : List ℕ) (ms : List (List ℕ)) → fold compressed h ms ≡ hashed h ms
unfolding hashed
hashed_fold h [] = refl
hashed_fold h (m ∷ ms) = hashed_fold (compressed h m) ms

-- whole blocks in front are hashed first
pub hashed_whole : (h : List ℕ) (bs : List (List ℕ)) (rest : List ℕ) → ((k : ℕ) → k < length bs → length (get_or bs k []) ≡ 64)
    → hashed h (parsed (flat_map (λ b. b) bs ++ rest)) ≡ hashed (hashed h bs) (parsed rest)
unfolding hashed
hashed_whole h [] rest all = refl
hashed_whole h (b ∷ bs) rest all =
    ap (λ x. hashed h (parsed x)) (append_assoc b (flat_map (λ b. b) bs) rest)
    ∙ hashed_block h b (flat_map (λ b. b) bs ++ rest) (all 0 (omega arith))
    ∙ hashed_whole (compressed h b) bs rest (λ k below. all (suc k) (omega arith))

-- the two parts of a list
pub cut_joined : {n : ℕ} (xs front back : List ℕ) → n ≤ length xs → front ≡ take n xs → back ≡ drop n xs → front ++ back ≡ xs
cut_joined {n} xs front back long e f = grind (arith, common_steps)

first_chunks_joined : (n k : ℕ) (xs : List ℕ) → flat_map (λ b. b) (first_chunks n k xs) ++ drop (k * n) xs ≡ xs
first_chunks_joined n zero xs =
    let none : zero * n ≡ zero = omega arith in
    ap (λ m. drop m xs) none
first_chunks_joined n (suc k) xs =
    let more : n + k * n ≡ suc k * n = grind arith in
    append_assoc (take n xs) (flat_map (λ b. b) (first_chunks n k (drop n xs))) (drop (suc k * n) xs)
    ∙ ap (λ x. take n xs ++ (flat_map (λ b. b) (first_chunks n k (drop n xs)) ++ x)) (sym (drop-drop (k * n) n xs ∙ ap (λ m. drop m xs) more))
    ∙ ap (λ x. take n xs ++ x) (first_chunks_joined n k (drop n xs))
    ∙ take-append-drop n xs

-- the chunks of a list, and what is left behind them
pub chunks_joined : (n k : ℕ) (xs : List ℕ) (chunks : List (List ℕ)) (left : List ℕ)
    → chunks ≡ first_chunks n k xs → left ≡ drop (k * n) xs → flat_map (λ b. b) chunks ++ left ≡ xs
chunks_joined n k xs chunks left front back = rw (front, back) (first_chunks_joined n k xs)
