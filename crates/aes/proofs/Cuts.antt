-- The chain of blocks and the tag, cut behind whole blocks.
use Rattle.std.proofs.Common.{◌≡◌, ℕ, zero, suc, ◌+◌, ◌-◌, ◌*◌, ◌/◌, ◌%◌, ◌<◌, ◌≤◌, eqb, List, ◌∷◌, ◌++◌, length, take, drop, sym, refl, ap, ap₂, ◌∙◌, arith}
use borrow.Rule.Slice.PartMut.{put_mid}
use Rattle.std.specs.List.{fold}
use Rattle.std.specs.Simd.{first_chunks}
use Rattle.std.proofs.lemmas.List.{append_assoc, length-append, length-drop, length-take-le, take_all, take_at, take-append-le, take-append-drop, drop_at, drop-append-le, drop-drop}
use Rattle.std.proofs.lemmas.Slice.{take-put_mid}
use Rattle.aes.specs.Cipher.{xors}
use Rattle.aes.proofs.Sums.{xors_comm}
use Rattle.aes.specs.Cmac.{blocks, flag, block_at, m_last, chained, cmac_from}

-- a block behind the first
block_behind : (m : List ℕ) (i : ℕ) → block_at m (suc i) ≡ block_at (drop 16 m) i
unfolding block_at
block_behind m i =
    let places : 16 * suc i ≡ 16 + 16 * i = omega arith in
    ap (λ n. take 16 (drop n m)) places ∙ ap (take 16) (sym (drop-drop (16 * i) 16 m))

-- how many blocks a message that is not empty has, and its flag
blocks_of : (len : ℕ) → 0 < len → blocks len ≡ (len + 15) / 16
unfolding blocks
blocks_of len h = grind arith

flag_of : (len : ℕ) → 0 < len → flag len ≡ eqb (len % 16) 0
unfolding flag
flag_of len h = grind arith

-- a message of at most one block has one block, and its flag says whether that is full
one : (len : ℕ) → len ≤ 16 → blocks len ≡ 1
unfolding blocks
one len h = grind arith

full : (len : ℕ) → len ≤ 16 → flag len ≡ eqb len 16
unfolding flag
full len h = grind arith

-- the whole blocks of a message are those of its front
chunks_front : (j : ℕ) (m rest : List ℕ) → 16 * j ≤ length m → first_chunks 16 j (m ++ rest) ≡ first_chunks 16 j m
chunks_front zero m rest h = refl
chunks_front (suc j) m rest h =
    let behind : 16 * j ≤ length (drop 16 m) = simp length-drop (omega arith) in
    ap₂ ◌∷◌ (take-append-le 16 m rest (omega arith))
    (ap (first_chunks 16 j) (drop-append-le 16 m rest (omega arith)) ∙ chunks_front j (drop 16 m) rest behind)

pub chunks_of_take : (j n : ℕ) (m : List ℕ) → 16 * j ≤ n → n ≤ length m → first_chunks 16 j (take n m) ≡ first_chunks 16 j m
chunks_of_take j n m h l =
    let long : length (take n m) ≡ n = length-take-le n m l in
    sym (chunks_front j (take n m) (drop n m) (omega arith)) ∙ ap (first_chunks 16 j) (take-append-drop n m)

module _ (E : List ℕ → List ℕ) where
  -- X after one block more
  abbrev pub step : List ℕ → List ℕ → List ℕ
  step x block = E (xors x block)

  -- the chain from the X behind the first block on
  chained_behind : (x m : List ℕ) (i : ℕ) → chained E x m (suc i) ≡ chained E (step x (take 16 m)) (drop 16 m) i
  unfolding chained block_at
  chained_behind x m zero = refl
  chained_behind x m (suc i) = ap₂ step (chained_behind x m i) (block_behind m i)

  module _ (k1 k2 : List ℕ) where
    -- the tag from the X behind the first block on, where bytes follow it
    past_block : (x m : List ℕ) → 16 < length m → cmac_from E k1 k2 (step x (take 16 m)) (drop 16 m) ≡ cmac_from E k1 k2 x m
    unfolding cmac_from
    past_block x m h =
        let left : length (drop 16 m) ≡ length m - 16 = length-drop 16 m in
        let all = blocks_of (length m) (omega arith) in
        let some = blocks_of (length (drop 16 m)) (omega arith) in
        let places : blocks (length m) - 1 ≡ suc (blocks (length (drop 16 m)) - 1) = omega arith in
        let same : length (drop 16 m) % 16 ≡ length m % 16 = omega arith in
        let whole : flag (length (drop 16 m)) ≡ flag (length m) = flag_of (length (drop 16 m)) (omega arith) ∙ ap (λ n. eqb n 0) same ∙ sym (flag_of (length m) (omega arith)) in
        let last = block_behind m (blocks (length (drop 16 m)) - 1) in
        let chain = chained_behind x m (blocks (length (drop 16 m)) - 1) in
        rw (places, last, chain, whole) refl

    -- a message of at most one block
    one_block : (x m : List ℕ) → length m ≤ 16 → cmac_from E k1 k2 x m ≡ E (xors (m_last k1 k2 (eqb (length m) 16) m) x)
    unfolding cmac_from chained block_at
    one_block x m h =
        ap (λ n. E (xors (m_last k1 k2 (flag (length m)) (block_at m (n - 1))) (chained E x m (n - 1)))) (one (length m) h)
        ∙ ap (λ b. E (xors (m_last k1 k2 b (take 16 m)) x)) (full (length m) h)
        ∙ ap (λ b. E (xors (m_last k1 k2 (eqb (length m) 16) b) x)) (take_all 16 m h)

    -- the tag where at most one block is left
    pub closed : (x m : List ℕ) → length m ≤ 16 → step x (m_last k1 k2 (eqb (length m) 16) m) ≡ cmac_from E k1 k2 x m
    closed x m short = ap E (xors_comm x _) ∙ sym (one_block x m short)

    -- the tag from the X behind whole blocks on, where bytes follow them
    pub past_blocks : (x m : List ℕ) (j : ℕ) → 16 * j ≤ length m - 1 → cmac_from E k1 k2 (fold step x (first_chunks 16 j m)) (drop (16 * j) m) ≡ cmac_from E k1 k2 x m
    past_blocks x m zero h = refl
    past_blocks x m (suc j) h =
        let behind : 16 * j ≤ length (drop 16 m) - 1 = simp length-drop (omega arith) in
        let places : 16 * suc j ≡ 16 + 16 * j = omega arith in
        ap (λ n. cmac_from E k1 k2 (fold step x (first_chunks 16 (suc j) m)) (drop n m)) places
        ∙ ap (cmac_from E k1 k2 (fold step x (first_chunks 16 (suc j) m))) (sym (drop-drop (16 * j) 16 m))
        ∙ past_blocks (step x (take 16 m)) (drop 16 m) j behind ∙ past_block x m (omega arith)

    -- bytes that are written behind those that are held, and then the rest
    pub held_more : (x buf front bytes : List ℕ) (fill n : ℕ) → front ≡ bytes → fill ≤ length buf → (rest : List ℕ)
        → cmac_from E k1 k2 x (take (fill + length bytes) (put_mid fill n buf front) ++ rest) ≡ cmac_from E k1 k2 x (take fill buf ++ (bytes ++ rest))
    held_more x buf front bytes fill n e h rest =
        let long : fill + length bytes ≡ fill + length front = ap (λ b. fill + length b) (sym e) in
        ap (λ b. cmac_from E k1 k2 x (b ++ rest)) (take-put_mid fill n buf front (fill + length bytes) long h ∙ ap (λ b. take fill buf ++ b) e)
        ∙ ap (cmac_from E k1 k2 x) (append_assoc (take fill buf) bytes rest)

    -- a full block, then the whole blocks at the front of the bytes, then what is left
    pub past_all : (x buf bytes rest : List ℕ) (j : ℕ) → length buf ≡ 16 → 16 * j < length bytes
        → cmac_from E k1 k2 (fold step (step x buf) (first_chunks 16 j bytes)) (drop (16 * j) bytes ++ rest) ≡ cmac_from E k1 k2 x (take 16 buf ++ (bytes ++ rest))
    past_all x buf bytes rest j l h =
        let all : length (bytes ++ rest) ≡ length bytes + length rest = length-append bytes rest in
        let long : 16 < length (buf ++ (bytes ++ rest)) = simp length-append (omega arith) in
        let whole : take 16 buf ≡ buf = take_all 16 buf (omega arith) in
        ap (λ chunks. cmac_from E k1 k2 (fold step (step x buf) chunks) (drop (16 * j) bytes ++ rest)) (sym (chunks_front j bytes rest (omega arith)))
        ∙ ap (cmac_from E k1 k2 (fold step (step x buf) (first_chunks 16 j (bytes ++ rest)))) (sym (drop-append-le (16 * j) bytes rest (omega arith)))
        ∙ past_blocks (step x buf) (bytes ++ rest) j (omega arith)
        ∙ ap₂ (λ block m. cmac_from E k1 k2 (step x block) m) (sym (take_at buf (bytes ++ rest) 16 l)) (sym (drop_at buf (bytes ++ rest) 16 l))
        ∙ past_block x (buf ++ (bytes ++ rest)) long
        ∙ ap (λ b. cmac_from E k1 k2 x (b ++ (bytes ++ rest))) (sym whole)
