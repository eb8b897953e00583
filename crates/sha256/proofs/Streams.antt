-- What a hash in progress becomes when bytes come, and what it gives then.
use Rattle.std.proofs.lemmas.Grind.{common_steps}
use Rattle.std.proofs.Common.{◌≡◌, ℕ, ◌+◌, ◌-◌, ◌*◌, ◌%◌, ◌^◌, ◌<◌, List, [], ◌∷◌, ◌++◌, length, get_or, replicate, sym, refl, ap, add-zero, ◌∙◌, arith}
use Rattle.std.specs.List.{flat_map, fold}
use Rattle.std.proofs.lemmas.List.{append_assoc, append-nil, length-append, length-replicate}
use Rattle.sha256.specs.Sha256.{be64, padding, parsed, compressed, hashed, digest_bytes}
use Rattle.sha256.specs.Progress.{waiting, remaining, digest_after, TakesIn}
use Rattle.sha256.specs.declared.hashing.Sha256.{Sha256}
use Rattle.sha256.proofs.Padding.{padding_mod}
use Rattle.sha256.proofs.Parsing.{hashed_block, hashed_short, hashed_fold, hashed_whole}

-- bytes that have come give what they give where they are still to come
pub digest_after_taken : (s t : Sha256) (bytes : List ℕ) → TakesIn s bytes t → (rest : List ℕ) → digest_after t rest ≡ digest_after s (bytes ++ rest)
unfolding remaining
digest_after_taken s t bytes took rest =
    let counted = took.counted in
    let same : (t.count + length rest) % 2 ^ 64 ≡ (s.count + length (bytes ++ rest)) % 2 ^ 64 = simp length-append (omega arith) in
    ap digest_bytes (took.absorbed (rest ++ padding (t.count + length rest)))
    ∙ rw (padding_mod (t.count + length rest) (s.count + length (bytes ++ rest)) same, append_assoc) refl

-- bytes that come in two parts
pub both_taken : (s t u : Sha256) (a b : List ℕ) → TakesIn s a t → TakesIn t b u → TakesIn s (a ++ b) u
both_taken s t u a b first second = grind (arith, common_steps)

-- bytes that wait behind the others
pub held : (s t : Sha256) (bytes : List ℕ) → t.count ≡ (s.count + length bytes) % 2 ^ 64 → t.h ≡ s.h → waiting t ≡ waiting s ++ bytes → TakesIn s bytes t
held s t bytes counted same wait = grind (arith, common_steps)

-- bytes that fill a block, which is hashed
pub completed : (s t : Sha256) (bytes : List ℕ) → t.count ≡ (s.count + length bytes) % 2 ^ 64 → s.count % 64 + length bytes ≡ 64
    → t.block ≡ waiting s ++ bytes → length t.block ≡ 64 → t.h ≡ compressed s.h t.block → TakesIn s bytes t
completed s t bytes counted full block long into =
    let empty : t.count % 64 ≡ 0 = omega arith in
    record {
      counted = counted;
      absorbed = λ tail.
          rw (empty, into) (sym (hashed_block s.h t.block tail long) ∙ rw (block, append_assoc) refl);
    }

-- whole blocks that are hashed where nothing waits
pub absorbed : (s t : Sha256) (blocks : List (List ℕ)) → s.count % 64 ≡ 0 → ((k : ℕ) → k < length blocks → length (get_or blocks k []) ≡ 64)
    → length (flat_map (λ b. b) blocks) ≡ length blocks * 64
    → t.count ≡ (s.count + length (flat_map (λ b. b) blocks)) % 2 ^ 64 → t.h ≡ fold compressed s.h blocks → TakesIn s (flat_map (λ b. b) blocks) t
absorbed s t blocks none all long counted into =
    let bytes : List ℕ = flat_map (λ b. b) blocks in
    let empty : t.count % 64 ≡ 0 = omega arith in
    record {
      counted = counted;
      absorbed = λ tail.
          rw (empty, none, into, hashed_fold) (sym (hashed_whole s.h blocks tail all));
    }

-- once the padding has come in its two parts, nothing waits, and the hash value is what the digest is made of
pub finished : (s t u : Sha256) (first last : List ℕ) → TakesIn s first t → TakesIn t last u
    → first ≡ 0x80 ∷ replicate ((119 - s.count % 64) % 64) 0 → last ≡ be64 (8 * s.count) → length last ≡ 8 → digest_bytes u.h ≡ digest_after s []
unfolding remaining padding
finished s t u first last one two first_is last_is eight =
    let both = both_taken s t u first last one two in
    let counted = both.counted in
    let long : length first ≡ 1 + (119 - s.count % 64) % 64 = ap length first_is ∙ simp length-replicate (omega arith) in
    let all : length (first ++ last) ≡ 9 + (119 - s.count % 64) % 64 = simp length-append (omega arith) in
    let empty : u.count % 64 ≡ 0 = omega arith in
    let parts : first ++ last ≡ padding (s.count + 0) = rw (first_is, last_is, add-zero) refl in
    let hashed_all : hashed u.h (parsed (waiting u ++ [])) ≡ hashed s.h (parsed (waiting s ++ padding (s.count + 0))) =
    both.absorbed [] ∙ rw (append-nil, parts) refl in
    let done : u.h ≡ hashed u.h (parsed (waiting u ++ [])) = rw empty (sym (hashed_short u.h [] refl)) in
    ap digest_bytes (done ∙ hashed_all)
