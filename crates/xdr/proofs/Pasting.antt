-- One write after another in a buffer.
use Rattle.std.proofs.lemmas.Grind.{common_steps}
use Rattle.std.proofs.Common.{◌≡◌, ℕ, ◌+◌, ◌-◌, ◌≤◌, List, [], ◌++◌, length, drop, zero-add, arith, rules}
use borrow.Rule.Slice.PartMut.{put_mid}
use Rattle.std.proofs.lemmas.List.{places, same_lists}
use Rattle.xdr.specs.Layout.{pasted}

-- at the front
pub pasted_front : (buffer bytes : List ℕ) → pasted buffer 0 bytes ≡ bytes ++ drop (length bytes) buffer
unfolding pasted
pasted_front buffer bytes = simp zero-add

pub pasted_none : (buffer : List ℕ) (at : ℕ) → pasted buffer at [] ≡ buffer
unfolding pasted
pasted_none buffer at = grind (arith, common_steps)

pub length-pasted : (buffer : List ℕ) (at : ℕ) (bytes : List ℕ) → at + length bytes ≤ length buffer → length (pasted buffer at bytes) ≡ length buffer
unfolding pasted
length-pasted buffer at bytes fits = search (rules, places)

pub pasted_more : (buffer : List ℕ) (at : ℕ) (first second : List ℕ) (n : ℕ) → at + length first ≡ n → n + length second ≤ length buffer → pasted (pasted buffer at first) n second ≡ pasted buffer at (first ++ second)
unfolding pasted
pasted_more buffer at first second n e fits = same_lists _ _ (search (rules, places)) (λ k d l. grind (arith, places))

-- a write to the rest of a buffer, `&mut out[n..]`, and then one in front of it
pub pasted_behind : (buffer : List ℕ) (n k : ℕ) (front back : List ℕ) → length front ≡ n → n ≤ length buffer → k ≡ length buffer - n → n + length back ≤ length buffer → pasted (put_mid n k buffer (pasted (drop n buffer) 0 back)) 0 front ≡ pasted buffer 0 (front ++ back)
unfolding pasted
pasted_behind buffer n k front back e l f fits = grind (arith, common_steps)
