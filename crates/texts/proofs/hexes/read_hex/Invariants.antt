-- The pairs that are left write the bytes behind those so far.
use Rattle.std.proofs.Common.{◌≡◌, ◌≤◌, length, drop, vec_items, vec_len, vec_capacity}
use Rattle.texts.specs.Hexes.{bytes_of, bytes_of_pairs}
use Rattle.texts.proofs.Decoding.{behind}
use Rattle.texts.proofs.hexes.read_hex.Given as goal

abbrev pub invariant-loop-high : goal.invariant-loop-high
invariant-loop-high l = record {
  so_far : behind (vec_items l.bytes) (bytes_of_pairs (drop l.high-index l.pairs)) ≡ bytes_of l.word;
  len : vec_len l.bytes ≡ l.high-index;
  room : length l.pairs ≤ vec_capacity l.bytes;
}
