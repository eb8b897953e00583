-- Bytes that are read two digits at a time, each behind those so far.
use Rattle.std.proofs.Common.{◌≡◌, ℕ, ◌+◌, ◌<◌, List, [], ◌∷◌, ◌++◌, length, get_or, drop, Some, None, Option, sym, refl, ap, ◌∙◌}
use Rattle.std.proofs.lemmas.List.{append_assoc, at_drop_more}
use Rattle.std.specs.Option.{option_map}
use Rattle.texts.specs.Hexes.{hex_byte, followed, bytes_of_pairs}
use Rattle.texts.proofs.Pairs.{odd_digits_write_nothing, pairs_write, hexes_read}

-- bytes that are read already, and those that are left
abbrev pub behind : List ℕ → Option (List ℕ) → Option (List ℕ)
behind bytes rest = option_map (λ more. bytes ++ more) rest

one_more_behind : (bytes : List ℕ) (byte : ℕ) (rest : Option (List ℕ)) → behind bytes (followed (Some byte) rest) ≡ behind (bytes ++ byte ∷ []) rest
one_more_behind bytes byte None = refl
one_more_behind bytes byte (Some more) = ap Some (sym (append_assoc bytes (byte ∷ []) more))

module _ (pairs : List (List ℕ)) (bytes : List ℕ) (i : ℕ) where
  abbrev left : Option (List ℕ)
  left = behind bytes (bytes_of_pairs (drop i pairs))

  abbrev read : Option ℕ
  read = hex_byte (get_or (get_or pairs i []) 0 0) (get_or (get_or pairs i []) 1 0)

  pub next_pair : (byte : ℕ) → i < length pairs → Some byte ≡ read → left ≡ behind (bytes ++ byte ∷ []) (bytes_of_pairs (drop (i + 1) pairs))
  next_pair byte inside is =
      ap (behind bytes) (at_drop_more bytes_of_pairs pairs i [] inside)
      ∙ ap (λ o. behind bytes (followed o (bytes_of_pairs (drop (i + 1) pairs)))) (sym is)
      ∙ one_more_behind bytes byte (bytes_of_pairs (drop (i + 1) pairs))

-- what the goals of `read_hex` want
pub ruleset decoding = (odd_digits_write_nothing, pairs_write, next_pair, hexes_read)
