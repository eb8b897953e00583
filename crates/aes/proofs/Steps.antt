-- The rounds as a fold over their keys, and the round keys turn by turn.
use Rattle.std.proofs.Common.{◌≡◌, ℕ, zero, suc, ◌+◌, ◌-◌, ◌<◌, if◌then◌else◌, ◌==◌, List, [], get_or, take, drop, length, sym, refl, ap, ap₂, ◌∙◌, add-one, arith, length-drop}
use Rattle.std.specs.List.{fold}
use Rattle.std.proofs.lemmas.List.{get_or-drop}
use Rattle.std.proofs.lemmas.List.Sums.{fold_more}
use Rattle.aes.specs.Field.{xtime}
use Rattle.aes.specs.Cipher.{round, rounds, round_key, rcon, next_key}

pub rounds_by_fold : (w : List (List ℕ)) (s : List ℕ) (t : ℕ) → t < length w → fold round s (take t (drop 1 w)) ≡ rounds w s t
unfolding rounds
rounds_by_fold w s zero h = refl
rounds_by_fold w s (suc t) h =
    let less : t < length (drop 1 w) = simp length-drop (omega arith) in
    let one_more : 1 + t ≡ suc t = omega arith in
    let key : get_or (drop 1 w) t [] ≡ get_or w (suc t) [] = get_or-drop 1 w t [] ∙ ap (λ n. get_or w n []) one_more in
    ap (λ n. fold round s (take n (drop 1 w))) (sym (add-one t)) ∙ fold_more round s (drop 1 w) t [] less
    ∙ ap₂ round (rounds_by_fold w s t (omega arith)) key

-- the round key of a turn and the byte of the next Rcon, from those of the turn before; the first turn leaves both
pub key_turn : (key last next : List ℕ) (byte more t : ℕ) → last ≡ round_key key (t - 1) → byte ≡ rcon (t - 1)
    → next ≡ (if t == 0 then last else next_key last byte) → more ≡ (if t == 0 then byte else xtime byte)
    → (next ≡ round_key key t) × (more ≡ rcon t)
unfolding round_key rcon
key_turn key last next byte more zero last_is byte_is next_is more_is = (next_is ∙ last_is, more_is ∙ byte_is)
key_turn key last next byte more (suc t) last_is byte_is next_is more_is =
    let back : suc t - 1 ≡ t = omega arith in
    let last_now : last ≡ round_key key t = rw (← back) last_is in
    let byte_now : byte ≡ rcon t = rw (← back) byte_is in
    let next_now : next ≡ next_key last byte = grind (arith, next_is) in
    let more_now : more ≡ xtime byte = grind (arith, more_is) in
    (next_now ∙ ap₂ next_key last_now byte_now, more_now ∙ ap xtime byte_now)
