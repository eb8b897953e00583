-- Each call behind the first gives one round key more, and eleven of them are the expansion.
use Rattle.std.proofs.Common.{◌≡◌, ◌+◌, ◌-◌, if◌then◌else◌, ◌==◌, [], refl, ◌∙◌, rules, arith}
use Rattle.aes.specs.Cipher.{next_key, round_key, rcon, key_expansion}
use Rattle.aes.specs.Field.{xtime}
use Rattle.aes.proofs.Steps.{key_turn}
use Rattle.aes.proofs.SboxTable.{inverses}
use Rattle.streams.proofs.Arrays.{from_fn_along}
use Rattle.aes.proofs.ciphers.Aes128.new.Goals as goal

pub returns : goal.returns
unfolding round_key rcon key_expansion
returns c =
    record {
      keys = from_fn_along _ (round_key c.args.key.now) (λ i p. (p.0.now ≡ round_key c.args.key.now (i - 1)) × (p.1.now ≡ rcon (i - 1)))
          (λ i p y q now k.
          let key : q.0.now ≡ (if i == 0 then p.0.now else next_key p.0.now p.1.now) = search rules in
          let byte : q.1.now ≡ (if i == 0 then p.1.now else xtime p.1.now) = search rules in
          let turn = key_turn c.args.key.now p.0.now q.0.now p.1.now q.1.now i now.0 now.1 key byte in
          let this : y ≡ q.0.now = search rules in
          let before : i + 1 - 1 ≡ i = omega arith in
          (this ∙ turn.0, (rw before turn.0, rw before turn.1)))
          [] _ _ _ (refl, refl) c.from_fn-keys.ensures.items;
      inverses = inverses;
    }
