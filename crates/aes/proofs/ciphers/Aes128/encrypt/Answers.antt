-- Nine rounds and the last are the cipher.
use Rattle.std.proofs.Common.{[], get_or, ap, ◌∙◌, rules, arith}
use Rattle.std.proofs.lemmas.Iterator.{YieldsList-from_slice}
use Rattle.std.proofs.lemmas.Iterator.Consumers.{fold_from_yields_List}
use Rattle.aes.specs.Cipher.{round, last_round, rounds, cipher}
use Rattle.aes.proofs.Steps.{rounds_by_fold}
use Rattle.aes.proofs.ciphers.Aes128.encrypt.Goals as goal

pub returns : goal.returns
unfolding cipher
returns c =
    let keys = c.args.self.now.keys in
    let nine = fold_from_yields_List _ round c.xor.result c.fold-s.result c.fold-s.ensures.ran
    (YieldsList-from_slice _ c.iter.ensures.rest) (λ x block y f k. search rules) in
    c.last_round.ensures ∙ ap (λ s. last_round s (get_or keys 10 [])) (nine ∙ rounds_by_fold keys c.xor.result 9 (omega arith) ∙ ap (λ s. rounds keys s 9) c.xor.ensures)
