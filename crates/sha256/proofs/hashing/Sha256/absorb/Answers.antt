-- Nothing waits before, and the blocks are hashed one after the other.
use Rattle.std.proofs.Common.{◌≡◌, ◌+◌, ◌%◌, ◌^◌, ap, sym, ◌∙◌, length, rules}
use Rattle.std.specs.List.{fold}
use Rattle.std.proofs.lemmas.Iterator.{YieldsList-from_slice}
use Rattle.std.proofs.lemmas.Iterator.Consumers.{fold_from_yields_List}
use Rattle.sha256.specs.Sha256.{compressed}
use Rattle.sha256.proofs.Streams.{absorbed}
use Rattle.sha256.proofs.hashing.Sha256.absorb.Goals as goal

pub returns-clause-taken : goal.returns-clause-taken
returns-clause-taken c =
    let self = c.args.self.now in
    let blocks = c.args.blocks.now in
    let folded : c.fold-self.result ≡ fold compressed self.h blocks =
    fold_from_yields_List _ compressed self.h _ c.fold-self.ensures.ran (YieldsList-from_slice blocks (cc)) (λ a x b q called. search rules) in
    let flat = c.as_flattened.ensures.value in
    absorbed self _ blocks c.requires c.told-blocks (ap length (sym flat) ∙ c.as_flattened.ensures.len) (ap (λ x. (self.count + length x) % 2 ^ 64) flat) folded
