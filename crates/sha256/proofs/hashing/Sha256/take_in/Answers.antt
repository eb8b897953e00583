-- The three parts of the bytes, one behind the other, are the bytes.
use Rattle.std.proofs.Common.{◌≡◌, ◌/◌, ◌++◌, length, subst}
use Rattle.std.specs.List.{flat_map}
use Rattle.sha256.specs.Progress.{TakesIn}
use Rattle.sha256.proofs.Streams.{both_taken}
use Rattle.sha256.proofs.Parsing.{cut_joined, chunks_joined}
use Rattle.sha256.proofs.hashing.Sha256.take_in.Goals as goal

pub returns-in-Some : goal.returns-in-Some
returns-in-Some c =
    let self = c.args.self.now in
    let bytes = c.args.bytes.now in
    let first = c.in-Some.first.now in
    let others = c.in-Some.others.now in
    let blocks = c.as_chunks.result.0.now in
    let last = c.as_chunks.result.1.now in
    let joined = chunks_joined 64 (length others / 64) others blocks last c.as_chunks.ensures.front c.as_chunks.ensures.back in
    let split = c.in-Some.ensures.cases in
    let behind = both_taken _ _ _ _ _ c.absorb.ensures.taken c.hold-in-Some.ensures in
    let all = both_taken self _ _ first _ c.complete.ensures behind in
    let whole : first ++ (flat_map (λ b. b) blocks ++ last) ≡ bytes = rw joined (cut_joined bytes first others split.0 split.1 split.2) in
    subst (λ x. TakesIn self x c.hold-in-Some.new.self) whole all
