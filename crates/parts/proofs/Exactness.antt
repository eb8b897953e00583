-- PREPAREs, COMMITs and CHECKPOINTs are exact.
use Rattle.std.proofs.Common.{refl, arith}
use Rattle.terms.specs.Numbers.{digest_bytes, tag_bytes}
use Rattle.xdr.specs.Laws.{Exact}
use Rattle.xdr.proofs.Exactness.{fits_like, then_exact}
use Rattle.xdr.proofs.Numbers.{ints_exact}
use Rattle.xdr.proofs.Opaque.{opaques_exact}
use Rattle.parts.specs.Messages.{Prepare, Commit, Checkpoint}
use Rattle.parts.specs.Encoding.{prepare_type, commit_type, checkpoint_type, untagged_prepare, encode_prepare, untagged_commit, encode_commit, untagged_checkpoint, encode_checkpoint}
use Rattle.parts.specs.Reading.{prepare_from, prepare_rest, commit_from, commit_rest, checkpoint_from, checkpoint_rest}
use Rattle.parts.specs.Fits.{PrepareFits, CommitFits, CheckpointFits}
use Rattle.parts.proofs.Requests.{requests_exact}
use Rattle.parts.proofs.Chains.{typed, next_field, last_field}

pub prepares_exact : Exact PrepareFits encode_prepare prepare_from
unfolding untagged_prepare prepare_rest
prepares_exact =
    fits_like
    (typed prepare_type (omega arith)
    (then_exact ints_exact {Y = Prepare} (λ p. p.view) (λ view _.
    next_field ints_exact (λ p. p.view) (λ p. p.order) view (λ order _.
    next_field requests_exact (λ p. (p.view, p.order)) (λ p. p.request) (view, order) (λ request _.
    last_field (opaques_exact tag_bytes) (λ p. ((p.view, p.order), p.request)) (λ p. p.tag) ((view, order), request)
    (λ k tag. record { view = k.0.0; order = k.0.1; request = k.1; tag = tag }) (λ p. refl) (λ _. refl) (λ _. refl))))))
    PrepareFits (λ p f. (f.0, f.1.0, f.1.1.0, f.1.1.1)) (λ p f. (f.0, (f.1, (f.2, f.3))))

pub commits_exact : Exact CommitFits encode_commit commit_from
unfolding untagged_commit commit_rest
commits_exact =
    fits_like
    (typed commit_type (omega arith)
    (then_exact ints_exact {Y = Commit} (λ c. c.sender) (λ sender _.
    next_field ints_exact (λ c. c.sender) (λ c. c.view) sender (λ view _.
    next_field ints_exact (λ c. (c.sender, c.view)) (λ c. c.order) (sender, view) (λ order _.
    next_field requests_exact (λ c. ((c.sender, c.view), c.order)) (λ c. c.request) ((sender, view), order) (λ request _.
    last_field (opaques_exact tag_bytes) (λ c. (((c.sender, c.view), c.order), c.request)) (λ c. c.tag) (((sender, view), order), request)
    (λ k tag. record { sender = k.0.0.0; view = k.0.0.1; order = k.0.1; request = k.1; tag = tag }) (λ c. refl) (λ _. refl) (λ _. refl)))))))
    CommitFits (λ c f. (f.0, f.1.0, f.1.1.0, f.1.1.1.0, f.1.1.1.1)) (λ c f. (f.0, (f.1, (f.2, (f.3, f.4)))))

pub checkpoints_exact : Exact CheckpointFits encode_checkpoint checkpoint_from
unfolding untagged_checkpoint checkpoint_rest
checkpoints_exact =
    fits_like
    (typed checkpoint_type (omega arith)
    (then_exact ints_exact {Y = Checkpoint} (λ c. c.sender) (λ sender _.
    next_field ints_exact (λ c. c.sender) (λ c. c.order) sender (λ order _.
    next_field (opaques_exact digest_bytes) (λ c. (c.sender, c.order)) (λ c. c.digest) (sender, order) (λ digest _.
    last_field (opaques_exact tag_bytes) (λ c. ((c.sender, c.order), c.digest)) (λ c. c.tag) ((sender, order), digest)
    (λ k tag. record { sender = k.0.0; order = k.0.1; digest = k.1; tag = tag }) (λ c. refl) (λ _. refl) (λ _. refl))))))
    CheckpointFits (λ c f. (f.0, f.1.0, f.1.1.0, f.1.1.1)) (λ c f. (f.0, (f.1, (f.2, f.3))))
