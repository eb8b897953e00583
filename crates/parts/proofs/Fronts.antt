-- What was read stands in front of what was left, and its tag stands at its end.
use Rattle.std.proofs.lemmas.List.{take_at}
use Rattle.std.proofs.Common.{Fits, w8, ◌≡◌, ℕ, ◌-◌, List, length, get_or, take, Some, Option, refl, ap, ◌∙◌, arith, length-append}
use Rattle.terms.specs.Numbers.{tag_bytes}
use Rattle.xdr.specs.Laws.{Exact}
use Rattle.xdr.proofs.Exactness.{bytes_from_places}
use Rattle.parts.specs.Messages.{Prepare, Commit, Checkpoint}
use Rattle.parts.specs.Encoding.{TaggedBytes}
use Rattle.parts.specs.Fits.{PrepareStands, CommitStands, CheckpointStands}
use Rattle.parts.specs.Reading.{prepare_from, commit_from, checkpoint_from}
use Rattle.parts.proofs.Exactness.{prepares_exact, commits_exact, checkpoints_exact}

-- a message's bytes up to its tag
pub without_tag : (part bytes body tag : List ℕ) → TaggedBytes bytes body tag → part ≡ take (length bytes - tag_bytes) bytes → part ≡ body
without_tag part bytes body tag whole is =
    let short : length bytes - tag_bytes ≡ length body = omega (arith, ap length whole.0, length-append body tag, whole.1) in
    is ∙ rw (short, whole.0) (take_at body tag (length body) refl)

module _ (part bytes rest : List ℕ) (is : part ≡ take (length bytes - length rest) bytes) (small : (k : ℕ) → Fits w8 (get_or bytes k 0)) where
  pub front : {X : Type 0} {fits : X → Type 0} {write : X → List ℕ} {read : List ℕ → Option (X × List ℕ)} → Exact fits write read → (x : X) → read bytes ≡ Some (x, rest) → (part ≡ write x) × fits x
  front {write = write} exact x e =
      let only = exact.only bytes x rest (bytes_from_places bytes (λ k. omega (arith, small k))) e in
      let long : length bytes - length rest ≡ length (write x) = omega (arith, ap length only.0, length-append (write x) rest) in
      (is ∙ rw (long, only.0) (take_at (write x) rest (length (write x)) refl), only.1)

  pub prepare_front : (p : Prepare) → prepare_from bytes ≡ Some (p, rest) → PrepareStands part p
  unfolding PrepareStands
  prepare_front p e = let f = front prepares_exact p e in ((f.0, f.1.3), f.1)

  pub commit_front : (c : Commit) → commit_from bytes ≡ Some (c, rest) → CommitStands part c
  unfolding CommitStands
  commit_front c e = let f = front commits_exact c e in ((f.0, f.1.4), f.1)

  pub checkpoint_front : (c : Checkpoint) → checkpoint_from bytes ≡ Some (c, rest) → CheckpointStands part c
  unfolding CheckpointStands
  checkpoint_front c e = let f = front checkpoints_exact c e in ((f.0, f.1.3), f.1)
