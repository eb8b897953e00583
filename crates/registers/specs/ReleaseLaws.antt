-- What a reader expects of the release line.
use Rattle.std.specs.Prelude.{◌≡◌, ℕ, ◌≤◌}
use Rattle.terms.specs.declared.requests.Request.{Request}
use Rattle.service.specs.Laws.{FailureChangesNothing, FailureHasNoValue}
use Rattle.registers.specs.Release.{release_reply, release_next}

pub record ReleaseLaws : Type 0 where
  -- the line never falls
  pub rises : (released : ℕ) (r : Request) → released ≤ release_next released r
  -- a read changes nothing
  pub reads : (released : ℕ) (r : Request) → r.code ≡ 2 → release_next released r ≡ released
  -- after any request a read gives what the line now holds
  pub shown : (released : ℕ) (r read : Request) → read.code ≡ 2 → release_reply (release_next released r) read ≡ (0, release_next released r)
  -- a status other than 0 changes nothing and has value 0
  pub quiet : FailureChangesNothing release_next release_reply
  pub valueless : FailureHasNoValue release_next release_reply
