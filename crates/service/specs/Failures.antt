-- Failures and their statuses, and the reply that says what became of a request.
use Rattle.std.specs.Prelude.{ℕ, Ok, Err, Result}
use Rattle.service.specs.declared.failures.Failure.{Failure}
use Rattle.service.specs.declared.failures.Failure.TheVariants.{NotTaken, NotAvailable, NoSuchClient, OldSequence}

-- status 0 is success
abbrev pub failure_status : Failure → ℕ
failure_status NotTaken = 1
failure_status NotAvailable = 2
failure_status NoSuchClient = 3
failure_status OldSequence = 4

-- a failure has no value
abbrev pub failure_reply : Failure → ℕ × ℕ
failure_reply failure = (failure_status failure, 0)

abbrev pub outcome_reply : Result ℕ Failure → ℕ × ℕ
outcome_reply (Ok value) = (0, value)
outcome_reply (Err failure) = failure_reply failure
