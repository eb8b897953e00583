-- What a request's code asks of the glyph register, and of the release line.
use Rattle.std.specs.Prelude.{ℕ, if◌then◌else◌, Some, None, Ok, Err, Option, Result, ◌==◌}
use Rattle.std.specs.Option.{ok_or}
use Rattle.service.specs.declared.failures.Failure.{Failure}
use Rattle.service.specs.declared.failures.Failure.TheVariants.{NotTaken}
use Rattle.registers.specs.declared.operations.Measure.TheVariants.{Advance, Bearing}
use Rattle.registers.specs.declared.operations.Operation.{Operation}
use Rattle.registers.specs.declared.operations.Operation.TheVariants.{Set, Read}
use Rattle.registers.specs.declared.release.Action.{Action}
use Rattle.registers.specs.declared.release.Action.TheVariants.{Raise, Read as ReadRelease}

-- code 1 sets the advance, 2 the left bearing, 3 reads the advance, 4 the bearing
abbrev pub operation_of : ℕ → Option Operation
operation_of code =
    if code == 1 then Some (Set Advance) else
    if code == 2 then Some (Set Bearing) else
    if code == 3 then Some (Read Advance) else
    if code == 4 then Some (Read Bearing) else
    None

-- another code is not taken
abbrev pub operation_or_failure : ℕ → Result Operation Failure
operation_or_failure code = ok_or (operation_of code) NotTaken

-- code 1 raises the release line, 2 reads it
abbrev pub action_or_failure : ℕ → Result Action Failure
action_or_failure code =
    if code == 1 then Ok Raise else
    if code == 2 then Ok ReadRelease else
    Err NotTaken
