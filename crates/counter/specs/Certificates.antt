-- What reading a value and a certificate call answer, and the values behind them.
use Rattle.std.specs.Prelude.{ℕ, Bool, true, false, if◌then◌else◌, not, List, replicate, Ok, Err, Result, nat_le, nat_lt, slice_index, slice_set}
use Rattle.terms.specs.declared.refusals.Refusal.{Refusal}
use Rattle.terms.specs.declared.refusals.Refusal.TheVariants.{NoSuchCounter, ValueNotAllowed}
use Rattle.counter.specs.Kinds.{kind_number}
use Rattle.counter.specs.Statements.{Stated}
use Rattle.counter.specs.declared.kinds.Kind.{Kind}
use Rattle.counter.specs.declared.kinds.Kind.TheVariants.{Continuing, Independent}

-- a seat has so many counters, numbered from 0
abbrev pub counters : ℕ
counters = 3

-- their values in a counter that nobody has used
abbrev pub fresh_values : List ℕ
fresh_values = replicate counters 0

-- the new value may be set: a continuing certificate does not fall, an independent one rises
abbrev pub allows : Kind → ℕ → ℕ → Bool
allows Continuing present new = nat_le present new
allows Independent present new = nat_lt present new

-- the old value that is tagged
abbrev pub old_tagged : Kind → ℕ → ℕ
old_tagged Continuing present = present
old_tagged Independent present = 0

-- a refusal, if the test holds, that leaves the values as they are
abbrev pub refused_if : Bool → Refusal → List ℕ → Result (List ℕ) Refusal × List ℕ → Result (List ℕ) Refusal × List ℕ
refused_if true refusal values next = (Err refusal, values)
refused_if false refusal values next = next

-- reading a value
abbrev pub value_read : List ℕ → ℕ → Result ℕ Refusal
value_read values number = if nat_lt number counters then Ok (slice_index values number) else Err NoSuchCounter

-- the statement that a certificate of this seat is for
abbrev pub certificate_for : ℕ → List ℕ → Kind → ℕ → ℕ → List ℕ → Stated
certificate_for seat values kind number new message =
    record { kind = kind_number kind; seat = seat; number = number; new = new; old = old_tagged kind (slice_index values number); message = message }

-- a certificate call: the tag by the rule, and the new value among the others; or a refusal
abbrev pub certified : (Stated → List ℕ) → ℕ → List ℕ → Kind → ℕ → ℕ → List ℕ → Result (List ℕ) Refusal × List ℕ
certified rule seat values kind number new message =
    refused_if (nat_le counters number) NoSuchCounter values
    (refused_if (not (allows kind (slice_index values number) new)) ValueNotAllowed values
    (Ok (rule (certificate_for seat values kind number new message)), slice_set values number new))
