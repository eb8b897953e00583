-- Which seats there are.
use Rattle.std.specs.Prelude.{ℕ, if◌then◌else◌, Ok, Err, Result, nat_lt}
use Rattle.terms.specs.Quorums.{group_sized}
use Rattle.terms.specs.declared.refusals.Refusal.{Refusal}
use Rattle.terms.specs.declared.refusals.Refusal.TheVariants.{GroupSize, NoSuchSeat}

-- the group's size and the seat's number, checked; or the first of two refusals
abbrev pub seat_checked : ℕ → ℕ → Result (ℕ × ℕ) Refusal
seat_checked size number = if group_sized size then (if nat_lt number size then Ok (size, number) else Err NoSuchSeat) else Err GroupSize
