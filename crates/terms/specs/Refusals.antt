-- The refusals and their numbers.
use Rattle.std.specs.Prelude.{ℕ}
use Rattle.terms.specs.declared.refusals.Refusal.{Refusal}
use Rattle.terms.specs.declared.refusals.Refusal.TheVariants.{GroupSize, NoSuchSeat, OutTooShort, ScratchTooShort, NoMessage, ViewClosed, WrongView, ViewOpen, WrongRole, OwnMessage, NoSuchSender, WrongOrder, BeyondWindow, NumbersExhausted, BadTag, AlreadyHeld, OtherRequest, IncompleteViewChange, LowAhead, HistoryMissing, UnfoundedNewView, NothingToDo, CounterRefuses, NoSuchCounter, ValueNotAllowed}

abbrev pub refusal_number : Refusal → ℕ
refusal_number GroupSize = 1
refusal_number NoSuchSeat = 2
refusal_number OutTooShort = 3
refusal_number ScratchTooShort = 4
refusal_number NoMessage = 5
refusal_number ViewClosed = 6
refusal_number WrongView = 7
refusal_number ViewOpen = 8
refusal_number WrongRole = 9
refusal_number OwnMessage = 10
refusal_number NoSuchSender = 11
refusal_number WrongOrder = 12
refusal_number BeyondWindow = 13
refusal_number NumbersExhausted = 14
refusal_number BadTag = 15
refusal_number AlreadyHeld = 16
refusal_number OtherRequest = 17
refusal_number IncompleteViewChange = 18
refusal_number LowAhead = 19
refusal_number HistoryMissing = 20
refusal_number UnfoundedNewView = 21
refusal_number NothingToDo = 22
refusal_number CounterRefuses = 23
refusal_number NoSuchCounter = 24
refusal_number ValueNotAllowed = 25
