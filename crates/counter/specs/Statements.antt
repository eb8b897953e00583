-- What a tag is given for, and its bytes.
use Rattle.std.specs.Prelude.{◌≡◌, ℕ, ◌^◌, ◌<◌, List, ◌++◌}
use Rattle.xdr.specs.Layout.{int, hyper}
use Rattle.counter.specs.declared.statements.Statement.{Statement}

-- what a statement says
pub record Stated : Type 0 where
  pub kind : ℕ
  pub seat : ℕ
  -- of which of the seat's counters it speaks
  pub number : ℕ
  pub new : ℕ
  pub old : ℕ
  -- the bytes of a message, without the message's own tag
  pub message : List ℕ

abbrev pub stated : Statement → Stated
stated s = record { kind = s.kind; seat = s.seat; number = s.number; new = s.new; old = s.old; message = s.message.now }

-- three unsigned ints and two unsigned hypers
unfoldable pub head_bytes : Stated → List ℕ
head_bytes s = int s.kind ++ int s.seat ++ int s.number ++ hyper s.new ++ hyper s.old

-- then the message
abbrev pub statement_bytes : Stated → List ℕ
statement_bytes s = head_bytes s ++ s.message

-- numbers of 32 bits, and values of 64
pub record Fits (s : Stated) : Type 0 where
  pub kind_fits : s.kind < 2 ^ 32
  pub seat_fits : s.seat < 2 ^ 32
  pub number_fits : s.number < 2 ^ 32
  pub new_fits : s.new < 2 ^ 64
  pub old_fits : s.old < 2 ^ 64

-- no two statements have the same bytes
abbrev pub StatementsApart : Type 0
StatementsApart = (s t : Stated) → Fits s → Fits t → statement_bytes s ≡ statement_bytes t → s ≡ t
