-- Where a status is counted.
use Rattle.std.specs.Prelude.{ℕ, min}

-- statuses 0 to 4 one by one, the others together
abbrev pub row_of : ℕ → ℕ
row_of status = min status 5
