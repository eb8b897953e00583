-- When the senders in a message are seats of the group.
use Rattle.std.specs.Prelude.{ℕ, Bool, not, List, nat_le}
use Rattle.std.specs.List.{list_any}

-- none of them is n or above
abbrev pub all_seated : ℕ → List ℕ → Bool
all_seated n senders = not (list_any (λ s. nat_le n s) senders)
