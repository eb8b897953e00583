-- What follows from a group's size.
use Rattle.std.specs.Prelude.{◌≡◌, ℕ, ◌+◌, ◌-◌, ◌*◌, ◌/◌, ◌%◌, ◌<◌, Bool, true, false, ◌&&◌, nat_le}
use Rattle.terms.specs.Numbers.{smallest_group, largest_group}

-- n seats make a group
abbrev pub group_sized : ℕ → Bool
group_sized n = nat_le smallest_group n && nat_le n largest_group

-- so many seats speak for the group
abbrev pub quorum_of : ℕ → ℕ
quorum_of n = n / 2 + 1

-- so many seats may lie
abbrev pub fault_limit : ℕ → ℕ
fault_limit n = (n - 1) / 2

-- the seat that leads a view
abbrev pub leader_of : ℕ → ℕ → ℕ
leader_of n view = view % n

-- two quorums have a seat in common, whatever the size
abbrev pub QuorumsMeet : Type 0
QuorumsMeet = (n : ℕ) → n < 2 * quorum_of n

-- a quorum has a seat that does not lie, whatever the size
abbrev pub FaultsBelowQuorum : Type 0
FaultsBelowQuorum = (n : ℕ) → fault_limit n < quorum_of n

-- the groups that there are, in figures
abbrev pub SizesInFigures : Type 0
SizesInFigures =
    ((quorum_of 3 ≡ 2) × (quorum_of 4 ≡ 3) × (quorum_of 5 ≡ 3))
    × ((fault_limit 3 ≡ 1) × (fault_limit 4 ≡ 1) × (fault_limit 5 ≡ 2))
    × ((group_sized 2 ≡ false) × (group_sized 3 ≡ true) × (group_sized 5 ≡ true) × (group_sized 6 ≡ false))
