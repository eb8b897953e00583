-- The messages that hold others, within their limits.
use Rattle.std.specs.Prelude.{◌≡◌, ℕ, ◌^◌, ◌<◌, ◌≤◌, List, length}
use Rattle.std.specs.List.{AllByRecursion}
use Rattle.terms.specs.Numbers.{largest_quorum, window, tag_bytes}
use Rattle.parts.specs.Encoding.{TaggedBytes}
use Rattle.parts.specs.Fits.{IsInt, PrepareFits, CheckpointFits}
use Rattle.message.specs.Encoding.{untagged_view_change, untagged_new_view}
use Rattle.message.specs.Messages.{ViewChange, NewView}

-- a previous value of 64 bits, and no more than a quorum of CHECKPOINTs and a window of PREPAREs
abbrev pub ViewChangeFits : ViewChange → Type 0
ViewChangeFits c =
    IsInt c.sender × IsInt c.target × (c.previous < 2 ^ 64) × IsInt c.from × IsInt c.low
    × (length c.proof ≤ largest_quorum) × AllByRecursion CheckpointFits c.proof
    × (length c.entries ≤ window) × AllByRecursion PrepareFits c.entries
    × (length c.tag ≡ tag_bytes)

-- no more than a quorum of VIEW-CHANGEs and a window of PREPAREs
abbrev pub NewViewFits : NewView → Type 0
NewViewFits n =
    IsInt n.view
    × (length n.changes ≤ largest_quorum) × AllByRecursion ViewChangeFits n.changes
    × (length n.prepares ≤ window) × AllByRecursion PrepareFits n.prepares
    × (length n.tag ≡ tag_bytes)

-- bytes are those of a message that fits
unfoldable pub ViewChangeStands : List ℕ → ViewChange → Type 0
ViewChangeStands bytes c = TaggedBytes bytes (untagged_view_change c) c.tag × ViewChangeFits c

unfoldable pub NewViewStands : List ℕ → NewView → Type 0
NewViewStands bytes n = TaggedBytes bytes (untagged_new_view n) n.tag × NewViewFits n
