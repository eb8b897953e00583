-- Which messages are within the limits of their lists, and the length of those.
use Rattle.std.specs.Prelude.{ℕ, Bool, true, length, Option, Some, None, if◌then◌else◌, ◌&&◌, nat_le}
use Rattle.terms.specs.Numbers.{largest_quorum, window}
use Rattle.message.specs.Decoding.{untagged}
use Rattle.message.specs.declared.message.Message.{Message}
use Rattle.message.specs.declared.message.Message.TheVariants.{Prepare, Commit, Checkpoint, ViewChange, NewView}

-- no list is longer than it may be
abbrev pub within : Message → Bool
within (Prepare p) = true
within (Commit c) = true
within (Checkpoint c) = true
within (ViewChange c) = nat_le (length c.proof) largest_quorum && nat_le (length c.entries) window
within (NewView n) = nat_le (length n.changes) largest_quorum && nat_le (length n.prepares) window

-- the bytes without a tag, where the lists are within their limits
abbrev pub drafted_len : Message → Option ℕ
drafted_len m = if within m then Some (length (untagged m)) else None
