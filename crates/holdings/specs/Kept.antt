-- What a replica holds, as plain values.
use Rattle.std.specs.Prelude.{ℕ, ◌==◌, if◌then◌else◌, List, map}
use Rattle.drafts.specs.Says.{kept_prepare}
use Rattle.protocol.specs.Replicas as rules
use Rattle.protocol.specs.Standing.{with_vote}
use Rattle.holdings.specs.declared.entries.Entry.{Entry}
use Rattle.holdings.specs.declared.noted.Noted.{Noted}

-- an entry of the record
abbrev pub kept_entry : Entry → rules.Entry
kept_entry e = record { proposal = kept_prepare e.proposal; votes = e.votes }

abbrev pub kept_entries : List Entry → List rules.Entry
kept_entries entries = map kept_entry entries

-- an entry with one more vote, if that is for its order
abbrev pub voted : ℕ → ℕ → Entry → Entry
voted seat order e = if e.proposal.draft.order.0 == order then record { proposal = e.proposal; votes = with_vote seat e.votes } else e

-- an accepted view
abbrev pub kept_note : Noted → rules.Noted
kept_note k = record { view = k.view.0; low = k.low.0; top = k.top.0 }
