-- When a NEW-VIEW is founded on its VIEW-CHANGEs, and what it brings then.
use Rattle.std.specs.Prelude.{ℕ, Bool, ◌&&◌, ◌==◌, if◌then◌else◌, List, length, map, Option, Some, None}
use Rattle.std.specs.List.{list_all}
use Rattle.terms.specs.Quorums.{quorum_of}
use Rattle.terms.specs.declared.pairs.Order.{Order}
use Rattle.arrayvec.specs.ArrayVec.{ArrayVec}
use Rattle.parts.specs.Messages.{Prepare}
use Rattle.message.specs.Messages.{NewView}
use Rattle.drafts.specs.Says.{kept_prepare}
use Rattle.drafts.specs.declared.prepare.PrepareDraft.{PrepareDraft}
use Rattle.drafts.specs.declared.tagged.Tagged.{Tagged}
use Rattle.protocol.specs.Again.{proposed_again}
use Rattle.protocol.specs.Changes.{ascend, low_of}
use Rattle.protocol.specs.Take.{same_proposals}

-- in a group of n: a quorum of them by ascending seats for its view, and the PREPAREs that open would give for them
abbrev pub founded : ℕ → NewView → Bool
founded n w =
    length w.changes == quorum_of n
    && (ascend 0 (map (λ c. c.sender) w.changes)
    && (list_all (λ c. c.target == w.view) w.changes
    && same_proposals w.prepares (proposed_again w.view w.changes)))

-- its low and its PREPAREs
abbrev pub foundation : ℕ → NewView → Option (ℕ × List Prepare)
foundation n w = if founded n w then Some (low_of w, w.prepares) else None

-- the same as it is kept
abbrev pub kept_foundation : Order × ArrayVec (Tagged PrepareDraft) → ℕ × List Prepare
kept_foundation f = (f.0.0, map kept_prepare f.1.items)
