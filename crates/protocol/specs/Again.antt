-- Which requests are proposed again, and what a replica gathers when it suspects again.
use Rattle.std.specs.Prelude.{ℕ, zero, suc, ◌+◌, if◌then◌else◌, ◌==◌, List, [], ◌∷◌, Option, Some, None, map, find, flat_map}
use Rattle.terms.specs.Numbers.{window}
use Rattle.parts.specs.Messages.{Prepare}
use Rattle.message.specs.Messages.{ViewChange}
use Rattle.protocol.specs.Changes.{highest_from, highest_low}

-- the first PREPARE of an order
abbrev pub prepare_at : ℕ → List Prepare → Option Prepare
prepare_at order ps = find (λ p. p.order == order) ps

abbrev pub before : Option Prepare → List Prepare → List Prepare
before None rest = []
before (Some p) rest = p ∷ rest

-- at most so many PREPAREs, for low + 1 onward without a gap: of each order the first one, up to the first order that
-- has none
abbrev pub in_turn : ℕ → ℕ → List Prepare → List Prepare
in_turn zero low ps = []
in_turn (suc most) low ps = before (prepare_at (low + 1) ps) (in_turn most (low + 1) ps)

-- the entries of one from view, in the order of the VIEW-CHANGEs
abbrev pub entries_from : ℕ → List ViewChange → List Prepare
entries_from from cs = flat_map (λ c. if c.from == from then c.entries else []) cs

-- a request that is proposed again in a view, before it is tagged
abbrev pub moved_to : ℕ → Prepare → Prepare
moved_to view p = record { view = view; order = p.order; request = p.request; tag = [] }

-- what a NEW-VIEW proposes again: the entries of the highest from view among its VIEW-CHANGEs, above their highest low.
-- Where two differ, that of the VIEW-CHANGE that stands first is taken
unfoldable pub proposed_again : ℕ → List ViewChange → List Prepare
proposed_again view cs = map (moved_to view) (in_turn window (highest_low cs) (entries_from (highest_from cs) cs))
