-- What a VIEW-CHANGE or a NEW-VIEW says of itself, and when a VIEW-CHANGE is complete.
use Rattle.std.specs.Prelude.{ℕ, ◌+◌, ◌%◌, max, Bool, true, not, if◌then◌else◌, ◌&&◌, ◌||◌, ◌==◌, List, [], ◌∷◌, length, map, nat_le, nat_lt, bytes_eq}
use Rattle.std.specs.List.{list_all}
use Rattle.terms.specs.Numbers.{checkpoint_interval}
use Rattle.terms.specs.Pairs.{paired, view_part, order_part}
use Rattle.terms.specs.Quorums.{quorum_of}
use Rattle.parts.specs.Messages.{Prepare, Checkpoint}
use Rattle.message.specs.Messages.{ViewChange, NewView}

-- the order of the last PREPARE, or low if there is none
abbrev pub last_order : ℕ → List Prepare → ℕ
last_order low [] = low
last_order low (p ∷ ps) = last_order p.order ps

-- the last of a VIEW-CHANGE
abbrev pub last_of : ViewChange → ℕ
last_of c = last_order c.low c.entries

abbrev pub highest : (ViewChange → ℕ) → List ViewChange → ℕ
highest f [] = 0
highest f (c ∷ cs) = max (f c) (highest f cs)

-- the low of a NEW-VIEW is the highest low of its VIEW-CHANGEs; its top is its last PREPARE's order, or its low
abbrev pub highest_low : List ViewChange → ℕ
highest_low cs = highest (λ c. c.low) cs

abbrev pub highest_from : List ViewChange → ℕ
highest_from cs = highest (λ c. c.from) cs

abbrev pub low_of : NewView → ℕ
low_of w = highest_low w.changes

abbrev pub top_of : NewView → ℕ
top_of w = last_order (low_of w) w.prepares

-- PREPAREs of a view for low + 1 onward
abbrev pub follow : ℕ → ℕ → List Prepare → Bool
follow view low [] = true
follow view low (p ∷ ps) = p.view == view && (p.order == low + 1 && follow view (low + 1) ps)

-- numbers that ascend, from a bound on
abbrev pub ascend : ℕ → List ℕ → Bool
ascend bound [] = true
ascend bound (s ∷ ss) = nat_le bound s && ascend (s + 1) ss

-- CHECKPOINTs of one order with one digest
abbrev pub agrees : Checkpoint → Checkpoint → Bool
agrees c d = c.order == d.order && bytes_eq c.digest d.digest

abbrev pub one_digest : List Checkpoint → Bool
one_digest [] = true
one_digest (c ∷ cs) = list_all (λ d. bytes_eq c.digest d.digest) cs

-- CHECKPOINTs prove a low mark: none for 0, otherwise a quorum of that order with one digest and ascending senders
abbrev pub proves : ℕ → ℕ → List Checkpoint → Bool
proves n low proof =
    if low == 0 then length proof == 0 else
    (length proof == quorum_of n
    && (list_all (λ c. c.order == low) proof
    && (one_digest proof && ascend 0 (map (λ c. c.sender) proof))))

-- a vote that the previous value shows is not left out: writing it [v|a] with a above 0, the entries are of v or a later
-- view, and if they are of v they reach a
abbrev pub shows_votes : ViewChange → Bool
shows_votes c =
    order_part c.previous == 0
    || (nat_le (view_part c.previous) c.from && (not (c.from == view_part c.previous) || nat_le (order_part c.previous) (last_of c)))

-- a VIEW-CHANGE is complete in a group of n
abbrev pub complete : ℕ → ViewChange → Bool
complete n c =
    nat_lt c.previous (paired c.target 0)
    && (nat_lt c.from c.target
    && (c.low % checkpoint_interval == 0
    && (proves n c.low c.proof
    && (follow c.from c.low c.entries && shows_votes c))))
