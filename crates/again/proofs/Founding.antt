-- What a NEW-VIEW that is founded brings.
use Rattle.std.proofs.Common.{◌≡◌, ℕ, ◌+◌, ◌≤◌, true, List, [], ◌∷◌, length, refl, ap, ◌∙◌, arith}
use Rattle.std.proofs.lemmas.List.{length-map}
use Rattle.std.proofs.lemmas.Bool.{leb-true, le-leb, and_parts}
use Rattle.terms.specs.Numbers.{window}
use Rattle.parts.specs.Messages.{Prepare}
use Rattle.message.specs.Messages.{NewView, ViewChange}
use Rattle.holdings.specs.Recorded.{ascends}
use Rattle.protocol.specs.Again.{proposed_again}
use Rattle.protocol.specs.Changes.{ascend, highest_low}
use Rattle.protocol.specs.Replicas.{Replica}
use Rattle.protocol.specs.Take.{founded_on, same_proposals}
use Rattle.again.specs.Foundation.{founded}
use Rattle.again.proofs.Orders.{orders, same_orders, proposed_again_few, proposed_again_ascends}

-- what is asked of a NEW-VIEW here is what a replica asks of it
pub founded_as_asked : {St : Type 0} (r : Replica St) (w : NewView) → founded r.size w ≡ founded_on r w
founded_as_asked r w = refl

-- numbers that ascend from a bound on ascend from any below it
pub ascend_below : (a b : ℕ) (ns : List ℕ) → a ≤ b → ascend b ns ≡ true → ascend a ns ≡ true
ascend_below a b [] below up = refl
ascend_below a b (n ∷ ns) below up =
    let parts = and_parts _ _ up in
    rw (le-leb a n (omega (arith, leb-true b n parts.0)), parts.1) refl

module _ (view : ℕ) (ps : List Prepare) (cs : List ViewChange) (same : same_proposals ps (proposed_again view cs) ≡ true) where
  alike : orders ps ≡ orders (proposed_again view cs)
  alike = same_orders ps (proposed_again view cs) same

  pub few_prepares : length ps ≤ window
  few_prepares =
      let lengths : length (orders ps) ≡ length (orders (proposed_again view cs)) = ap length alike in
      omega (arith, lengths, length-map ps (λ (p : Prepare). p.order), length-map (proposed_again view cs) (λ (p : Prepare). p.order), proposed_again_few view cs)

  pub prepares_ascend : ascends 0 ps ≡ true
  prepares_ascend = ascend_below 1 (highest_low cs + 1) (orders ps) (omega arith) (ap (ascend (highest_low cs + 1)) alike ∙ proposed_again_ascends view cs)
