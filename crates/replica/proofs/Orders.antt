-- VIEW-CHANGEs that are held, and NEW-VIEWs that are accepted.
use Rattle.std.proofs.Common.{◌≡◌, ℕ, ◌-◌, ◌≤◌, List, [], ◌∷◌, length, map, slice_get, Some, None, Option, Bool, true, false, if◌then◌else◌, refl, ap}
use native.Mathlib.Numerals.{unary_clauses}
use Rattle.terms.specs.Numbers.{longest_view_change}
use Rattle.drafts.specs.Says.{kept_prepare}
use Rattle.drafts.specs.declared.prepare.PrepareDraft.{PrepareDraft}
use Rattle.drafts.specs.declared.tagged.Tagged.{Tagged}
use Rattle.message.specs.Decoding.{decode}
use Rattle.message.specs.Encoding.{encode_view_change}
use Rattle.message.specs.Fits.{ViewChangeFits}
use Rattle.message.specs.Messages.{ViewChange as Change, NewView}
use Rattle.message.specs.declared.message.Message.TheVariants.{ViewChange}
use Rattle.message.proofs.Decoding.{messages_exact}
use Rattle.message.proofs.Sizes.{message_sizes}
use Rattle.again.specs.Foundation.{founded, foundation}
use Rattle.holdings.specs.Changes.{change_of}
use Rattle.parts.specs.Messages.{Prepare}
use Rattle.protocol.specs.Take.{founded_on}
use Rattle.protocol.specs.Accept.{accepted}
use Rattle.protocol.specs.Changes.{last_order, low_of}
use Rattle.protocol.specs.Replicas.{Replica}
use Rattle.replica.specs.Standings.{accepted_with}

-- a VIEW-CHANGE that was read is no longer than the longest, and is held as itself
pub short_enough : (c : Change) → ViewChangeFits c → length (encode_view_change c) ≤ longest_view_change
short_enough c fits = message_sizes.no_longer_change c fits

pub holds_back : (c : Change) → ViewChangeFits c → change_of (decode (encode_view_change c)) ≡ Some c
holds_back c fits = ap change_of (messages_exact.back (ViewChange c) fits)

-- a NEW-VIEW is accepted by its view, its low and its PREPAREs
pub accepted_so : {St : Type 0} (r : Replica St) (w : NewView) → accepted_with r w.view (low_of w) w.prepares ≡ accepted r w
unfolding accepted
accepted_so r w = refl

-- the last of some is the last in their list
pub last_is : (low : ℕ) (items : List (Tagged PrepareDraft)) (t : Tagged PrepareDraft) → slice_get items (length items - 1) ≡ Some t → last_order low (map kept_prepare items) ≡ t.draft.order.0
last_is low [] t last = cc
last_is low (x ∷ []) t last = ap (λ (found : Option (Tagged PrepareDraft)). elim found [ None ↦ 0 | Some y ↦ y.draft.order.0 ]) last
last_is low (x ∷ y ∷ items) t last = last_is x.draft.order.0 (y ∷ items) t (simp unary_clauses (simp unary_clauses at last))

-- what a NEW-VIEW that is founded brings
founded_so : {St : Type 0} (r : Replica St) (w : NewView) (low : ℕ) (ps : List Prepare) (sure : Bool) → founded r.size w ≡ sure → ◌≡◌ {A = Option (ℕ × List Prepare)} (Some (low, ps)) (if sure then Some (low_of w, w.prepares) else None) → (founded_on r w ≡ true) × (low ≡ low_of w) × (ps ≡ w.prepares)
founded_so r w low ps true is e = (is, ap (λ (f : Option (ℕ × List Prepare)). elim f [ None ↦ 0 | Some x ↦ x.0 ]) e, ap (λ (f : Option (ℕ × List Prepare)). elim f [ None ↦ [] | Some x ↦ x.1 ]) e)
founded_so r w low ps false is e = cc

pub founded_told : {St : Type 0} (r : Replica St) (w : NewView) (low : ℕ) (ps : List Prepare) → ◌≡◌ {A = Option (ℕ × List Prepare)} (Some (low, ps)) (foundation r.size w) → founded_on r w ≡ true
founded_told r w low ps e = (founded_so r w low ps (founded r.size w) refl e).0

pub accepted_told : {St : Type 0} (r : Replica St) (w : NewView) (low : ℕ) (ps : List Prepare) → ◌≡◌ {A = Option (ℕ × List Prepare)} (Some (low, ps)) (foundation r.size w) → accepted_with r w.view low ps ≡ accepted r w
accepted_told r w low ps e =
    let told = founded_so r w low ps (founded r.size w) refl e in
    rw (told.1, told.2) (accepted_so r w)
