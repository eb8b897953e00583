-- The lists of messages that hold others.
use Rattle.std.proofs.Common.{◌≡◌, ℕ, ◌+◌, ◌-◌, ◌*◌, List, ◌++◌, length, map, refl, ap, arith, length-append}
use Rattle.std.specs.List.{flat_map}
use Rattle.std.proofs.lemmas.List.{length-map}
use Rattle.std.proofs.lemmas.List.Folds.{flat_map-map}
use Rattle.terms.specs.Numbers.{int_bytes, hyper_bytes, tag_bytes, prepare_bytes, checkpoint_bytes, shortest_view_change, shortest_new_view}
use Rattle.xdr.specs.Layout.{int, counted}
use Rattle.xdr.proofs.Listing.{length-counted, length-counted_any}
use Rattle.xdr.proofs.Pasting.{length-pasted}
use Rattle.xdr.proofs.Widths.{every}
use Rattle.xdr.proofs.Writing.{wrote_more}
use Rattle.parts.specs.Encoding.{new_view_type, encode_checkpoint, encode_prepare}
use Rattle.message.specs.Encoding.{encode_view_change, untagged_view_change, untagged_new_view}
use Rattle.drafts.specs.declared.checkpoint.CheckpointDraft.{CheckpointDraft}
use Rattle.drafts.specs.declared.new_view.NewViewDraft.{NewViewDraft}
use Rattle.drafts.specs.declared.prepare.PrepareDraft.{PrepareDraft}
use Rattle.drafts.specs.declared.tagged.Tagged.{Tagged}
use Rattle.drafts.specs.declared.view_change.ViewChangeDraft.{ViewChangeDraft}
use Rattle.drafts.specs.Lengths.{length-prepare, length-checkpoint}
use Rattle.drafts.specs.Says.{kept_prepare, kept_checkpoint, view_change_with, view_change_head, new_view_with, placed}

-- what is kept as one thing and laid out as another
counted_map : {X Y : Type 0} (each : Y → List ℕ) (kept : X → Y) (xs : List X) → counted each (map kept xs) ≡ counted (λ x. each (kept x)) xs
unfolding counted
counted_map each kept xs = rw (length-map xs kept, flat_map-map each kept xs) refl

-- the lists of kept CHECKPOINTs and PREPAREs, and how long they are
abbrev proof_bytes : List (Tagged CheckpointDraft) → List ℕ
proof_bytes xs = counted (λ t. encode_checkpoint (kept_checkpoint t)) xs

abbrev entries_bytes : List (Tagged PrepareDraft) → List ℕ
entries_bytes xs = counted (λ t. encode_prepare (kept_prepare t)) xs

pub length-proof : (xs : List (Tagged CheckpointDraft)) → length (proof_bytes xs) ≡ int_bytes + checkpoint_bytes * length xs
length-proof xs = length-counted _ checkpoint_bytes xs (every _ (λ t. length-checkpoint (kept_checkpoint t) t.draft.whole t.whole) xs)

pub length-entries : (xs : List (Tagged PrepareDraft)) → length (entries_bytes xs) ≡ int_bytes + prepare_bytes * length xs
length-entries xs = length-counted _ prepare_bytes xs (every _ (λ t. length-prepare (kept_prepare t) t.whole) xs)

-- a VIEW-CHANGE's parts, and its length
pub view_change_bytes : (d : ViewChangeDraft) (tag : List ℕ) → untagged_view_change (view_change_with d tag) ≡ view_change_head d ++ proof_bytes d.proof.now ++ entries_bytes d.entries.now
unfolding untagged_view_change
view_change_bytes d tag = rw (counted_map encode_checkpoint kept_checkpoint d.proof.now, counted_map encode_prepare kept_prepare d.entries.now) refl

pub length-view_change : (d : ViewChangeDraft) (tag : List ℕ) → length (untagged_view_change (view_change_with d tag)) ≡ shortest_view_change - tag_bytes + checkpoint_bytes * length d.proof.now + prepare_bytes * length d.entries.now
length-view_change d tag =
    let head : length (view_change_head d) ≡ 5 * int_bytes + hyper_bytes = refl in
    let proof = length-append (view_change_head d) (proof_bytes d.proof.now) in
    let entries = length-append (view_change_head d ++ proof_bytes d.proof.now) (entries_bytes d.entries.now) in
    omega (arith, head, proof, entries, ap length (view_change_bytes d tag), length-proof d.proof.now, length-entries d.entries.now)

-- for what is written of a VIEW-CHANGE
pub ruleset view_changes = (view_change_bytes, length-view_change, length-proof, length-entries, length-map, wrote_more, length-pasted)

-- a NEW-VIEW's parts, and its length
abbrev new_view_head : NewViewDraft → List ℕ
new_view_head d = int new_view_type ++ int d.view.0

pub new_view_bytes : (d : NewViewDraft) (tag : List ℕ) → untagged_new_view (new_view_with d tag) ≡ new_view_head d ++ counted encode_view_change (placed d.changes.now) ++ entries_bytes d.prepares.now
unfolding untagged_new_view
new_view_bytes d tag = rw (counted_map encode_prepare kept_prepare d.prepares.now) refl

pub length-new_view : (d : NewViewDraft) (tag : List ℕ) → length (untagged_new_view (new_view_with d tag)) ≡ shortest_new_view - tag_bytes + length (flat_map encode_view_change (placed d.changes.now)) + prepare_bytes * length d.prepares.now
length-new_view d tag =
    let head : length (new_view_head d) ≡ 2 * int_bytes = refl in
    let changes = length-append (new_view_head d) (counted encode_view_change (placed d.changes.now)) in
    let prepares = length-append (new_view_head d ++ counted encode_view_change (placed d.changes.now)) (entries_bytes d.prepares.now) in
    omega (arith, head, changes, prepares, ap length (new_view_bytes d tag), length-counted_any encode_view_change (placed d.changes.now), length-entries d.prepares.now)

-- for what is written of a NEW-VIEW
pub ruleset new_views = (new_view_bytes, length-new_view, length-counted_any, length-entries, length-map, wrote_more, length-pasted)
