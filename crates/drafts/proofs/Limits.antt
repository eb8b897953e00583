-- Drafts whose numbers have their widths are within their limits, and so is what is kept of them in lists.
use Rattle.std.proofs.Common.{◌≤◌, List, [], ◌∷◌, length, map}
use Rattle.std.specs.List.{AllByRecursion}
use Rattle.std.proofs.lemmas.List.{length-map}
use Rattle.terms.specs.Numbers.{largest_quorum, window}
use Rattle.parts.specs.Fits.{PrepareFits, CheckpointFits}
use Rattle.message.specs.Fits.{ViewChangeFits}
use Rattle.message.specs.declared.message.Message.TheVariants.{ViewChange, NewView}
use Rattle.drafts.specs.declared.checkpoint.CheckpointDraft.{CheckpointDraft}
use Rattle.drafts.specs.declared.new_view.NewViewDraft.{NewViewDraft}
use Rattle.drafts.specs.declared.prepare.PrepareDraft.{PrepareDraft}
use Rattle.drafts.specs.declared.tagged.Tagged.{Tagged}
use Rattle.drafts.specs.declared.view_change.ViewChangeDraft.{ViewChangeDraft}
use Rattle.drafts.specs.Laws.{FitsTagged}
use Rattle.drafts.specs.Says.{kept_prepare, kept_checkpoint, view_change_with, new_view_with, placed}

every_kept : {X Y : Type 0} (P : Y → Type 0) (kept : X → Y) → ((x : X) → P (kept x)) → (xs : List X) → AllByRecursion P (map kept xs)
every_kept P kept holds [] = tt
every_kept P kept holds (x ∷ xs) = (holds x, every_kept P kept holds xs)

proof_fits : (xs : List (Tagged CheckpointDraft)) → AllByRecursion CheckpointFits (map kept_checkpoint xs)
proof_fits = every_kept CheckpointFits kept_checkpoint (λ t. (t.draft.narrow.0, t.draft.narrow.1, t.draft.whole, t.whole))

entries_fit : (xs : List (Tagged PrepareDraft)) → AllByRecursion PrepareFits (map kept_prepare xs)
entries_fit = every_kept PrepareFits kept_prepare (λ t. (t.draft.narrow.0, t.draft.narrow.1, t.draft.narrow.2, t.whole))

pub view_change_fits : (d : ViewChangeDraft) → length d.proof.now ≤ largest_quorum → length d.entries.now ≤ window → FitsTagged (λ tag. ViewChange (view_change_with d tag))
unfolding FitsTagged
view_change_fits d proof entries tag whole =
    let n = d.narrow in
    (n.0, n.1, n.2, n.3, n.4, rw (length-map d.proof.now kept_checkpoint) proof, proof_fits d.proof.now, rw (length-map d.entries.now kept_prepare) entries, entries_fit d.entries.now, whole)

pub new_view_fits : (d : NewViewDraft) → length (placed d.changes.now) ≤ largest_quorum → AllByRecursion ViewChangeFits (placed d.changes.now) → length d.prepares.now ≤ window → FitsTagged (λ tag. NewView (new_view_with d tag))
unfolding FitsTagged
new_view_fits d few fit prepares tag whole =
    (d.narrow, few, fit, rw (length-map d.prepares.now kept_prepare) prepares, entries_fit d.prepares.now, whole)
