-- The messages that drafts become with a tag.
use Rattle.std.specs.Prelude.{ℕ, List, [], ◌++◌, Option, Some, None, map, filter_map}
use Rattle.xdr.specs.Layout.{int, hyper}
use Rattle.parts.specs.Encoding.{view_change_type}
use Rattle.parts.specs.Messages.{Prepare, Commit, Checkpoint}
use Rattle.message.specs.Messages.{ViewChange, NewView}
use Rattle.drafts.specs.declared.checkpoint.CheckpointDraft.{CheckpointDraft}
use Rattle.drafts.specs.declared.commit.CommitDraft.{CommitDraft}
use Rattle.drafts.specs.declared.new_view.NewViewDraft.{NewViewDraft}
use Rattle.drafts.specs.declared.prepare.PrepareDraft.{PrepareDraft}
use Rattle.drafts.specs.declared.tagged.Tagged.{Tagged}
use Rattle.drafts.specs.declared.view_change.ViewChangeDraft.{ViewChangeDraft}

-- a PREPARE with a tag
abbrev pub prepare_with : PrepareDraft → List ℕ → Prepare
prepare_with d tag = record { view = d.view.0; order = d.order.0; request = d.request; tag = tag }

-- a COMMIT with a tag
abbrev pub commit_with : CommitDraft → List ℕ → Commit
commit_with d tag = record { sender = d.sender; view = d.view.0; order = d.order.0; request = d.request; tag = tag }

-- a CHECKPOINT with a tag
abbrev pub checkpoint_with : CheckpointDraft → List ℕ → Checkpoint
checkpoint_with d tag = record { sender = d.sender; order = d.order.0; digest = d.digest; tag = tag }

-- a PREPARE with the tag that was kept
abbrev pub kept_prepare : Tagged PrepareDraft → Prepare
kept_prepare t = prepare_with t.draft t.tag

-- a CHECKPOINT with the tag that was kept
abbrev pub kept_checkpoint : Tagged CheckpointDraft → Checkpoint
kept_checkpoint t = checkpoint_with t.draft t.tag

-- a VIEW-CHANGE with a tag
abbrev pub view_change_with : ViewChangeDraft → List ℕ → ViewChange
view_change_with d tag = record { sender = d.sender; target = d.target.0; previous = d.previous; from = d.from.0; low = d.low.0; proof = map kept_checkpoint d.proof.now; entries = map kept_prepare d.entries.now; tag = tag }

-- what stands before its lists
abbrev pub view_change_head : ViewChangeDraft → List ℕ
view_change_head d = int view_change_type ++ int d.sender ++ int d.target.0 ++ hyper d.previous ++ int d.from.0 ++ int d.low.0

-- what stands in places, without the empty ones
abbrev pub placed : {A : Type 0} → List (Option A) → List A
placed places = filter_map (λ place. place) places

-- the bytes of what stands in a place
abbrev pub bytes_at : {A : Type 0} → (A → List ℕ) → Option A → List ℕ
bytes_at each None = []
bytes_at each (Some x) = each x

-- a NEW-VIEW with a tag
abbrev pub new_view_with : NewViewDraft → List ℕ → NewView
new_view_with d tag = record { view = d.view.0; changes = placed d.changes.now; prepares = map kept_prepare d.prepares.now; tag = tag }
