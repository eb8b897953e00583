-- Rows of drafts that are kept with their tags.
use Rattle.std.proofs.Common.{◌≡◌, List, [], ℕ, refl}
use Rattle.xdr.proofs.Pasting.{length-pasted}
use Rattle.xdr.proofs.Writing.{wrote_more}
use Rattle.parts.specs.Encoding.{untagged_prepare}
use Rattle.drafts.specs.declared.prepare.PrepareDraft.{PrepareDraft}
use Rattle.drafts.specs.Says.{prepare_with}
use Rattle.drafts.specs.Lengths.{length-untagged_prepare}

-- the bytes before a tag are the same with every tag
pub prepare_before : (d : PrepareDraft) (tag : List ℕ) → untagged_prepare (prepare_with d tag) ≡ untagged_prepare (prepare_with d [])
unfolding untagged_prepare
prepare_before d tag = refl

-- for a PREPARE and its tag
pub ruleset kept_prepares = (wrote_more, length-pasted, length-untagged_prepare, prepare_before)
