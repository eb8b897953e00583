-- Requests, PREPAREs, COMMITs and CHECKPOINTs whose numbers and tags have their widths.
use Rattle.std.specs.Prelude.{◌≡◌, ℕ, ◌^◌, ◌<◌, List, length}
use Rattle.terms.specs.Numbers.{digest_bytes, tag_bytes}
use Rattle.terms.specs.declared.requests.Request.{Request}
use Rattle.parts.specs.Encoding.{TaggedBytes, untagged_prepare, untagged_commit, untagged_checkpoint}
use Rattle.parts.specs.Messages.{Prepare, Commit, Checkpoint}

-- numbers of 32 bits
abbrev pub IsInt : ℕ → Type 0
IsInt n = n < 2 ^ 32

abbrev pub RequestFits : Request → Type 0
RequestFits r = IsInt r.client × IsInt r.sequence × IsInt r.code × IsInt r.key × IsInt r.value

abbrev pub PrepareFits : Prepare → Type 0
PrepareFits p = IsInt p.view × IsInt p.order × RequestFits p.request × (length p.tag ≡ tag_bytes)

abbrev pub CommitFits : Commit → Type 0
CommitFits c = IsInt c.sender × IsInt c.view × IsInt c.order × RequestFits c.request × (length c.tag ≡ tag_bytes)

abbrev pub CheckpointFits : Checkpoint → Type 0
CheckpointFits c = IsInt c.sender × IsInt c.order × (length c.digest ≡ digest_bytes) × (length c.tag ≡ tag_bytes)

-- bytes are those of a message that fits
unfoldable pub PrepareStands : List ℕ → Prepare → Type 0
PrepareStands bytes p = TaggedBytes bytes (untagged_prepare p) p.tag × PrepareFits p

unfoldable pub CommitStands : List ℕ → Commit → Type 0
CommitStands bytes c = TaggedBytes bytes (untagged_commit c) c.tag × CommitFits c

unfoldable pub CheckpointStands : List ℕ → Checkpoint → Type 0
CheckpointStands bytes c = TaggedBytes bytes (untagged_checkpoint c) c.tag × CheckpointFits c
