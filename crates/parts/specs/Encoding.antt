-- The types of the five messages, and the bytes of those that hold no others.
use Rattle.std.specs.Prelude.{◌≡◌, ℕ, List, ◌++◌, length}
use Rattle.terms.specs.Numbers.{tag_bytes}
use Rattle.terms.specs.declared.requests.Request.{Request}
use Rattle.xdr.specs.Layout.{int, fixed}
use Rattle.parts.specs.Messages.{Prepare, Commit, Checkpoint}

-- the types of messages
abbrev pub prepare_type : ℕ
prepare_type = 1

abbrev pub commit_type : ℕ
commit_type = 2

abbrev pub checkpoint_type : ℕ
checkpoint_type = 3

abbrev pub view_change_type : ℕ
view_change_type = 4

abbrev pub new_view_type : ℕ
new_view_type = 5

-- a request: five unsigned ints
unfoldable pub encode_request : Request → List ℕ
encode_request r = int r.client ++ int r.sequence ++ int r.code ++ int r.key ++ int r.value

-- bytes are a message without its tag, and the tag
abbrev pub TaggedBytes : List ℕ → List ℕ → List ℕ → Type 0
TaggedBytes bytes body tag = (bytes ≡ body ++ fixed tag) × (length tag ≡ tag_bytes)

-- each message without its tag, and whole
unfoldable pub untagged_prepare : Prepare → List ℕ
untagged_prepare p = int prepare_type ++ int p.view ++ int p.order ++ encode_request p.request

abbrev pub encode_prepare : Prepare → List ℕ
encode_prepare p = untagged_prepare p ++ fixed p.tag

unfoldable pub untagged_commit : Commit → List ℕ
untagged_commit c = int commit_type ++ int c.sender ++ int c.view ++ int c.order ++ encode_request c.request

abbrev pub encode_commit : Commit → List ℕ
encode_commit c = untagged_commit c ++ fixed c.tag

unfoldable pub untagged_checkpoint : Checkpoint → List ℕ
untagged_checkpoint c = int checkpoint_type ++ int c.sender ++ int c.order ++ fixed c.digest

abbrev pub encode_checkpoint : Checkpoint → List ℕ
encode_checkpoint c = untagged_checkpoint c ++ fixed c.tag
