-- What a draft owes: its message takes from a tag nothing but the tag, and with one it is within its limits.
use Rattle.std.specs.Prelude.{◌≡◌, List, [], ℕ, length}
use Rattle.terms.specs.Numbers.{tag_bytes}
use Rattle.message.specs.Decoding.{untagged, tag_of}
use Rattle.message.specs.Laws.{MessageFits}
use Rattle.message.specs.declared.message.Message.{Message}
use Rattle.drafts.specs.Limits.{within}

pub record TagApart (message : List ℕ → Message) : Type 0 where
  -- the bytes before the tag are the same with every tag
  pub bytes : (tag : List ℕ) → untagged (message tag) ≡ untagged (message [])
  -- so are the limits
  pub limits : (tag : List ℕ) → within (message tag) ≡ within (message [])
  -- the tag is the one that was given
  pub last : (tag : List ℕ) → tag_of (message tag) ≡ tag

-- with any tag of the right length it is within its limits
unfoldable pub FitsTagged : (List ℕ → Message) → Type 0
FitsTagged message = (tag : List ℕ) → length tag ≡ tag_bytes → MessageFits (message tag)
