-- What a call answers that writes a message at the front of a buffer, and the buffer after it.
use Rattle.std.specs.Prelude.{ℕ, ◌+◌, List, length, Option, Some, None, if◌then◌else◌, ◌&&◌, nat_le}
use Rattle.terms.specs.Numbers.{tag_bytes}
use Rattle.xdr.specs.Layout.{pasted}
use Rattle.message.specs.Decoding.{untagged, encode}
use Rattle.message.specs.declared.message.Message.{Message}
use Rattle.drafts.specs.Limits.{within}

-- the whole message, or nothing where it does not fit or a list is too long
abbrev pub written : Message → List ℕ → Option ℕ × List ℕ
written m out = if within m && nat_le (length (encode m)) (length out) then (Some (length (encode m)), pasted out 0 (encode m)) else (None, out)

-- the message without its tag, where the tag has room, too
abbrev pub drafted : Message → List ℕ → Option ℕ × List ℕ
drafted m out = if within m && nat_le (length (untagged m) + tag_bytes) (length out) then (Some (length (untagged m)), pasted out 0 (untagged m)) else (None, out)
