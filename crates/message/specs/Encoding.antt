-- The bytes of the messages that hold others.
use Rattle.std.specs.Prelude.{ℕ, List, ◌++◌}
use Rattle.xdr.specs.Layout.{int, hyper, fixed, counted}
use Rattle.parts.specs.Encoding.{view_change_type, new_view_type, encode_checkpoint, encode_prepare}
use Rattle.message.specs.Messages.{ViewChange, NewView}

-- nested messages stand whole, each with its type and its tag
unfoldable pub untagged_view_change : ViewChange → List ℕ
untagged_view_change c =
    int view_change_type ++ int c.sender ++ int c.target ++ hyper c.previous ++ int c.from ++ int c.low
    ++ counted encode_checkpoint c.proof ++ counted encode_prepare c.entries

abbrev pub encode_view_change : ViewChange → List ℕ
encode_view_change c = untagged_view_change c ++ fixed c.tag

unfoldable pub untagged_new_view : NewView → List ℕ
untagged_new_view n = int new_view_type ++ int n.view ++ counted encode_view_change n.changes ++ counted encode_prepare n.prepares

abbrev pub encode_new_view : NewView → List ℕ
encode_new_view n = untagged_new_view n ++ fixed n.tag
