-- A message that was tagged and written.
use Rattle.std.proofs.Common.{◌≡◌, ℕ, ◌+◌, ◌-◌, ◌≤◌, List, [], length, take, drop, Some, refl, ap, arith}
use Rattle.std.proofs.lemmas.List.{take_at, length-take}
use Rattle.terms.specs.Numbers.{tag_bytes, prepare_bytes, longest_view_change, longest_new_view}
use Rattle.message.specs.Laws.{MessageFits}
use Rattle.message.proofs.Sizes.{message_sizes}
use Rattle.parts.specs.Encoding.{untagged_prepare}
use Rattle.parts.specs.Messages.{Prepare as Proposal}
use Rattle.message.specs.Messages.{ViewChange as Change}
use Rattle.drafts.specs.Lengths.{length-untagged_prepare}
use Rattle.xdr.specs.Layout.{pasted}
use Rattle.xdr.proofs.Pasting.{pasted_front, length-pasted}
use Rattle.message.specs.Decoding.{untagged, encode}
use Rattle.message.specs.declared.message.Message.{Message}
use Rattle.message.specs.declared.message.Message.TheVariants.{Prepare, ViewChange}
use Rattle.drafts.specs.Laws.{TagApart, FitsTagged}
use Rattle.drafts.specs.Writing.{written, drafted}
use Rattle.drafts.proofs.Writing.{tag_written}

-- the bytes that are to be tagged
pub front_told : (m : Message) (out mid : List ℕ) (n : ℕ) → (Some n, mid) ≡ drafted m out → take n mid ≡ untagged m
front_told m out mid n e =
    let whole : (n ≡ length (untagged m)) × (mid ≡ pasted out 0 (untagged m)) = grind arith in
    rw (whole.1, whole.0, pasted_front out (untagged m)) (take_at (untagged m) (drop (length (untagged m)) out) (length (untagged m)) refl)

module _ (message : List ℕ → Message) (apart : TagApart message) (tag out mid : List ℕ) (n : ℕ) (long : length tag ≡ tag_bytes) (e : (Some n, mid) ≡ drafted (message []) out) where
  -- how long it is, and where it stands
  pub length_told : n + tag_bytes ≡ length (encode (message tag))
  length_told = let whole = tag_written message apart tag out mid n long e in grind arith

  pub whole_told : pasted mid n tag ≡ pasted out 0 (encode (message tag))
  whole_told = let whole = tag_written message apart tag out mid n long e in grind arith

-- a message that fits stands inside a buffer with room for the longest
module _ (message : List ℕ → Message) (fits : FitsTagged message) (tag : List ℕ) (long : length tag ≡ tag_bytes) where
  fits_tagged : MessageFits (message tag)
  unfolding FitsTagged
  fits_tagged = fits tag long

  pub stands_inside : (out after : List ℕ) (n : ℕ) → longest_new_view ≤ length out → n ≡ length (encode (message tag)) → after ≡ pasted out 0 (encode (message tag)) → n ≤ length after
  stands_inside out after n room e written =
      let longest = message_sizes.no_longer (message tag) fits_tagged in
      omega (arith, longest, room, e, ap length written, length-pasted out 0 (encode (message tag)) (omega (arith, longest, room)))

-- and a VIEW-CHANGE is no longer than one that is held may be
pub short_change : (change : List ℕ → Change) → FitsTagged (λ tag. ViewChange (change tag)) → (tag : List ℕ) → length tag ≡ tag_bytes → (after : List ℕ) (n : ℕ) → n ≡ length (encode (ViewChange (change tag))) → length (take n after) ≤ longest_view_change
short_change change fits tag long after n e =
    let longest = message_sizes.no_longer_change (change tag) (fits_tagged (λ t. ViewChange (change t)) fits tag long) in
    omega (arith, longest, e, length-take n after)

-- how long a PREPARE is before it is tagged
pub bare_prepare : (p : Proposal) → length (untagged_prepare p) ≡ prepare_bytes - tag_bytes
bare_prepare p = length-untagged_prepare p

pub front_prepare : (p : Proposal) (out mid : List ℕ) (n : ℕ) → (Some n, mid) ≡ drafted (Prepare p) out → take n mid ≡ untagged_prepare p
front_prepare p out mid n e = front_told (Prepare p) out mid n e
