-- A tag behind the bytes that were tagged.
use Rattle.std.proofs.Common.{◌≡◌, ℕ, ◌+◌, ◌≤◌, true, List, [], ◌++◌, length, replicate, take, drop, Some, refl, ap, ◌∙◌, arith, length-append}
use Rattle.std.proofs.lemmas.List.{take_at}
use Rattle.terms.specs.Numbers.{tag_bytes, longest_new_view}
use Rattle.xdr.specs.Layout.{pasted}
use Rattle.xdr.proofs.Pasting.{pasted_front, pasted_more}
use Rattle.message.specs.Decoding.{untagged, encode, decode}
use Rattle.message.specs.Laws.{MessageFits}
use Rattle.message.specs.declared.message.Message.{Message}
use Rattle.message.proofs.Decoding.{messages_exact}
use Rattle.message.proofs.Sizes.{message_sizes}
use Rattle.drafts.specs.Laws.{TagApart, FitsTagged}
use Rattle.drafts.specs.Limits.{within}
use Rattle.drafts.specs.Writing.{written, drafted}

-- what was drafted, where something was
drafted_some : (m : Message) (out mid : List ℕ) (n : ℕ) → (Some n, mid) ≡ drafted m out → (within m ≡ true) × (n ≡ length (untagged m)) × (n + tag_bytes ≤ length out) × (mid ≡ pasted out 0 (untagged m))
drafted_some m out mid n e = grind arith

-- a message that is within the limits and fits
written_some : (m : Message) (out : List ℕ) → within m ≡ true → length (encode m) ≤ length out → written m out ≡ (Some (length (encode m)), pasted out 0 (encode m))
written_some m out limits fits = grind arith

-- what was written reads back
reads_back : (m : Message) (out after : List ℕ) (n : ℕ) → MessageFits m → (Some n, after) ≡ written m out → decode (take n after) ≡ Some m
reads_back m out after n fits e =
    let whole : (n ≡ length (encode m)) × (after ≡ pasted out 0 (encode m)) = grind arith in
    let front : take n after ≡ encode m = rw (whole.1, whole.0, pasted_front out (encode m)) (take_at (encode m) (drop (length (encode m)) out) (length (encode m)) refl) in
    ap decode front ∙ messages_exact.back m fits

-- where the longest message has room, so has any that is within the limits
pub has_room : (message : List ℕ → Message) → TagApart message → FitsTagged message → length (untagged (message [])) + tag_bytes ≤ longest_new_view
unfolding FitsTagged
has_room message apart fits =
    let tag = replicate tag_bytes 0 in
    let bytes : encode (message tag) ≡ untagged (message []) ++ tag = rw (apart.bytes tag, apart.last tag) in
    let longest = message_sizes.no_longer (message tag) (fits tag refl) in
    omega (arith, longest, ap length bytes, length-append (untagged (message [])) tag)

module _ (message : List ℕ → Message) (apart : TagApart message) (tag out mid : List ℕ) (n : ℕ) (long : length tag ≡ tag_bytes) (e : (Some n, mid) ≡ drafted (message []) out) where
  -- the same bytes with the tag behind them
  pub tag_written : (Some (n + tag_bytes), pasted mid n tag) ≡ written (message tag) out
  tag_written =
      let d = drafted_some (message []) out mid n e in
      let bytes : encode (message tag) ≡ untagged (message []) ++ tag = rw (apart.bytes tag, apart.last tag) in
      let number : length (encode (message tag)) ≡ n + tag_bytes = omega (arith, ap length bytes, length-append (untagged (message [])) tag, d.1) in
      let more = pasted_more out 0 (untagged (message [])) tag n (omega (arith, d.1)) (omega (arith, d.2)) in
      let whole = written_some (message tag) out (apart.limits tag ∙ d.0) (omega (arith, d.2)) in
      let same : pasted mid n tag ≡ pasted out 0 (encode (message tag)) = rw (d.3, bytes) more in
      rw (whole, number, same) refl

  -- which read back as the message
  pub tag_reads : FitsTagged message → decode (take (n + tag_bytes) (pasted mid n tag)) ≡ Some (message tag)
  unfolding FitsTagged
  tag_reads fits = reads_back (message tag) out (pasted mid n tag) (n + tag_bytes) (fits tag long) tag_written
