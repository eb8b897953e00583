-- How long PREPAREs and CHECKPOINTs are.
use Rattle.std.proofs.Common.{◌≡◌, ◌-◌, length, refl, arith, length-append}
use Rattle.terms.specs.Numbers.{digest_bytes, tag_bytes, prepare_bytes, checkpoint_bytes}
use Rattle.parts.specs.Encoding.{encode_request, untagged_prepare, encode_prepare, untagged_checkpoint, encode_checkpoint}
use Rattle.parts.specs.Messages.{Prepare, Checkpoint}

pub length-untagged_prepare : (p : Prepare) → length (untagged_prepare p) ≡ prepare_bytes - tag_bytes
unfolding encode_request untagged_prepare
length-untagged_prepare p = refl

pub length-prepare : (p : Prepare) → length p.tag ≡ tag_bytes → length (encode_prepare p) ≡ prepare_bytes
length-prepare p long = omega (arith, long, length-append (untagged_prepare p) p.tag, length-untagged_prepare p)

pub length-checkpoint : (c : Checkpoint) → length c.digest ≡ digest_bytes → length c.tag ≡ tag_bytes → length (encode_checkpoint c) ≡ checkpoint_bytes
unfolding untagged_checkpoint
length-checkpoint c digest tag = omega (arith, length-append c.digest c.tag)
