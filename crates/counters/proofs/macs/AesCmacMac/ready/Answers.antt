-- The key's own tags have 16 bytes.
use Rattle.std.proofs.Common.{length, ap, ◌∙◌}
use Rattle.counters.specs.Lengths.{cmac-length}
use Rattle.counters.proofs.macs.AesCmacMac.ready.Goals as goal

pub invariant_of-result : goal.invariant_of-result
invariant_of-result c = record { half = λ bytes. ap length (c.new.ensures bytes) ∙ cmac-length _ bytes }
