-- Unsigned ints, unsigned hypers and counts are exact.
use Rattle.std.proofs.Common.{arith}
use Rattle.xdr.specs.Laws.{IntsExact, HypersExact, CountsExact}

pub ints_exact : IntsExact
ints_exact = grind arith

pub hypers_exact : HypersExact
hypers_exact = grind arith

-- an unsigned int with a limit
pub counts_exact : CountsExact
counts_exact most small = grind arith
