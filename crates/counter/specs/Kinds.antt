-- The kinds of certificates and their numbers.
use Rattle.std.specs.Prelude.{ℕ}
use Rattle.counter.specs.declared.kinds.Kind.{Kind}
use Rattle.counter.specs.declared.kinds.Kind.TheVariants.{Continuing, Independent}

abbrev pub kind_number : Kind → ℕ
kind_number Continuing = 1
kind_number Independent = 2
