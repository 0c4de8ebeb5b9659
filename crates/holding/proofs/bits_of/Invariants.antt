-- `holding::bits_of` meets its contract. The invariant: bits is the number of the flags from n on.
use mathlib.Core.Path.{◌≡◌}
use lib.ListN.{drop}
use Rattle.holding.specs.Asked.{bits_of}
use Rattle.holding.proofs.bits_of.Given as goal

abbrev pub invariant-loop-n : goal.invariant-loop-n
invariant-loop-n l = l.bits ≡ bits_of (drop l.n l.set)
