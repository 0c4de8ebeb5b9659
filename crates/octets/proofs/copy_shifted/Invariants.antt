-- `octets::copy_shifted` meets its contract. The invariant: the first i octets of src, shifted, stand in dst from `at` on, and nothing else has changed.
use Rattle.std.proofs.Common.{◌≡◌, map}
use lib.Seq.{paste}
use Rattle.octets.specs.Octets.{shifted}
use Rattle.octets.proofs.copy_shifted.Given as goal

abbrev pub invariant-loop-i : goal.invariant-loop-i
invariant-loop-i l = l.dst ≡ paste l.initial.dst l.at (map (shifted l.by) l.src) l.i
