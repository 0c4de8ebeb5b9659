-- `lending::put_flags` meets its contract. The invariant: the first i flags are laid out, and nothing else has changed.
use mathlib.Core.List.{map}
use mathlib.Core.Path.{◌≡◌}
use lib.Seq.{paste}
use lib.ListN.{length}
use Rattle.lending.specs.Laid.{flag_octet}
use Rattle.lending.proofs.put_flags.Given as goal

abbrev pub invariant-loop-i : goal.invariant-loop-i
invariant-loop-i l = (length l.out ≡ length l.initial.out) × (l.out ≡ paste l.initial.out l.at (map flag_octet l.flags) l.i)
