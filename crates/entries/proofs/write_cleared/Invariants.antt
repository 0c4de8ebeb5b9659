-- `entries::write_cleared` meets its contract. The invariant: the first i octets stand in out from `at` on, and what is left of them is
-- what the rest clears to, behind `left` octets of a body. Assumes nothing.
use mathlib.Core.Path.{◌≡◌}
use lib.Seq.{paste}
use lib.ListN.{drop}
use Rattle.entries.specs.Kind.{kind_of}
use Rattle.entries.specs.Entries.{cleared}
use Rattle.entries.proofs.write_cleared.Given as goal

abbrev pub invariant-loop-i : goal.invariant-loop-i
invariant-loop-i l = (l.out ≡ paste l.initial.out l.at (cleared (kind_of l.vocoder) 0 l.entries) l.i) ×
    (drop l.i (cleared (kind_of l.vocoder) 0 l.entries) ≡ cleared (kind_of l.vocoder) l.left (drop l.i l.entries))
