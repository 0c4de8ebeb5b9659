-- `packet::write_table` meets its contract. The invariant: the first k entries, of the types at their places, stand in out from 1 on. Assumes nothing.
use mathlib.Core.Path.{◌≡◌}
use lib.Seq.{paste}
use lib.ListN.{length}
use Rattle.packet.specs.Packet.{toc_of}
use Rattle.packet.proofs.Packing.{types_at}
use Rattle.packet.proofs.write_table.Given as goal

abbrev pub invariant-loop-k : goal.invariant-loop-k
invariant-loop-k l = (length l.out ≡ length l.initial.out) × (l.out ≡ paste l.initial.out 1 (toc_of l.d (types_at l.entries l.places l.b)) l.k)
