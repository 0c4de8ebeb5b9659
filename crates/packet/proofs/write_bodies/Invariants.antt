-- `packet::write_bodies` meets its contract. The invariant: the first k bodies stand in out behind the table of contents. Assumes nothing.
use Prim.Native.Nat.{◌+◌}
use mathlib.Core.Path.{◌≡◌}
use lib.ListN.{length}
use Rattle.entries.specs.Kind.{kind_of}
use Rattle.octets.specs.Octets.{over}
use Rattle.packet.specs.Packet.{packet_frames, bodies_of, group_in}
use Rattle.packet.proofs.write_bodies.Given as goal

abbrev pub invariant-loop-k : goal.invariant-loop-k
invariant-loop-k l = (length l.out ≡ length l.initial.out) × (l.to ≡ 1 + l.b + length (bodies_of (packet_frames l.l l.n l.k (group_in (kind_of l.vocoder) l.entries)))) ×
    (l.out ≡ over l.initial.out (1 + l.b) (bodies_of (packet_frames l.l l.n l.k (group_in (kind_of l.vocoder) l.entries))))
