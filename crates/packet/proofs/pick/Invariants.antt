-- `packet::pick` meets its contract. The invariant: the octets of the first k bodies, the places of their entries, and how far the entries are gone along. Assumes nothing.
use Prim.Native.Nat.{◌*◌, ◌≤◌}
use mathlib.Core.Path.{◌≡◌}
use lib.ListN.{length}
use Rattle.entries.specs.Kind.{kind_of}
use Rattle.packet.specs.Packet.{packet_frames, bodies_of, group_in}
use Rattle.packet.proofs.Picking.{Reached, Placed}
use Rattle.packet.proofs.pick.Given as goal

abbrev pub invariant-loop-k : goal.invariant-loop-k
invariant-loop-k l =
    (l.size ≤ 255 * l.k) ×
    (l.size ≡ length (bodies_of (packet_frames l.l l.n l.k (group_in (kind_of l.vocoder) l.entries)))) × (length l.places ≡ length l.initial.places) ×
    Placed (kind_of l.vocoder) l.l l.n l.k l.entries l.places × Reached (kind_of l.vocoder) l.l l.n l.k l.entries l.at l.skip
