-- `packet::write_table` meets its contract. The invariant: the first k entries, of the types at their places, stand in out from 1 on. Assumes nothing.
use Prim.Native.Nat.{ℕ}
use mathlib.Core.List.{List}
use mathlib.Core.Path.{ap, ◌∙◌}
use native.Mathlib.Omega.{arith}
use lib.ListN.{length-set}
use Rattle.octets.specs.Octets.{over}
use Rattle.packet.specs.Packet.{toc_of}
use Rattle.packet.proofs.Packing.{more-stored, last_stored, all-stored}
use Rattle.packet.proofs.Picking.{types-placed}
use Rattle.packet.proofs.write_table.Goals as goal
use Rattle.packet.proofs.write_table.Goals.{then-next-b, else-next-b}

pub loop-k-preserved : goal.loop-k-preserved
loop-k-preserved c =
    elim c.if-next-b.branch [
      | then-next-b w ↦ rw w.out-is (simp length-set c.loop-k.invariant.0, more-stored _ _ _ _ c.args.out.now c.requires.1 _ _ c.loop-k.invariant.1 w.if-next-b.true)
      | else-next-b w ↦ rw w.out-is (simp length-set c.loop-k.invariant.0, last_stored _ _ _ _ c.args.out.now c.requires.1 _ _ c.loop-k.invariant.1 (omega arith))
    ]

pub returns : goal.returns
returns c =
    all-stored _ _ _ _ c.args.out.now c.requires.1 c.loop-k.k _ c.loop-k.invariant.1 (omega arith)
    ∙ ap (λ (ts : List ℕ). over c.args.out.now 1 (toc_of c.args.d ts))
    (types-placed c.args.vocoder c.args.l c.args.n c.args.b c.args.entries.now c.args.places.now c.requires.3)
