-- `holding::packet_of` meets its contract.
use Prim.Native.Nat.{ℕ, ◌*◌}
use mathlib.Core.Path.{ap, ◌∙◌}
use native.Mathlib.Omega.{arith}
use Rattle.octets.proofs.Regions.{cut_at, length_cut}
use Rattle.frame.specs.Shape.{shape_of}
use Rattle.bundle.specs.Bundles.{bundle_in}
use Rattle.holding.proofs.GroupLaws.{packet-in, packet-cut}
use Rattle.holding.proofs.packet_of.Goals as goal

pub returns : goal.returns
returns c =
    let g = c.args.cells in
    let s = ap (λ (i : ℕ). i * 10) c.cell_of-octets.ensures in
    let i = packet-in c.args.vocoder _ c.args.n _ c.cell_of-octets.ensures c.requires.0 c.requires.1.1 in
    let ten = length_cut g.marks.now 10 c.args.n (omega (arith, c.requires.0, c.requires.1.0)) in (
      ap (λ (i : ℕ). bundle_in (cut_at g.marks.now 10 c.args.n) (cut_at g.room.now i c.args.n)) s ∙ packet-cut (shape_of c.args.vocoder) g.marks.now g.room.now c.args.n,
      (ten, length_cut g.room.now _ c.args.n i.0 ∙ s),
    )
