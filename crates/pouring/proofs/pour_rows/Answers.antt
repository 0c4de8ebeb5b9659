-- `pouring::pour_rows` meets its contract. The invariant: the rows before k are written.
use mathlib.Core.Path.{refl, ◌∙◌}
use native.Mathlib.Omega.{arith}
use Rattle.frame.specs.FrameTable.{rows_of}
use Rattle.frame.specs.Shape.{voice_of}
use Rattle.frame.proofs.FrameTableLaws.{rows_fit}
use Rattle.pouring.specs.Pouring.{rows_size}
use Rattle.pouring.proofs.PouringLaws.{rows-size-more, rows-size-grows, rows_more, rows_none}
use Rattle.pouring.proofs.pour_rows.Goals as goal

pub loop-k-init : goal.loop-k-init
unfolding rows_size
loop-k-init c = (refl, refl, rows_none _ _ _ _ _)

pub pour_row-at-requires : goal.pour_row-at-requires
pour_row-at-requires c =
    let g = rows-size-grows (rows_of c.args.vocoder) c.args.cells.marks.now c.args.m c.loop-k.k c.args.b (omega arith) in
    (c.requires.0, c.requires.1, omega (arith, c.requires.2), omega (arith, c.requires.3, c.loop-k.invariant.0, c.loop-k.invariant.1))

pub loop-k-preserved : goal.loop-k-preserved
loop-k-preserved c = (
  c.pour_row-at.auto.out ∙ c.loop-k.invariant.0,
  c.pour_row-at.ensures.0 ∙ rows-size-more _ _ _ _ _ _ c.loop-k.invariant.1 refl,
  rows_more (voice_of c.args.vocoder) (rows_fit c.args.vocoder) _ _ c.requires.0.1 _ _ c.requires.1 (omega (arith, c.requires.2)) _ _ _ _
      c.loop-k.invariant.1 c.loop-k.invariant.2 c.pour_row-at.ensures.1,
)
