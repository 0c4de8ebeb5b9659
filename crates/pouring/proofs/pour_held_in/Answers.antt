-- `pouring::pour_held_in` meets its contract: EVRC's groups have the shape of a holding.
use Prim.Native.Nat.{◌+◌}
use mathlib.Core.Path.{refl, sym, ◌∙◌}
use native.Mathlib.Omega.{arith}
use Rattle.answers.proofs.OutputsLaws.{writes-no-room, writes-octets}
use Rattle.frame.specs.declared.Vocoder.TheVariants.{Evrc}
use Rattle.frame.specs.FrameTable.{rows_of}
use Rattle.frame.specs.Shape.{shape_of, voice_with}
use Rattle.frame.proofs.FrameTableLaws.{rows-within}
use Rattle.pouring.proofs.PouringLaws.{length-rows}
use Rattle.pouring.proofs.pour_held_in.Goals as goal

pub pour_size-size-requires : goal.pour_size-size-requires
unfolding shape_of
pour_size-size-requires c =
    (c.requires.0.0, omega (arith, c.requires.1), c.requires.2)

pub returns-then-out-size : goal.returns-then-out-size
returns-then-out-size c =
    let e = length-rows (voice_with (rows_of Evrc)) (rows-within Evrc) c.args.cells.marks.now c.args.cells.room.now c.requires.0.1 (c.args.numbers.l + 1)
    c.args.numbers.b (omega (arith, c.requires.1)) c.requires.2 in
    writes-no-room _ _ _ refl (omega (arith, c.pour_size-size.ensures.0, c.if-out-size.true))

pub pour_rows-requires : goal.pour_rows-requires
unfolding shape_of
pour_rows-requires c =
    (c.requires.0, omega (arith, c.requires.1), c.requires.2, omega (arith, c.pour_size-size.ensures.0))

pub returns : goal.returns
unfolding shape_of
returns c =
    let e = length-rows (voice_with (rows_of Evrc)) (rows-within Evrc) c.args.cells.marks.now c.args.cells.room.now c.requires.0.1 (c.args.numbers.l + 1)
    c.args.numbers.b (omega (arith, c.requires.1)) c.requires.2 in
    writes-octets _ _ _ _ _ refl (omega (arith, c.pour_size-size.ensures.0, c.if-out-size.false)) (c.pour_size-size.ensures.0 ∙ sym e) c.pour_rows.ensures
