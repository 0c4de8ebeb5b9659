-- `capture::pour_group` meets its contract.
use Rattle.std.proofs.Common.{arith}
use Rattle.frame.specs.Shape.{shape_of}
use Rattle.capture.proofs.RunLaws.{does-nothing}
use Rattle.capture.proofs.InPlace.{held-sound, pours-nothing, pours-rows}
use Rattle.capture.proofs.pour_group.Goals as goal

pub returns-then-numbers-eq0 : goal.returns-then-numbers-eq0
returns-then-numbers-eq0 c = does-nothing _ _ _ _ (pours-nothing _ _ _ c.requires.0 c.if-numbers-eq0.true)

pub pour_size-size-requires : goal.pour_size-size-requires
unfolding shape_of
pour_size-size-requires c =
    let s = held-sound _ _ _ c.requires.0 c.if-numbers-eq0.false in
    (c.requires.0.spans.long_marks, omega (arith, s.low), s.few)

pub put_rows-requires : goal.put_rows-requires
put_rows-requires c =
    let s = held-sound _ _ _ c.requires.0 c.if-numbers-eq0.false in
    ((c.requires.0.spans.long_marks, c.requires.0.spans.long_room), omega (arith, s.low), s.few, c.pour_size-size.ensures.0)

pub returns : goal.returns
unfolding shape_of
returns c =
    pours-rows _ _ _ c.requires.0 c.if-numbers-eq0.false _ _ _ _ _ _ _ c.end_group-going.ensures c.clear.ensures.0 c.clear.ensures.1
    c.pour_size-size.ensures.0 c.put_rows.ensures
