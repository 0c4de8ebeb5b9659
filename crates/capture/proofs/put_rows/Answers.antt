-- `capture::put_rows` meets its contract.
use Rattle.std.proofs.Common.{arith, length-drop}
use Rattle.octets.proofs.OctetsLaws.{put-tail, to_the_end}
use Rattle.frame.specs.Shape.{shape_of}
use Rattle.capture.proofs.InPlace.{no-room-at, no-room-behind}
use Rattle.capture.proofs.put_rows.Goals as goal
use Rattle.capture.proofs.put_rows.Goals.{else-at-out-via-then-at-out+else-size-out, else-at-out-via-else-at-out}

pub pour_rows-requires : goal.pour_rows-requires
unfolding shape_of
pour_rows-requires c =
    let tail = to_the_end c.args.out.now c.args.at in
    (c.requires.0, c.requires.1, c.requires.2, rw tail (omega (arith, c.requires.3, length-drop c.args.at c.args.out.now)))

pub returns-then-size-out : goal.returns-then-size-out
unfolding shape_of
returns-then-size-out c = λ h. put-tail _ _ _ _ c.if-at-out.true c.pour_rows.ensures

pub returns-else-at-out : goal.returns-else-at-out
returns-else-at-out c = elim c.else-at-out.branch [
  | else-at-out-via-then-at-out+else-size-out w ↦
      no-room-behind _ _ _ _ _ c.requires.0.1 c.requires.1 c.requires.2 c.requires.3 _ _ w.if-at-out.true w.if-size-out.false
  | else-at-out-via-else-at-out w ↦ no-room-at _ _ _ _ _ c.requires.0.1 c.requires.1 c.requires.2 c.requires.3 _ _ w.if-at-out.false
]
