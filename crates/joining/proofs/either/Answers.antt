-- `joining::either` meets its contract: EVRC's groups have the shape of a holding.
use Rattle.frame.specs.Shape.{holding_shape, shape_of}
use Rattle.joining.proofs.JoiningLaws.{taken-numbered}
use Rattle.joining.proofs.either.Goals as goal

pub returns : goal.returns
unfolding shape_of
returns c =
    let e = c.parts.ensures in
    let taken = c.take_all.ensures in
    taken-numbered holding_shape c.args.a c.args.b _ _ _ (rw (e.0, e.1, e.2) at taken)
