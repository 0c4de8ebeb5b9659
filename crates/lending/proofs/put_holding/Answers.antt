-- `lending::put_holding` meets its contract.
use native.Mathlib.Omega.{arith}
use borrow.Author.Rules.{rules}
use Rattle.frame.specs.Shape.{holding_shape}
use Rattle.holding.specs.Group.{Shaped}
use Rattle.lending.proofs.LaidLaws.{holding-laid}
use Rattle.lending.proofs.put_holding.Goals as goal

pub returns : goal.returns
returns c = let x : Shaped holding_shape c.args.h = record
    { long_held = search rules; long_marks = search rules; long_room = search rules } in
    holding-laid c.args.h c.args.out.now c.args.at (omega (arith, c.requires)) x _ _ (c.put_group.ensures c.args.h.room) c.copy.ensures
