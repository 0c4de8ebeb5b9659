-- `lending::lay_holding` meets its contract.
use borrow.Author.Rules.{rules}
use Rattle.frame.specs.Shape.{holding_shape}
use Rattle.holding.specs.Group.{Shaped}
use Rattle.lending.proofs.LaidLaws.{all-of-holding}
use Rattle.lending.proofs.lay_holding.Goals as goal

pub returns : goal.returns
returns c = let s : Shaped holding_shape c.args.h = search rules in
    all-of-holding _ s _ _ _ c.put_holding.ensures c.fill.ensures
