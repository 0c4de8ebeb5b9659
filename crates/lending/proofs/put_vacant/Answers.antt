-- `lending::put_vacant` meets its contract.
use borrow.Author.Rules.{rules}
use Rattle.holding.specs.Group.{nothing, begun}
use Rattle.lending.proofs.PartsLaws.{around-laid}
use Rattle.lending.proofs.put_vacant.Goals as goal

pub returns : goal.returns
unfolding nothing begun
returns c =
    around-laid _ _ _ _ (search rules) c.requires _ _ c.fill.ensures c.put_session.ensures
