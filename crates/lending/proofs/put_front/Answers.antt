-- `lending::put_front` meets its contract.
use Rattle.lending.proofs.PartsLaws.{front-laid}
use Rattle.lending.proofs.put_front.Goals as goal

pub returns : goal.returns
returns c rs =
    front-laid _ _ _ _ (c.put_head.ensures _ rs) (c.put_group.ensures rs)
