-- `payload::body` meets its contract: what a payload gives lies in it. Assumes nothing.
use Rattle.frame.proofs.PlacesLaws.{very-body}
use Rattle.payload.proofs.Laying.{laid_as}
use Rattle.payload.proofs.body.Goals as goal

pub returns : goal.returns
returns c = very-body _ _ _ _ _ (laid_as _ _ _) c.locate.ensures c.part.ensures
