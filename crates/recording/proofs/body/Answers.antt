-- `recording::body` meets its contract: what a recording gives lies in it. Assumes nothing.
use Rattle.frame.proofs.PlacesLaws.{very-body}
use Rattle.recording.proofs.Answering.{laid_in}
use Rattle.recording.proofs.body.Goals as goal

pub returns : goal.returns
returns c = very-body _ _ _ _ _ (laid_in _ _) c.locate.ensures c.part.ensures
