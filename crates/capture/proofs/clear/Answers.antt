-- `capture::clear` meets its contract.
use Rattle.capture.proofs.InPlace.{all-erased, all-zero}
use Rattle.capture.proofs.clear.Goals as goal

pub returns : goal.returns
returns c =
    (all-erased _ _ c.requires.0 c.fill.ensures, all-zero _ _ c.requires.1 c.fill-2.ensures)
