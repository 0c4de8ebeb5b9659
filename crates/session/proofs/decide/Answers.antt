-- `session::decide` meets its contract.
use Rattle.std.proofs.Common.{sym, ◌∙◌}
use Rattle.frame.proofs.FrameTableLaws.{rows-single}
use Rattle.session.proofs.SessionLaws.{index-small}
use Rattle.session.proofs.decide.Goals as goal

pub decide_place-requires : goal.decide_place-requires
decide_place-requires c =
    let read = c.in_ok-read.read in
    index-small _ (rows-single _) _ _ read.l read.n read.b read.d (sym c.in_ok-read.was ∙ c.read.ensures)
