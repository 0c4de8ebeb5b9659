-- `capture::record` meets its contract.
use Rattle.std.proofs.Common.{sym, ◌∙◌}
use borrow.Author.Tests.{leb-true}
use Rattle.capture.proofs.RunLaws.{answer-octets}
use Rattle.capture.proofs.«record».Goals as goal

pub returns : goal.returns
returns c =
    answer-octets _ _ _ (sym c.is_good.ensures ∙ c.if-not-is_good.false) (leb-true _ _ (sym c.fits.ensures ∙ c.if-not-fits.false)) _ _ c.run_capture.ensures.0
    c.run_capture.ensures.1
