-- `packet::write_interleaved` meets its contract: the limits are opened first. Assumes nothing.
use Rattle.std.proofs.Common.{sym, ◌∙◌}
use Rattle.answers.proofs.OutputsLaws.{writes_as}
use Rattle.packet.proofs.Choosing.{made-within}
use Rattle.packet.proofs.write_interleaved.Goals as goal

pub returns : goal.returns
returns c = writes_as _ _ _ _ _ (made-within _ _ _ _ _ _ _ _ (sym c.open.ensures ∙ c.in_ok-agreed.was) c.if-d-gt1.false) c.write_within.ensures
