-- `pouring::pour` meets its contract.
use Rattle.std.proofs.Common.{sym, ◌∙◌}
use Rattle.answers.proofs.OutputsLaws.{writes-refusal}
use Rattle.pouring.proofs.PouringLaws.{pour-none}
use Rattle.pouring.proofs.pour.Goals as goal

pub returns-then-not-holds_packet : goal.returns-then-not-holds_packet
returns-then-not-holds_packet c = writes-refusal _ _ _ (pour-none _ _ (sym c.holds_packet.ensures ∙ c.if-not-holds_packet.true))
