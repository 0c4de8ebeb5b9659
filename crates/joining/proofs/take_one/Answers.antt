-- `joining::take_one` meets its contract.
use Rattle.joining.proofs.JoiningLaws.{one-lost, packet-put}
use Rattle.joining.proofs.take_one.Goals as goal

pub returns-else-from-n : goal.returns-else-from-n
returns-else-from-n c = one-lost _ _ _ _ _ _ _ _ c.if-from-n.false

pub returns-then-from-n : goal.returns-then-from-n
returns-then-from-n c =
    packet-put _ _ _ _ _ _ _ _ _ c.packet_of-p.ensures.0 c.packet_of-p.ensures.1.1 c.if-from-n.true _ _ c.copy.ensures c.copy-then-from-n.ensures
