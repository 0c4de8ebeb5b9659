-- `capture::weigh_packet` meets its contract.
use Rattle.capture.proofs.WeighingLaws.{step-once, later-measures, step-later}
use Rattle.capture.proofs.weigh_packet.Goals as goal

pub weigh-requires : goal.weigh-requires
weigh-requires c = (
  c.requires.0,
  later-measures _ _ _ c.decide_packet-decision.ensures _ c.is_later.ensures _ c.end_group-standing.ensures c.if-is_later.true c.requires.1,
  c.decide_packet-again.ensures,
)

pub returns-then-is_later : goal.returns-then-is_later
returns-then-is_later c =
    step-later _ _ _ c.decide_packet-decision.ensures _ c.is_later.ensures _ c.end_group-standing.ensures c.if-is_later.true _ c.weigh.ensures

pub returns : goal.returns
returns c = step-once _ _ _ c.decide_packet-decision.ensures _ c.is_later.ensures _ c.if-is_later.false c.weigh-2.ensures
