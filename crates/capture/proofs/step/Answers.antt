-- `capture::step` meets its contract.
use Rattle.std.proofs.Common.{arith}
use Rattle.session.specs.Standing.{whole}
use Rattle.capture.specs.Capture.{as_heard}
use Rattle.capture.specs.Run.{capture_kind}
use Rattle.capture.proofs.RunLaws.{table_fits, table-erases, step-does, step-answered}
use Rattle.capture.proofs.Largest.{readied-few}
use Rattle.capture.proofs.InPlace.{ready-once, ready-later, stands-poured}
use Rattle.capture.proofs.step.Goals as goal

pub take_packet-requires : goal.take_packet-requires
take_packet-requires c =
    let ready = ready-later _ _ _ c.requires.1 _ _ c.decide_packet-decision.ensures _ c.is_later.ensures _ c.if-is_later.true _ _ c.pour_group.ensures in
    let before = whole c.args.going.now.standing c.args.marks.now c.args.room.now in
    let few = readied-few capture_kind table_fits table-erases before (as_heard c.args.packet) in
    (omega (arith, ready.counted, few, c.requires.0), stands-poured _ _ _ _ _ _ c.requires.1 c.pour_group.ensures.session, c.decide_packet-again.ensures)

pub returns-then-is_later : goal.returns-then-is_later
returns-then-is_later c =
    let ready = ready-later _ _ _ c.requires.1 _ _ c.decide_packet-decision.ensures _ c.is_later.ensures _ c.if-is_later.true _ _ c.pour_group.ensures in
    (step-does _ _ _ _ _ _ _ ready _ _ c.take_packet.ensures.0, step-answered _ _ _ _ _ _ _ ready _ c.take_packet.ensures.1)

pub returns : goal.returns
returns c =
    let ready = ready-once _ _ _ c.requires.1 _ _ c.decide_packet-decision.ensures _ c.is_later.ensures _ c.if-is_later.false in
    (step-does _ _ _ _ _ _ _ ready _ _ c.take_packet-2.ensures.0, step-answered _ _ _ _ _ _ _ ready _ c.take_packet-2.ensures.1)
