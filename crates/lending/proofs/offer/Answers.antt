-- `lending::offer` meets its contract.
use mathlib.Core.Path.{sym, ◌∙◌}
use native.Mathlib.Omega.{arith}
use Rattle.answers.proofs.Exits.{exits}
use Rattle.session.proofs.StandingLaws.{may-take, offered-of}
use Rattle.lending.proofs.CallsLaws.{offer-closed, offer-keeps, offer-refused, offer-accepted}
use Rattle.lending.proofs.PartsLaws.{open-there, session-long, found, kept-bodies, around-kept}
use Rattle.lending.proofs.offer.Goals as goal

pub returns-then-not-is_open : goal.returns-then-not-is_open
returns-then-not-is_open c = offer-closed _ _ _ _ _ _ (sym c.is_open.ensures ∙ c.if-not-is_open.true)

pub standing_at-standing-requires : goal.standing_at-standing-requires
standing_at-standing-requires c = session-long _ (open-there _ (sym c.is_open.ensures ∙ c.if-not-is_open.false))

pub marks_at-marks-requires : goal.marks_at-marks-requires
marks_at-marks-requires c =
    omega (arith, session-long _ (open-there _ (sym c.is_open.ensures ∙ c.if-not-is_open.false)))

pub take_packet-requires : goal.take_packet-requires
take_packet-requires c =
    let opened = sym c.is_open.ensures ∙ c.if-not-is_open.false in
    let there = found _ _ _ opened c.standing_at-standing.ensures c.marks_at-marks.ensures in
    let may = may-take _ _ _ _ there.is opened there.stands.spans _ _ _ _ _ c.decide-decision.ensures in
    (there.long, may.0, may.1)

pub put_session-requires : goal.put_session-requires
put_session-requires c =
    let opened = sym c.is_open.ensures ∙ c.if-not-is_open.false in
    let there = found _ _ _ opened c.standing_at-standing.ensures c.marks_at-marks.ensures in
    (omega (arith, there.long, c.take_packet.auto.session), c.take_packet.auto.marks ∙ there.stands.spans.long_marks)

pub returns-in_err-lost : goal.returns-in_err-lost
returns-in_err-lost c =
    let opened = sym c.is_open.ensures ∙ c.if-not-is_open.false in
    let there = found _ _ _ opened c.standing_at-standing.ensures c.marks_at-marks.ensures in
    let took = offered-of _ _ _ _ there.is opened there.stands.spans _ _ _ _ _ c.decide-decision.ensures _ c.take_packet.ensures.0 in
    let same = kept-bodies _ _ _ _ there (offer-keeps _ _ _ _ _ _ _ took _ c.in_err-lost.was) in
    offer-refused _ _ _ _ _ _ _ took _ _ _ c.in_err-lost.was (exits _ _ c.from_residual.ensures.1) (c.take_packet.ensures.1 ∙ same)

pub returns : goal.returns
returns c =
    let opened = sym c.is_open.ensures ∙ c.if-not-is_open.false in
    let there = found _ _ _ opened c.standing_at-standing.ensures c.marks_at-marks.ensures in
    let took = offered-of _ _ _ _ there.is opened there.stands.spans _ _ _ _ _ c.decide-decision.ensures _ c.take_packet.ensures.0 in
    let laid = around-kept _ _ _ _ _ there.long c.take_packet.auto.session c.take_packet.ensures.1 c.put_session.ensures in
    offer-accepted _ _ _ _ _ _ _ took _ _ c.in_ok-lost.was laid
