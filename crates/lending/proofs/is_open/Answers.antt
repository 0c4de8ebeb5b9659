-- `lending::is_open` meets its contract.
use Rattle.std.proofs.Common.{◌≡◌, length, arith, rules}
use mathlib.Core.Path.{sym, ap, ◌∙◌}
use Rattle.lending.proofs.PartsLaws.{handed-long, session-long, none_open, one-judged}
use Rattle.lending.proofs.is_open.Goals as goal

pub returns-then-not-is_session : goal.returns-then-not-is_session
returns-then-not-is_session c = none_open _ (sym c.is_session.ensures ∙ c.if-not-is_session.true)

pub standing_at-standing-requires : goal.standing_at-standing-requires
standing_at-standing-requires c = session-long _ (sym c.is_session.ensures ∙ c.if-not-is_session.false)

pub marks_at-marks-requires : goal.marks_at-marks-requires
marks_at-marks-requires c = omega (arith, session-long _ (sym c.is_session.ensures ∙ c.if-not-is_session.false))

pub cells_at-requires : goal.cells_at-requires
cells_at-requires c = session-long _ (sym c.is_session.ensures ∙ c.if-not-is_session.false)

pub is_open_in-requires : goal.is_open_in-requires
is_open_in-requires c =
    let long = session-long _ (sym c.is_session.ensures ∙ c.if-not-is_session.false) in
    let flags : length c.standing_at-standing.result.held ≡ 8 = search rules in
    let types : length c.marks_at-marks.result ≡ 80 = search rules in
    let cells = c.cells_at.ensures in
    record { long_held = flags; long_marks = ap length cells.0 ∙ types; long_room = handed-long _ _ (search rules) long }

pub returns : goal.returns
returns c =
    let there = sym c.is_session.ensures ∙ c.if-not-is_session.false in
    one-judged _ _ _ c.standing_at-standing.ensures c.marks_at-marks.ensures _ _ _ c.is_open_in.ensures (search rules) (search rules) there
