-- `lending::pour` meets its contract.
use mathlib.Core.Path.{sym, ◌∙◌}
use native.Mathlib.Omega.{arith}
use Rattle.answers.proofs.Exits.{exits}
use Rattle.lending.proofs.CallsLaws.{group-held, pour-none, pour-refused, pour-octets}
use Rattle.lending.proofs.PartsLaws.{open-there, session-long, found, may-pour, poured-in, ended-in}
use Rattle.lending.proofs.pour.Goals as goal

pub returns-then-not-has_group : goal.returns-then-not-has_group
returns-then-not-has_group c = pour-none _ _ _ (sym c.has_group.ensures ∙ c.if-not-has_group.true)

pub standing_at-standing-requires : goal.standing_at-standing-requires
standing_at-standing-requires c = session-long _ (open-there _ (group-held _ _ (sym c.has_group.ensures ∙ c.if-not-has_group.false)).0)

pub marks_at-marks-requires : goal.marks_at-marks-requires
marks_at-marks-requires c =
    omega (arith, session-long _ (open-there _ (group-held _ _ (sym c.has_group.ensures ∙ c.if-not-has_group.false)).0))

pub cells_at-requires : goal.cells_at-requires
cells_at-requires c = session-long _ (open-there _ (group-held _ _ (sym c.has_group.ensures ∙ c.if-not-has_group.false)).0)

pub pour_held_in-requires : goal.pour_held_in-requires
pour_held_in-requires c =
    let held = group-held _ _ (sym c.has_group.ensures ∙ c.if-not-has_group.false) in
    let may = may-pour _ _ _ (found _ _ _ held.0 c.standing_at-standing.ensures c.marks_at-marks.ensures) held.1 in
    rw (c.cells_at.ensures.0, c.cells_at.ensures.1) ((may.0, may.1), may.2, may.3)

pub put_vacant-requires : goal.put_vacant-requires
put_vacant-requires c =
    session-long _ (open-there _ (group-held _ _ (sym c.has_group.ensures ∙ c.if-not-has_group.false)).0)

pub returns-in_err-count : goal.returns-in_err-count
returns-in_err-count c =
    let held = group-held _ _ (sym c.has_group.ensures ∙ c.if-not-has_group.false) in
    let there = found _ _ _ held.0 c.standing_at-standing.ensures c.marks_at-marks.ensures in
    let poured = c.pour_held_in.ensures in
    pour-refused _ _ _ _ _ _ (poured-in _ _ _ there held.1) (rw (c.cells_at.ensures.0, c.cells_at.ensures.1) at poured) _ _ c.in_err-count.was (exits _ _ c.from_residual.ensures.1)

pub returns : goal.returns
returns c =
    let held = group-held _ _ (sym c.has_group.ensures ∙ c.if-not-has_group.false) in
    let there = found _ _ _ held.0 c.standing_at-standing.ensures c.marks_at-marks.ensures in
    let gone = ended-in _ _ _ there _ _ c.end_group.ensures c.put_vacant.ensures in
    let poured = c.pour_held_in.ensures in
    pour-octets _ _ _ _ _ _ (poured-in _ _ _ there held.1) (rw (c.cells_at.ensures.0, c.cells_at.ensures.1) at poured) _ _ c.in_ok-count.was gone
