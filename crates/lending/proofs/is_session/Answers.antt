-- `lending::is_session` meets its contract.
use mathlib.Core.Path.{sym, ◌∙◌}
use Rattle.lending.proofs.PartsLaws.{short_is_none, is-laid, not-laid}
use Rattle.lending.proofs.is_session.Goals as goal

pub returns-then-from-lt-OCTETS : goal.returns-then-from-lt-OCTETS
returns-then-from-lt-OCTETS c = short_is_none _ c.if-from-lt-OCTETS.true

pub returns-then-same : goal.returns-then-same
returns-then-same c =
    c.zeros.ensures ∙ is-laid _ _ c.if-from-lt-OCTETS.false c.standing_at-standing.ensures _ _ c.marks_at-marks.ensures (c.put_front.ensures _)
    (sym c.if-same.ensures)

pub returns-else-same : goal.returns-else-same
returns-else-same c =
    c.if-same.false ∙ not-laid _ _ c.if-from-lt-OCTETS.false c.standing_at-standing.ensures _ _ c.marks_at-marks.ensures (c.put_front.ensures _) (sym c.if-same.ensures)
