-- `lending::copy_out` meets its contract.
use mathlib.Core.Path.{sym, ◌∙◌}
use native.Mathlib.Omega.{arith}
use Rattle.lending.proofs.CallsLaws.{no_room, room-taken, group-held, copy-none, copy_done}
use Rattle.lending.proofs.PartsLaws.{open-there, session-long, copied-laid}
use Rattle.lending.proofs.copy_out.Goals as goal

pub returns-then-not-has_group : goal.returns-then-not-has_group
returns-then-not-has_group c = copy-none _ _ _ (sym c.has_group.ensures ∙ c.if-not-has_group.true)

pub returns-then-out-lt-OCTETS : goal.returns-then-out-lt-OCTETS
returns-then-out-lt-OCTETS c = copy_done _ _ _ (sym c.has_group.ensures ∙ c.if-not-has_group.false) _ _ (no_room _ _ c.if-out-lt-OCTETS.true)

pub slice_bounds-copy-end : goal.slice_bounds-copy-end
slice_bounds-copy-end c = omega (arith, session-long _ (open-there _ (group-held _ _ (sym c.has_group.ensures ∙ c.if-not-has_group.false)).0))

pub returns : goal.returns
returns c =
    let held = sym c.has_group.ensures ∙ c.if-not-has_group.false in
    copy_done _ _ _ held _ _ (room-taken _ _ _ c.if-out-lt-OCTETS.false (copied-laid _ _ _ _ (open-there _ (group-held _ _ held).0) c.copy.ensures c.fill.ensures))
