-- `lending::has_group` meets its contract.
use mathlib.Core.Path.{sym}
use native.Mathlib.Omega.{arith}
use Rattle.lending.proofs.PartsLaws.{session-long, open-there, frames-at}
use Rattle.lending.proofs.CallsLaws.{group-by}
use Rattle.lending.proofs.has_group.Goals as goal

pub bounds-lent-43 : goal.bounds-lent-43
bounds-lent-43 c = omega (arith, session-long _ (open-there _ (sym c.if-is_open.ensures)))

pub returns-then-is_open : goal.returns-then-is_open
returns-then-is_open c =
    group-by _ _ _ (sym c.if-is_open.ensures) (frames-at _ (open-there _ (sym c.if-is_open.ensures)))
