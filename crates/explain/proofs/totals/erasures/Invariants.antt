-- `explain::totals::erasures` ends: each turn goes to a later entry.
use Rattle.std.proofs.Common.{◌-◌, ◌≤◌, length}
use Rattle.explain.proofs.totals.erasures.Given as goal

abbrev pub invariant-loop-at : goal.invariant-loop-at
invariant-loop-at l = 7 ≤ l.at

abbrev pub decreases-loop-at : goal.decreases-loop-at
decreases-loop-at l = length l.recording - l.at
