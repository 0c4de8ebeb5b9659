-- `entries::seek` meets its contract. The invariant: the place of the entry that is come to. Assumes nothing.
use native.Mathlib.Omega.{arith}
use Rattle.entries.proofs.Seeking.{turn}
use Rattle.entries.proofs.seek.Goals as goal

pub bounds-entries-at : goal.bounds-entries-at
bounds-entries-at c = (turn _ _ _ _ _ c.loop.invariant c.loop-test.true c.requires).here

pub overflow_add-at : goal.overflow_add-at
overflow_add-at c =
    omega (arith, c.body_size.ensures, (turn _ _ _ _ _ c.loop.invariant c.loop-test.true c.requires).inside)

pub overflow_add-at-in-loop : goal.overflow_add-at-in-loop
overflow_add-at-in-loop c =
    omega (arith, c.body_size.ensures, (turn _ _ _ _ _ c.loop.invariant c.loop-test.true c.requires).inside)

pub loop-preserved : goal.loop-preserved
loop-preserved c =
    omega (arith, c.body_size.ensures, (turn _ _ _ _ _ c.loop.invariant c.loop-test.true c.requires).on)
