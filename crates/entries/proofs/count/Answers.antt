-- `entries::count` meets its contract. The invariant: what the walk yields from the entry reached, added to what was counted, is what
-- the whole walk yields. Assumes nothing.
use Rattle.std.proofs.Common.{Ok}
use mathlib.Core.Path.{sym, ap, ◌∙◌}
use native.Mathlib.Omega.{arith}
use native.Mathlib.Nat.{add-zero}
use Rattle.entries.specs.Counting.{counted_from}
use Rattle.entries.specs.Entries.{allowed}
use Rattle.entries.proofs.Walking.{from_start, from-put, ended, not_known, body-cut, not-allowed, next}
use Rattle.entries.proofs.count.Goals as goal

pub entries-init : goal.entries-init
entries-init c = (omega arith, from_start _)

pub entries-preserved : goal.entries-preserved
entries-preserved c = (
  omega arith,
  sym (ap (counted_from _)
      (next _ (allowed _ c.args.rule) _ _ c.if-entries-at.false _
      (sym c.row_of.ensures ∙ c.in-Some.is) c.if-entries-start.false
      (sym c.allows.ensures ∙ c.if-not-allows.false))
      ∙ from-put _ _ _)
      ∙ c.entries.invariant.1,
)

pub returns-then-entries-at : goal.returns-then-entries-at
unfolding counted_from
returns-then-entries-at c = sym (ap (counted_from _) (ended _ (allowed _ c.args.rule) _ _ c.if-entries-at.true) ∙ ap Ok (add-zero _)) ∙ c.entries.invariant.1

pub returns-in_default : goal.returns-in_default
unfolding counted_from
returns-in_default c =
    sym (ap (counted_from _)
    (not_known _ (allowed _ c.args.rule) _ _ c.if-entries-at.false
    (sym c.row_of.ensures ∙ c.in_default.is)))
    ∙ c.entries.invariant.1

pub returns-then-entries-start : goal.returns-then-entries-start
unfolding counted_from
returns-then-entries-start c =
    sym (ap (counted_from _)
    (body-cut _ (allowed _ c.args.rule) _ _ c.if-entries-at.false _
    (sym c.row_of.ensures ∙ c.in-Some.is) c.if-entries-start.true))
    ∙ c.entries.invariant.1

pub returns-then-not-allows : goal.returns-then-not-allows
unfolding counted_from
returns-then-not-allows c =
    sym (ap (counted_from _)
    (not-allowed _ (allowed _ c.args.rule) _ _ c.if-entries-at.false _
    (sym c.row_of.ensures ∙ c.in-Some.is) c.if-entries-start.false
    (sym c.allows.ensures ∙ c.if-not-allows.true)))
    ∙ c.entries.invariant.1
