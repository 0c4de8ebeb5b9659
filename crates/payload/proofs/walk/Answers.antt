-- `payload::walk` meets its contract. The invariant: what the walk yields from the entry reached, added to what was counted, is what
-- the whole walk yields; and of each body up to here, the octets of those before it. Assumes nothing.
use Rattle.std.proofs.Common.{◌+◌, ◌≤◌, ◌<◌, refl, sym, ◌∙◌, arith, length, length-set}
use mathlib.Core.Logic.{⊎_elim}
use Rattle.frame.proofs.FrameTableLaws.{found-small, found-size}
use Rattle.frame.specs.FrameTable.{rows_of}
use Rattle.payload.proofs.Steps.{from_start, at-end, past-max, not_known, last, next}
use Rattle.payload.proofs.Laying.{start-next}
use Rattle.payload.proofs.Cutting.{sum_more}
use Rattle.payload.proofs.walk.Goals as goal

pub entries-init : goal.entries-init
entries-init c = (omega arith, omega arith, from_start _ _, refl, refl, λ i q. absurd (omega arith))

pub overflow_add-size : goal.overflow_add-size
overflow_add-size c =
    omega (arith, found-small _ _ _ (sym c.row_of.ensures ∙ c.in-Some.is))

pub entries-preserved : goal.entries-preserved
entries-preserved c =
    let row = sym c.row_of.ensures ∙ c.in-Some.is in
    let v = rows_of c.args.vocoder in
    let p = c.args.payload.now in
    let there : c.entries.count + 1 < length p = omega (arith, c.most_entries-most.ensures.1) in
    let few : c.entries.count < c.args.max_b = omega (arith, c.most_entries-most.ensures.0) in (
      omega arith,
      omega (arith, found-small _ _ _ row),
      sym (next _ _ _ _ _ there few _ row c.if-entry-lt128.false) ∙ c.entries.invariant.2,
      simp length-set c.entries.invariant.3,
      omega (arith, found-size _ _ _ row, start-next v p c.entries.count there),
      sum_more v p c.entries.sums _ _ c.entries.invariant.5 c.entries.invariant.4 (omega arith),
    )

pub returns-then-payload-at-clause-value : goal.returns-then-payload-at-clause-value
returns-then-payload-at-clause-value c =
    sym (at-end _ _ _ _ _ c.if-payload-at.true) ∙ c.entries.invariant.2

pub returns-else-payload-at-clause-value : goal.returns-else-payload-at-clause-value
returns-else-payload-at-clause-value c =
    let full : c.args.max_b ≤ c.entries.count = ⊎_elim (λ q. omega arith) (λ q. absurd (omega arith)) c.most_entries-most.ensures.2 in
    sym (past-max _ _ _ _ _ c.if-payload-at.false full) ∙ c.entries.invariant.2

pub returns-in_default-clause-value : goal.returns-in_default-clause-value
returns-in_default-clause-value c =
    let there : c.entries.count + 1 < length c.args.payload.now = omega (arith, c.most_entries-most.ensures.1) in
    let few : c.entries.count < c.args.max_b = omega (arith, c.most_entries-most.ensures.0) in
    sym (not_known _ _ _ _ _ there few (sym c.row_of.ensures ∙ c.in_default.is)) ∙ c.entries.invariant.2

pub returns-then-entry-lt128-clause-value : goal.returns-then-entry-lt128-clause-value
returns-then-entry-lt128-clause-value c =
    let there : c.entries.count + 1 < length c.args.payload.now = omega (arith, c.most_entries-most.ensures.1) in
    let few : c.entries.count < c.args.max_b = omega (arith, c.most_entries-most.ensures.0) in
    sym (last _ _ _ _ _ there few _ (sym c.row_of.ensures ∙ c.in-Some.is) c.if-entry-lt128.true) ∙ c.entries.invariant.2
