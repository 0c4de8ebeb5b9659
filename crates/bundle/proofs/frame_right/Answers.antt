-- `bundle::frame_right` meets its contract.
use Prim.Native.Nat.{◌+◌, ◌*◌, ◌≤◌}
use mathlib.Core.Path.{sym, ◌∙◌}
use native.Mathlib.Omega.{arith}
use Rattle.octets.proofs.Regions.{region-fits}
use Rattle.frame.proofs.FrameTableLaws.{found-fits, cell-small}
use Rattle.bundle.proofs.BundlesLaws.{mark-missing, mark-past, mark-stands}
use Rattle.bundle.proofs.frame_right.Goals as goal

pub overflow_mul-from : goal.overflow_mul-from
overflow_mul-from c =
    let s = c.cell_of-cell.result in
    let f : s * c.args.k + s ≤ s * 10 = region-fits s c.args.k 10 c.requires.0 in
    omega (arith, cell-small c.args.vocoder, c.cell_of-cell.ensures)

pub overflow_add-from : goal.overflow_add-from
overflow_add-from c =
    let s = c.cell_of-cell.result in
    let f : s * c.args.k + s ≤ s * 10 = region-fits s c.args.k 10 c.requires.0 in
    omega (arith, cell-small c.args.vocoder, c.cell_of-cell.ensures, found-fits _ _ _ (sym c.row_of.ensures ∙ c.in-Some.is))

pub overflow_add-from-then-may_stand : goal.overflow_add-from-then-may_stand
overflow_add-from-then-may_stand c =
    let s = c.cell_of-cell.result in
    let f : s * c.args.k + s ≤ s * 10 = region-fits s c.args.k 10 c.requires.0 in
    omega (arith, cell-small c.args.vocoder, c.cell_of-cell.ensures)

pub slice_bounds-zeros-count : goal.slice_bounds-zeros-count
slice_bounds-zeros-count c =
    omega (arith, c.cell_of-cell.ensures, found-fits _ _ _ (sym c.row_of.ensures ∙ c.in-Some.is))

pub slice_bounds-zeros-start : goal.slice_bounds-zeros-start
slice_bounds-zeros-start c =
    omega (arith, c.cell_of-cell.ensures, found-fits _ _ _ (sym c.row_of.ensures ∙ c.in-Some.is))

pub slice_bounds-zeros-end : goal.slice_bounds-zeros-end
slice_bounds-zeros-end c =
    let s = c.cell_of-cell.result in
    let f : s * c.args.k + s ≤ s * 10 = region-fits s c.args.k 10 c.requires.0 in
    omega (arith, c.cell_of-cell.ensures, c.requires.1.1)

pub returns-in_default : goal.returns-in_default
returns-in_default c = mark-missing _ _ _ _ _ (sym c.row_of.ensures ∙ c.in_default.is)

pub returns-then-may_stand : goal.returns-then-may_stand
returns-then-may_stand c =
    mark-stands _ _ _ _ _ _ _ _ c.cell_of-cell.ensures (sym c.row_of.ensures ∙ c.in-Some.is)
    (found-fits _ _ _ (sym c.row_of.ensures ∙ c.in-Some.is))
    (sym c.may_stand.ensures ∙ c.if-may_stand.true) c.zeros.ensures

pub returns-else-may_stand : goal.returns-else-may_stand
returns-else-may_stand c = c.if-may_stand.false ∙ mark-past _ _ _ _ _ (sym c.may_stand.ensures ∙ c.if-may_stand.false)
