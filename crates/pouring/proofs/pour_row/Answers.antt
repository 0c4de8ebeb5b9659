-- `pouring::pour_row` meets its contract. The invariant: the entries of the packets before n are written.
use Prim.Native.Nat.{ℕ, ◌+◌, ◌*◌, ◌≤◌}
use mathlib.Core.Path.{refl, sym, ap, ◌∙◌}
use native.Mathlib.Nat.{add-zero}
use native.Mathlib.Omega.{arith}
use lib.ListN.{length-set}
use Rattle.frame.proofs.FrameTableLaws.{rows_fit, row_fits}
use Rattle.frame.specs.FrameTable.{rows_of}
use Rattle.frame.specs.Shape.{voice_of}
use Rattle.pouring.specs.Pouring.{row_size}
use Rattle.pouring.proofs.PouringLaws.{cell-fits, cell-low, length-piece, row-size-more, row-size-grows, row_more, row-none}
use Rattle.pouring.proofs.pour_row.Goals as goal

pub loop-n-init : goal.loop-n-init
unfolding row_size
loop-n-init c = (refl, sym (add-zero _), row-none _ _ _ _ _ _)

pub bounds-out-next : goal.bounds-out-next
bounds-out-next c =
    omega (arith, row-size-grows (rows_of c.args.vocoder) c.args.cells.marks.now c.args.k c.loop-n.n c.args.m c.requires.2 (omega arith))

pub overflow_add-next : goal.overflow_add-next
overflow_add-next c =
    omega (arith, row-size-grows (rows_of c.args.vocoder) c.args.cells.marks.now c.args.k c.loop-n.n c.args.m c.requires.2 (omega arith))

pub overflow_add-from-in-loop-n : goal.overflow_add-from-in-loop-n
overflow_add-from-in-loop-n c =
    let i = cell-low _ _ c.loop-n.n _ c.cell_of-cell.ensures (omega (arith, c.requires.1)) c.requires.2 in
    let z : c.body_size-size.result ≤ c.cell_of-cell.result = rw (c.body_size-size.ensures, c.cell_of-cell.ensures) (row_fits c.args.vocoder _) in
    omega arith

pub slice_bounds-copy-end : goal.slice_bounds-copy-end
slice_bounds-copy-end c =
    let f = cell-fits _ _ c.loop-n.n _ c.cell_of-cell.ensures (omega (arith, c.requires.1)) c.requires.2 in
    let z : c.body_size-size.result ≤ c.cell_of-cell.result = rw (c.body_size-size.ensures, c.cell_of-cell.ensures) (row_fits c.args.vocoder _) in
    omega (arith, c.requires.0.1)

pub copy-requires : goal.copy-requires
copy-requires c =
    let g = row-size-grows (rows_of c.args.vocoder) c.args.cells.marks.now c.args.k c.loop-n.n c.args.m c.requires.2 (omega arith) in
    let z = length-piece c.args.cells.room.now (c.cell_of-cell.result * 10 * c.loop-n.n + c.cell_of-cell.result * c.args.k) c.body_size-size.result in
    simp length-set (omega (arith, c.requires.3, c.loop-n.invariant.0, c.loop-n.invariant.1, c.body_size-size.ensures))

pub overflow_add-next-in-loop-n-2 : goal.overflow_add-next-in-loop-n-2
overflow_add-next-in-loop-n-2 c =
    omega (arith, c.body_size-size.ensures, row-size-grows (rows_of c.args.vocoder) c.args.cells.marks.now c.args.k c.loop-n.n c.args.m c.requires.2 (omega arith))

pub loop-n-preserved : goal.loop-n-preserved
loop-n-preserved c =
    let g = row-size-grows (rows_of c.args.vocoder) c.args.cells.marks.now c.args.k c.loop-n.n c.args.m c.requires.2 (omega arith) in
    let e = row-size-more (rows_of c.args.vocoder) c.args.cells.marks.now c.args.k c.loop-n.n _ _ c.requires.2 refl c.body_size-size.ensures in (
      c.copy.auto.dst ∙ simp length-set c.loop-n.invariant.0,
      omega (arith, c.loop-n.invariant.1),
      row_more (voice_of c.args.vocoder) (rows_fit c.args.vocoder) _ _ c.requires.0.1 c.args.k c.loop-n.n (omega (arith, c.requires.1)) c.requires.2 _ _ _ _ _ _ _
          (ap (λ (x : ℕ). x * 10 * c.loop-n.n + x * c.args.k) c.cell_of-cell.ensures) (omega (arith, c.requires.3))
          (omega (arith, c.requires.3, c.loop-n.invariant.0, c.loop-n.invariant.1))
          c.loop-n.invariant.1 c.loop-n.invariant.2 c.body_size-size.ensures c.copy.ensures,
    )
