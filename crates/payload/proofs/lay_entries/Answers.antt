-- `payload::lay_entries` meets its contract. The invariant: the first k frames are laid out, and body k begins at `start`.
use Prim.Native.Nat.{ℕ, ◌*◌}
use mathlib.Core.Path.{◌≡◌, ap, ◌∙◌}
use native.Mathlib.Omega.{arith}
use lib.ListN.{length, length-set}
use Rattle.octets.proofs.Regions.{region-fits}
use Rattle.frame.specs.FrameTable.{rows_of}
use Rattle.frame.specs.Shape.{shape_of}
use Rattle.frame.proofs.FrameTableLaws.{rows_fit}
use Rattle.bundle.proofs.LaidOutLaws.{laid_more, laid-all, short-at}
use Rattle.payload.proofs.Laying.{framesAlong, along, many-along, along-short, piece}
use Rattle.payload.proofs.LayingOut.{none-laid}
use Rattle.payload.proofs.lay_entries.Goals as goal

pub loop-k-init : goal.loop-k-init
loop-k-init c =
    let h = none-laid _ _ _ c.requires.2 (framesAlong (rows_of c.args.vocoder) c.args.payload.now c.args.b) in
    (omega arith, h.0, h.1, h.2)

pub overflow_add-end : goal.overflow_add-end
overflow_add-end c =
    let v = rows_of c.args.vocoder in
    let a = along v c.args.payload.now c.args.b c.requires.1 c.loop-k.start c.loop-k.k c.loop-k-test.true c.loop-k.invariant.0 in
    omega (arith, a.inside, c.body_size.ensures)

pub slice_bounds-copy-end : goal.slice_bounds-copy-end
slice_bounds-copy-end c =
    let v = rows_of c.args.vocoder in
    let a = along v c.args.payload.now c.args.b c.requires.1 c.loop-k.start c.loop-k.k c.loop-k-test.true c.loop-k.invariant.0 in
    omega (arith, a.inside, c.body_size.ensures)

pub copy-requires : goal.copy-requires
copy-requires c =
    let v = rows_of c.args.vocoder in
    let p = c.args.payload.now in
    let b = c.args.b in
    let a = along v p b c.requires.1 c.loop-k.start c.loop-k.k c.loop-k-test.true c.loop-k.invariant.0 in
    let few = many-along v p b c.requires.1 in
    let z = (shape_of c.args.vocoder).cell in
    let s = along-short v p b c.requires.1 z (rows_fit c.args.vocoder) in
    let body = piece v p b c.loop-k.start c.loop-k.k c.body_size.result a c.body_size.ensures in
    let r = region-fits z c.loop-k.k 10 (omega (arith, c.requires.0)) in
    let q : c.cell_of-cell.result * c.loop-k.k ≡ z * c.loop-k.k = ap (λ (i : ℕ). i * c.loop-k.k) c.cell_of-cell.ensures in
    omega (arith, ap length body, q, r, c.loop-k.invariant.2, short-at z (framesAlong v p b) c.loop-k.k s (omega arith))

pub loop-k-preserved : goal.loop-k-preserved
loop-k-preserved c =
    let v = rows_of c.args.vocoder in
    let p = c.args.payload.now in
    let b = c.args.b in
    let a = along v p b c.requires.1 c.loop-k.start c.loop-k.k c.loop-k-test.true c.loop-k.invariant.0 in
    let few = many-along v p b c.requires.1 in
    let z = (shape_of c.args.vocoder).cell in
    let s = along-short v p b c.requires.1 z (rows_fit c.args.vocoder) in
    let body = piece v p b c.loop-k.start c.loop-k.k c.body_size.result a c.body_size.ensures in (
      omega (arith, a.next, c.body_size.ensures),
      length-set c.loop-k.marks c.loop-k.k _ ∙ c.loop-k.invariant.1,
      c.copy.auto.dst ∙ c.loop-k.invariant.2,
      laid_more (shape_of c.args.vocoder) (framesAlong v p b) (omega (arith, c.requires.0)) s c.loop-k.k (omega arith) _ _ _ _ _
          c.loop-k.invariant.3 a.type body (rw c.cell_of-cell.ensures at c.copy.ensures),
    )

pub returns : goal.returns
returns c =
    let few = many-along (rows_of c.args.vocoder) c.args.payload.now c.args.b c.requires.1 in
    laid-all _ (framesAlong (rows_of c.args.vocoder) c.args.payload.now c.args.b) c.loop-k.k _ _ (omega arith) c.loop-k.invariant.3
