-- `packet::pick` meets its contract. The invariant: the octets of the first k bodies, the places of their entries, and how far the entries are gone along. Assumes nothing.
use Prim.Native.Nat.{◌+◌}
use mathlib.Core.Path.{refl}
use native.Mathlib.Omega.{arith}
use lib.ListN.{get_or, length-set}
use Rattle.frame.proofs.FrameTableLaws.{body-small}
use Rattle.frame.specs.Entry.{type_of}
use Rattle.entries.specs.Kind.{kind_of}
use Rattle.frame.specs.Places.{up_to}
use Rattle.packet.specs.Packet.{packet_frames, group_in}
use Rattle.packet.proofs.Picking.{at_first, sought, found, goes_on, placed-more, next-body}
use Rattle.packet.proofs.pick.Goals as goal

pub loop-k-init : goal.loop-k-init
unfolding packet_frames up_to
loop-k-init c = (omega arith, refl, refl, λ j q. absurd (omega arith), at_first _ _ _ _)

pub slice_bounds-seek-count : goal.slice_bounds-seek-count
slice_bounds-seek-count c =
    (sought _ _ _ _ _ _ _ _ c.requires.0 c.loop-k-test.true c.loop-k.invariant.4).inside

pub slice_bounds-seek-start : goal.slice_bounds-seek-start
slice_bounds-seek-start c =
    (sought _ _ _ _ _ _ _ _ c.requires.0 c.loop-k-test.true c.loop-k.invariant.4).inside

pub seek-at-requires : goal.seek-at-requires
seek-at-requires c =
    (sought _ _ _ _ _ _ _ _ c.requires.0 c.loop-k-test.true c.loop-k.invariant.4).few

pub overflow_add-at : goal.overflow_add-at
overflow_add-at c =
    omega (arith, (found _ _ _ _ _ _ _ _ c.requires.0 c.loop-k-test.true c.loop-k.invariant.4 _ c.seek-at.ensures).here)

pub bounds-entries-at : goal.bounds-entries-at
bounds-entries-at c =
    (found _ _ _ _ _ _ _ _ c.requires.0 c.loop-k-test.true c.loop-k.invariant.4 _ c.seek-at.ensures).here

pub overflow_add-size : goal.overflow_add-size
overflow_add-size c =
    omega (
      arith,
      c.body_size-size.ensures,
      body-small c.args.vocoder (type_of (get_or c.args.entries.now (c.loop-k.at + c.seek-at.result) 0)),
      c.requires.0.bundle_small,
    )

pub loop-k-preserved : goal.loop-k-preserved
loop-k-preserved c =
    let es = c.args.entries.now in
    let at = c.loop-k.at + c.seek-at.result in
    let x = found _ _ _ _ _ _ _ _ c.requires.0 c.loop-k-test.true c.loop-k.invariant.4 _ c.seek-at.ensures in
    let y = next-body (kind_of c.args.vocoder) c.args.l c.args.n c.args.b c.loop-k.k es (group_in (kind_of c.args.vocoder) es) at
    c.body_size-size.result x c.body_size-size.ensures c.loop-k-test.true in (
      omega (arith, c.body_size-size.ensures, body-small c.args.vocoder (type_of (get_or es at 0))),
      omega (arith, y.total),
      simp length-set c.loop-k.invariant.2,
      placed-more (kind_of c.args.vocoder) c.args.l c.args.n _ es c.loop-k.places _ c.loop-k.invariant.3 (omega (arith, c.loop-k.invariant.2, c.requires.1)) x,
      goes_on _ _ _ _ _ _ _ _ c.requires.0 c.loop-k-test.true c.loop-k.invariant.4 _ c.seek-at.ensures,
    )
