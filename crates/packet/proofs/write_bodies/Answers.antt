-- `packet::write_bodies` meets its contract. The invariant: the first k bodies stand in out behind the table of contents. Assumes nothing.
use Prim.Native.Nat.{ℕ, ◌+◌, ◌≤◌}
use mathlib.Core.List.{List}
use mathlib.Core.Path.{refl, sym, ap, ◌∙◌}
use native.Mathlib.Omega.{arith}
use lib.ListN.{length}
use Rattle.frame.specs.Places.{frame_at, up_to}
use Rattle.entries.specs.Kind.{kind_of}
use Rattle.octets.proofs.OctetsLaws.{over-append, over_nothing}
use Rattle.octets.specs.Octets.{over}
use Rattle.packet.specs.Packet.{place_of, packet_frames, bodies_of, group_in}
use Rattle.packet.proofs.Picking.{next-body}
use Rattle.packet.proofs.Packing.{bodies-next}
use Rattle.packet.proofs.write_bodies.Goals as goal

pub loop-k-init : goal.loop-k-init
unfolding packet_frames up_to
loop-k-init c =
    (refl, omega arith, over_nothing c.args.out.now (1 + c.args.b))

pub copy-requires : goal.copy-requires
copy-requires c =
    let es = c.args.entries.now in
    let fs = group_in (kind_of c.args.vocoder) es in
    let x = next-body (kind_of c.args.vocoder) c.args.l c.args.n c.args.b c.loop-k.k es fs _ c.body_size.result
    (c.requires.2 _ c.loop-k-test.true) c.body_size.ensures c.loop-k-test.true in
    omega (arith, ap length x.part, x.octets, x.total, x.within, c.loop-k.invariant.0, c.loop-k.invariant.1, c.requires.0)

pub overflow_add-to-in-loop-k : goal.overflow_add-to-in-loop-k
overflow_add-to-in-loop-k c =
    let es = c.args.entries.now in
    let fs = group_in (kind_of c.args.vocoder) es in
    let x = next-body (kind_of c.args.vocoder) c.args.l c.args.n c.args.b c.loop-k.k es fs _ c.body_size.result
    (c.requires.2 _ c.loop-k-test.true) c.body_size.ensures c.loop-k-test.true in
    omega (arith, x.total, x.within, c.loop-k.invariant.1, c.requires.0)

pub loop-k-preserved : goal.loop-k-preserved
loop-k-preserved c =
    let es = c.args.entries.now in
    let fs = group_in (kind_of c.args.vocoder) es in
    let x = next-body (kind_of c.args.vocoder) c.args.l c.args.n c.args.b c.loop-k.k es fs _ c.body_size.result
    (c.requires.2 _ c.loop-k-test.true) c.body_size.ensures c.loop-k-test.true in
    let xs = bodies_of (packet_frames c.args.l c.args.n c.loop-k.k fs) in
    let f = frame_at fs (place_of c.args.l c.args.n c.loop-k.k) in
    let room : 1 + c.args.b ≤ length c.args.out.now = omega (arith, c.requires.0) in (
      c.copy.auto.dst ∙ c.loop-k.invariant.0,
      omega (arith, x.total, c.loop-k.invariant.1),
      c.copy.ensures
          ∙ ap (over c.loop-k.out c.loop-k.to) x.part
          ∙ ap (λ (i : ℕ). over c.loop-k.out i f.body) c.loop-k.invariant.1
          ∙ ap (λ (l : List ℕ). over l (1 + c.args.b + length xs) f.body) c.loop-k.invariant.2
          ∙ over-append c.args.out.now (1 + c.args.b) xs f.body room
          ∙ ap (over c.args.out.now (1 + c.args.b)) (sym (bodies-next c.args.l c.args.n c.loop-k.k fs)),
    )
