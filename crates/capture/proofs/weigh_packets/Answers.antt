-- `capture::weigh_packets` meets its contract. The invariant: the run over the first i packets is measured, and the next payload begins at
-- start.
use Rattle.std.proofs.Common.{◌≡◌, subst, arith}
use Rattle.capture.specs.Capture.{Heard}
use Rattle.capture.specs.Run.{capture_kind, step_of}
use Rattle.capture.specs.Weighing.{Weighs}
use Rattle.capture.proofs.CaptureLaws.{good-is, start_first, payload-is, next-start, turn}
use Rattle.capture.proofs.WeighingLaws.{run-begun, run-further, ran-measures, ran-few, ran-all}
use Rattle.capture.proofs.weigh_packets.Goals as goal

pub overflow_mul-start : goal.overflow_mul-start
overflow_mul-start c = omega (arith, (good-is _ c.requires.0).few, c.requires.1)

pub overflow_add-start : goal.overflow_add-start
overflow_add-start c = omega (arith, (good-is _ c.requires.0).few, c.requires.1)

pub loop-i-init : goal.loop-i-init
loop-i-init c = (omega arith, start_first _ _ c.requires.1, run-begun _ _ c.requires.2)

pub packet_at-packet-requires : goal.packet_at-packet-requires
packet_at-packet-requires c =
    let t = turn _ c.requires.0 _ _ _ c.requires.1 c.loop-i-test.true c.loop-i.invariant.1 in
    (t.row_in, c.loop-i.invariant.1, t.payload_in)

pub overflow_add-start-in-loop-i : goal.overflow_add-start-in-loop-i
overflow_add-start-in-loop-i c =
    let t = turn _ c.requires.0 _ _ _ c.requires.1 c.loop-i-test.true c.loop-i.invariant.1 in
    omega (arith, t.payload_in, t.short, payload-is _ _ _ c.packet_at-packet.result c.loop-i.invariant.1 t.payload_in c.packet_at-packet.ensures)

pub weigh_packet-going-requires : goal.weigh_packet-going-requires
weigh_packet-going-requires c =
    (ran-few _ c.requires.0 _ _ _ c.requires.1 c.loop-i.invariant.0 c.loop-i.invariant.2, ran-measures _ _ _ c.loop-i.invariant.2)

pub loop-i-preserved : goal.loop-i-preserved
loop-i-preserved c =
    let t = turn _ c.requires.0 _ _ _ c.requires.1 c.loop-i-test.true c.loop-i.invariant.1 in (
      omega arith,
      next-start _ _ _ c.packet_at-packet.result c.loop-i.invariant.1 t.payload_in c.packet_at-packet.ensures,
      run-further _ _ _ _ c.loop-i.invariant.2
          (subst (λ (h : Heard). Weighs (λ s. step_of capture_kind s h) c.loop-i.going c.weigh_packet-going.result) c.packet_at-packet.ensures c.weigh_packet-going.ensures),
    )

pub returns : goal.returns
returns c =
    let e : c.loop-i.i ≡ c.args.count = omega arith in
    ran-all _ _ _ _ c.requires.1 e c.loop-i.invariant.2
