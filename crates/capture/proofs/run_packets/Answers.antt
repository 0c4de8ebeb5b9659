-- `capture::run_packets` meets its contract. The invariant: the run over the first i packets is done, its session is open, and the next
-- payload begins at start.
use Rattle.std.proofs.Common.{◌∙◌, refl, subst, le_trans, arith}
use Rattle.session.specs.Standing.{whole}
use Rattle.capture.specs.Capture.{Heard}
use Rattle.capture.specs.Going.{run_in}
use Rattle.capture.specs.Run.{capture_kind, step_of, Does}
use Rattle.capture.proofs.CaptureLaws.{good-is, start_first, payload-is, next-start, turn}
use Rattle.capture.proofs.RunLaws.{table_fits, table-erases, run_none, run-again, run_fits}
use Rattle.capture.proofs.InPlace.{stands-stepped}
use Rattle.capture.proofs.run_packets.Goals as goal

pub overflow_mul-start : goal.overflow_mul-start
overflow_mul-start c = omega (arith, (good-is _ c.requires.0).few, c.requires.1)

pub overflow_add-start : goal.overflow_add-start
overflow_add-start c = omega (arith, (good-is _ c.requires.0).few, c.requires.1)

pub loop-i-init : goal.loop-i-init
loop-i-init c =
    (omega arith, refl, start_first _ _ c.requires.1, refl, refl, run_none _ _ _ _ _ _ refl refl, c.requires.5)

pub packet_at-packet-requires : goal.packet_at-packet-requires
packet_at-packet-requires c =
    let t = turn _ c.requires.0 _ _ _ c.requires.1 (omega (arith, c.requires.2)) c.loop-i.invariant.2 in
    (t.row_in, c.loop-i.invariant.2, t.payload_in)

pub overflow_add-start-in-loop-i : goal.overflow_add-start-in-loop-i
overflow_add-start-in-loop-i c =
    let t = turn _ c.requires.0 _ _ _ c.requires.1 (omega (arith, c.requires.2)) c.loop-i.invariant.2 in
    omega (arith, t.payload_in, t.short, payload-is _ _ _ c.packet_at-packet.result c.loop-i.invariant.2 t.payload_in c.packet_at-packet.ensures)

pub step-answered-requires : goal.step-answered-requires
step-answered-requires c = (
  omega (
    arith,
    run_fits capture_kind table_fits table-erases _ c.requires.0 _ _ _ c.requires.1 (le_trans c.loop-i.invariant.0 c.requires.2) c.requires.3 _ c.requires.4 _ _ _
        c.loop-i.invariant.5,
  ),
  c.loop-i.invariant.6,
)

pub loop-i-preserved : goal.loop-i-preserved
loop-i-preserved c =
    let k = c.step-answered.auto in
    let t = turn _ c.requires.0 _ _ _ c.requires.1 (omega (arith, c.requires.2)) c.loop-i.invariant.2 in
    let at = whole c.loop-i.going.standing c.loop-i.marks c.loop-i.room in
    let done = subst (λ (h : Heard). Does (step_of capture_kind at h) c.loop-i.going.octets c.loop-i.out
    (run_in c.step-answered.new.going c.step-answered.new.marks c.step-answered.new.room) c.step-answered.new.out) c.packet_at-packet.ensures c.step-answered.ensures.0 in (
      omega arith,
      k.out ∙ c.loop-i.invariant.1,
      next-start _ _ _ c.packet_at-packet.result c.loop-i.invariant.2 t.payload_in c.packet_at-packet.ensures,
      k.marks ∙ c.loop-i.invariant.3,
      k.room ∙ c.loop-i.invariant.4,
      run-again _ _ _ _ _ _ _ _ _ _ c.loop-i.invariant.5 done,
      stands-stepped _ _ _ _ _ _ c.loop-i.invariant.6 _ done.session,
    )
