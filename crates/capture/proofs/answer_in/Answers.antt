-- `capture::answer_in` meets its contract: the run over the packets before it leads to the session that answers it. Assumes nothing.
use Prim.Native.Nat.{ℕ, ◌≤◌, ◌<◌}
use mathlib.Core.Path.{◌≡◌, refl, ap, ◌∙◌}
use native.Mathlib.Omega.{arith}
use Rattle.frame.specs.Places.{up_to}
use Rattle.session.specs.Standing.{whole}
use Rattle.session.specs.declared.Session.{Session}
use Rattle.capture.specs.Capture.{heard_at}
use Rattle.capture.specs.Run.{capture_kind, answered_by, run_of}
use Rattle.capture.proofs.RunLaws.{table_fits, table-erases, run_fits}
use Rattle.capture.proofs.CaptureLaws.{good-is, table-in, start-at, turn}
use Rattle.capture.proofs.Answering.{packet-answered}
use Rattle.capture.proofs.InPlace.{first-whole, first-stands}
use Rattle.capture.proofs.answer_in.Goals as goal

not_none : {i n : ℕ} → i < n → n ≡ 0 → ⊥
not_none h e = absurd (omega arith)

pub first_standing-requires : goal.first_standing-requires
first_standing-requires c = omega (arith, c.requires.1, c.requires.2, table-in _ (good-is _ c.requires.0))

pub run_packets-requires : goal.run_packets-requires
run_packets-requires c =
    let first = first-whole _ _ c.requires.1 (not_none c.requires.2) _ c.first_standing.ensures in
    let opened = first-stands _ _ c.requires.1 (not_none c.requires.2) _ c.first_standing.ensures in
    (c.requires.0, c.requires.1, omega (arith, c.requires.2), refl, first, opened)

pub overflow_mul-start : goal.overflow_mul-start
overflow_mul-start c =
    omega (arith, c.requires.1, (good-is _ c.requires.0).few)

pub overflow_add-start : goal.overflow_add-start
overflow_add-start c =
    omega (arith, c.requires.1, (good-is _ c.requires.0).few)

pub payload_octets-requires : goal.payload_octets-requires
payload_octets-requires c =
    (omega (arith, c.requires.1, c.requires.2, table-in _ (good-is _ c.requires.0)), omega (arith, c.requires.1, c.requires.2, (good-is _ c.requires.0).few))

pub overflow_add-start-2 : goal.overflow_add-start-2
overflow_add-start-2 c =
    omega (arith, c.requires.1, c.requires.2, (good-is _ c.requires.0).few, c.payload_octets.ensures.1)

pub packet_at-packet-requires : goal.packet_at-packet-requires
packet_at-packet-requires c =
    let s = start-at _ _ _ _ c.requires.1 c.payload_octets.ensures.0 in
    let t = turn _ c.requires.0 _ _ _ c.requires.1 c.requires.2 s in
    (t.row_in, s, t.payload_in)

pub step-requires : goal.step-requires
step-requires c =
    let few : c.args.i ≤ c.args.count = omega (arith, c.requires.2) in
    let first = first-whole _ _ c.requires.1 (not_none c.requires.2) _ c.first_standing.ensures in
    (run_fits capture_kind table_fits table-erases _ c.requires.0 _ _ _ c.requires.1 few refl _ first _ _ _ c.run_packets.ensures.0, c.run_packets.ensures.1)

pub returns : goal.returns
returns c =
    let first = first-whole _ _ c.requires.1 (not_none c.requires.2) _ c.first_standing.ensures in
    packet-answered capture_kind _ _ _ _ _ c.requires.1 c.requires.2
    (c.run_packets.ensures.0.session
    ∙ ap (λ (z : Session). (run_of capture_kind z (up_to (heard_at c.args.capture.now) c.args.i)).session) first)
    (c.step.ensures.1 ∙ ap (answered_by capture_kind (whole c.run_packets.new.going.standing c.run_packets.new.marks c.run_packets.new.room)) c.packet_at-packet.ensures)
