-- `packet::write_group` meets its contract. Assumes nothing.
use Rattle.std.proofs.Common.{ℕ, ◌+◌, ◌≡◌, List, sym, ap, ◌∙◌, arith, length, length-set}
use Rattle.answers.proofs.Exits.{exits}
use Rattle.answers.proofs.OutputsLaws.{writes-refusal, writes-no-room, writes-octets}
use Rattle.octets.specs.Octets.{over}
use Rattle.entries.specs.Kind.{kind_of}
use Rattle.packet.specs.Packet.{packet_frames, bodies_of, group_in}
use Rattle.packet.proofs.Choosing.{group-refused, group-count, group-made}
use Rattle.packet.proofs.Packing.{length-packed, packed-over}
use Rattle.packet.proofs.Numbering.{group-small}
use Rattle.packet.proofs.write_group.Goals as goal

pub overflow_mul-step : goal.overflow_mul-step
overflow_mul-step c =
    omega (arith, group-small c.args.l c.args.b c.requires.0 c.requires.3)

pub returns-then-count-step : goal.returns-then-count-step
returns-then-count-step c =
    writes-refusal _ _ _ (group-count _ _ _ _ _ _ (sym c.in_ok-count.was ∙ c.count.ensures) c.if-count-step.true)

pub pick-requires : goal.pick-requires
pick-requires c =
    let g = group-made _ _ c.args.n _ c.args.d _ _ (sym c.in_ok-count.was ∙ c.count.ensures) c.if-count-step.false in
    (record { length_small = c.requires.0; index_in = c.requires.1; bundle_small = c.requires.3; there = omega (arith, g.count) }, c.requires.3)

pub returns-then-out-size : goal.returns-then-out-size
returns-then-out-size c =
    let g = group-made (kind_of c.args.vocoder) c.args.l c.args.n c.args.b c.args.d _ c.args.entries.now
    (sym c.in_ok-count.was ∙ c.count.ensures) c.if-count-step.false in
    writes-no-room _ _ _ g.made
    (omega (
      arith,
      length-packed c.args.l c.args.n c.args.b c.args.d (group_in (kind_of c.args.vocoder) c.args.entries.now),
      c.pick.ensures.value.0,
    ))

pub write_table-requires : goal.write_table-requires
write_table-requires c =
    let p : length c.pick.new.places ≡ 10 = c.pick.auto.places in
    (c.requires.4, simp length-set (omega (arith, c.pick.ensures.value.1, c.if-out-size.false)), omega (arith, c.requires.3), c.pick.ensures.places_kept)

pub write_bodies-requires : goal.write_bodies-requires
write_bodies-requires c =
    let p : length c.pick.new.places ≡ 10 = c.pick.auto.places in
    let s : length c.write_table.new.out ≡ length c.args.out.now = c.write_table.auto.out ∙ simp length-set in
    (omega (arith, c.pick.ensures.value.0, c.if-out-size.false), omega (arith, c.requires.3), c.pick.ensures.places_kept)

pub returns-in_err-count : goal.returns-in_err-count
returns-in_err-count c =
    rw (exits _ _ c.from_residual.ensures.1) (writes-refusal _ _ _ (group-refused _ _ _ _ _ _ (sym c.in_err-count.was ∙ c.count.ensures)))

pub shape_of-out : goal.shape_of-out
shape_of-out c =
    c.write_bodies.auto.out ∙ c.write_table.auto.out ∙ simp length-set

pub returns : goal.returns
returns c =
    let es = c.args.entries.now in
    let fs = group_in (kind_of c.args.vocoder) es in
    let g = group-made (kind_of c.args.vocoder) c.args.l c.args.n c.args.b c.args.d _ c.args.entries.now
    (sym c.in_ok-count.was ∙ c.count.ensures) c.if-count-step.false in
    let m = length-packed c.args.l c.args.n c.args.b c.args.d fs in
    writes-octets _ _ _ _ _ g.made (omega (arith, c.pick.ensures.value.0, c.if-out-size.false)) (omega (arith, c.pick.ensures.value.0))
    (c.write_bodies.ensures
    ∙ ap (λ (o : List ℕ). over o (1 + c.args.b) (bodies_of (packet_frames c.args.l c.args.n c.args.b fs))) c.write_table.ensures
    ∙ packed-over c.args.l c.args.n c.args.b c.args.d fs c.args.out.now (omega (arith, c.if-out-size.false)))
