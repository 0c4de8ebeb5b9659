-- `packet::write_body` meets its contract. Assumes nothing.
use Rattle.std.proofs.Common.{sym, ap, ◌∙◌, length}
use Rattle.answers.proofs.Exits.{exits}
use Rattle.answers.proofs.OutputsLaws.{writes-refusal, writes-no-room, writes-octets}
use Rattle.octets.proofs.OctetsLaws.{to_the_end}
use Rattle.octets.specs.Octets.{over}
use Rattle.packet.proofs.Choosing.{body_refused, body-count, one-made}
use Rattle.packet.proofs.write_body.Goals as goal

pub returns-in_err-count : goal.returns-in_err-count
returns-in_err-count c =
    rw (exits _ _ c.from_residual.ensures.1) (writes-refusal _ _ _ (body_refused _ _ (sym c.in_err-count.was ∙ c.count.ensures)))

pub returns-then-count-ne1 : goal.returns-then-count-ne1
returns-then-count-ne1 c = writes-refusal _ _ _ (body-count _ _ (sym c.in_ok-count.was ∙ c.count.ensures) c.if-count-ne1.true)

pub slice_bounds-body-count : goal.slice_bounds-body-count
slice_bounds-body-count c = (one-made _ _ _ (sym c.in_ok-count.was ∙ c.count.ensures) c.if-count-ne1.false).some

pub slice_bounds-body-start : goal.slice_bounds-body-start
slice_bounds-body-start c = (one-made _ _ _ (sym c.in_ok-count.was ∙ c.count.ensures) c.if-count-ne1.false).some

pub returns-then-out-body : goal.returns-then-out-body
returns-then-out-body c =
    writes-no-room _ _ _ (one-made _ _ _ (sym c.in_ok-count.was ∙ c.count.ensures) c.if-count-ne1.false).made
    (rw to_the_end at c.if-out-body.true)

pub returns : goal.returns
returns c =
    let body = to_the_end c.args.entries.now 1 in
    writes-octets _ _ _ _ _ (one-made _ _ _ (sym c.in_ok-count.was ∙ c.count.ensures) c.if-count-ne1.false).made
    (rw to_the_end at c.if-out-body.false) (ap length body) (c.copy.ensures ∙ ap (over c.args.out.now 0) body)
