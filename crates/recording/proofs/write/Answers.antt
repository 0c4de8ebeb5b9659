-- `recording::write` meets its contract. Assumes nothing.
use Rattle.std.proofs.Common.{ℕ, List, sym, ap, ◌∙◌, arith}
use Rattle.octets.specs.Octets.{over}
use Rattle.octets.proofs.OctetsLaws.{over-append}
use Rattle.answers.proofs.Exits.{exits}
use Rattle.answers.proofs.OutputsLaws.{writes-refusal, writes-no-room, writes-octets}
use Rattle.entries.specs.Entries.{cleared}
use Rattle.entries.specs.Kind.{kind_of}
use Rattle.recording.proofs.Answering.{made-refused, made-frames, made-length}
use Rattle.recording.proofs.write.Goals as goal
use Rattle.recording.proofs.write.Goals.{then-out-lt-HEAD-via-then-out-lt-HEAD, then-out-lt-HEAD-via-else-out-lt-HEAD+then-out-entries}

pub returns-in_err-count : goal.returns-in_err-count
returns-in_err-count c =
    rw (exits _ _ c.from_residual.ensures.1) (writes-refusal _ _ _ (made-refused _ _ _ (sym c.in_err-count.was ∙ c.count.ensures)))

pub returns-then-out-lt-HEAD : goal.returns-then-out-lt-HEAD
returns-then-out-lt-HEAD c =
    let n = made-length (kind_of c.args.vocoder) c.args.entries.now in
    writes-no-room _ _ _ (made-frames _ _ _ (sym c.in_ok-count.was ∙ c.count.ensures))
    (elim c.then-out-lt-HEAD.branch [
      | then-out-lt-HEAD-via-then-out-lt-HEAD w ↦ omega (arith, n, w.if-out-lt-HEAD.true)
      | then-out-lt-HEAD-via-else-out-lt-HEAD+then-out-entries w ↦ omega (arith, n, w.if-out-lt-HEAD.false, w.if-out-entries.true)
    ])

pub returns : goal.returns
returns c =
    let es = c.args.entries.now in
    let n = made-length (kind_of c.args.vocoder) es in
    writes-octets _ _ _ _ _ (made-frames _ _ _ (sym c.in_ok-count.was ∙ c.count.ensures)) (omega arith) (sym n)
    (c.write_cleared.ensures
    ∙ ap (λ (l : List ℕ). over l 7 (cleared (kind_of c.args.vocoder) 0 es)) c.copy.ensures
    ∙ over-append c.args.out.now 0 _ (cleared (kind_of c.args.vocoder) 0 es) (omega arith))
