-- `recording::locate` meets its contract: each way out is a law of `Answering`. Assumes nothing.
use Rattle.std.proofs.Common.{◌+◌, ℕ, sym, ap, ◌∙◌, arith}
use Rattle.octets.proofs.OctetsLaws.{to_the_end}
use Rattle.answers.proofs.Exits.{exits}
use Rattle.recording.specs.Shown.{given_in}
use Rattle.recording.proofs.Answering.{show-refused, show-past, there}
use Rattle.recording.proofs.locate.Goals as goal

pub returns-in_err-count : goal.returns-in_err-count
unfolding given_in
returns-in_err-count c = exits _ _ c.from_residual.ensures.1 ∙ show-refused _ _ _ _ (sym c.in_err-count.was ∙ c.read.ensures)

pub returns-then-count-k : goal.returns-then-count-k
unfolding given_in
returns-then-count-k c = show-past _ _ _ _ (sym c.in_ok-count.was ∙ c.read.ensures) c.if-count-k.true

pub slice_bounds-seek-count : goal.slice_bounds-seek-count
slice_bounds-seek-count c = omega (arith, (there _ _ _ _ (sym c.in_ok-count.was ∙ c.read.ensures) c.if-count-k.false).here)

pub slice_bounds-seek-start : goal.slice_bounds-seek-start
slice_bounds-seek-start c = omega (arith, (there _ _ _ _ (sym c.in_ok-count.was ∙ c.read.ensures) c.if-count-k.false).here)

pub seek-at-requires : goal.seek-at-requires
seek-at-requires c = rw to_the_end (there _ _ _ _ (sym c.in_ok-count.was ∙ c.read.ensures) c.if-count-k.false).few

pub overflow_add-at : goal.overflow_add-at
overflow_add-at c =
    let s = rw to_the_end at c.seek-at.ensures in
    omega (arith, (there _ _ _ _ (sym c.in_ok-count.was ∙ c.read.ensures) c.if-count-k.false).here)

pub bounds-recording-at : goal.bounds-recording-at
bounds-recording-at c =
    let s = rw to_the_end at c.seek-at.ensures in
    omega (arith, (there _ _ _ _ (sym c.in_ok-count.was ∙ c.read.ensures) c.if-count-k.false).here)

pub overflow_add-result : goal.overflow_add-result
overflow_add-result c =
    let s = rw to_the_end at c.seek-at.ensures in
    omega (arith, (there _ _ _ _ (sym c.in_ok-count.was ∙ c.read.ensures) c.if-count-k.false).here)

pub returns : goal.returns
returns c =
    let s = rw to_the_end at c.seek-at.ensures in
    rw c.body_size.ensures ((there _ _ _ _ (sym c.in_ok-count.was ∙ c.read.ensures) c.if-count-k.false).place _ (ap (λ (n : ℕ). 7 + n) s))
