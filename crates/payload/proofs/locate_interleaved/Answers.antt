-- `payload::locate_interleaved` meets its contract: each way out is a law of `Laying`. Assumes nothing.
use Rattle.std.proofs.Common.{sym, ◌∙◌, arith}
use Rattle.answers.proofs.Exits.{exits}
use Rattle.payload.specs.Shown.{given_as}
use Rattle.payload.proofs.Laying.{show-refused, show-past, shows}
use Rattle.payload.proofs.locate_interleaved.Goals as goal

pub returns-in_err-held : goal.returns-in_err-held
unfolding given_as
returns-in_err-held c = exits _ _ c.from_residual.ensures.1 ∙ show-refused _ _ _ _ (sym c.in_err-held.was ∙ c.read_interleaved.ensures.value)

pub returns-then-count-k : goal.returns-then-count-k
unfolding given_as
returns-then-count-k c = show-past _ _ _ _ _ _ _ (sym c.in_ok-held.was ∙ c.read_interleaved.ensures.value) c.if-count-k.true

pub bounds-payload-k : goal.bounds-payload-k
bounds-payload-k c = (shows _ _ _ _ _ _ _ _ (sym c.in_ok-held.was ∙ c.read_interleaved.ensures.value) c.if-count-k.false).entry

pub bounds-sums-k : goal.bounds-sums-k
bounds-sums-k c = omega (arith, (shows _ _ _ _ _ _ _ _ (sym c.in_ok-held.was ∙ c.read_interleaved.ensures.value) c.if-count-k.false).few)

pub overflow_add-result-2 : goal.overflow_add-result-2
overflow_add-result-2 c =
    let sum = c.read_interleaved.ensures.sums_kept _ _ _ _ c.in_ok-held.was _ c.if-count-k.false in
    omega (arith, sum, (shows _ _ _ _ _ _ _ _ (sym c.in_ok-held.was ∙ c.read_interleaved.ensures.value) c.if-count-k.false).inside)

pub returns : goal.returns
returns c =
    let sum = c.read_interleaved.ensures.sums_kept _ _ _ _ c.in_ok-held.was _ c.if-count-k.false in
    rw (sum, c.body_size.ensures) (shows _ _ _ _ _ _ _ _ (sym c.in_ok-held.was ∙ c.read_interleaved.ensures.value) c.if-count-k.false).place
