-- `capture::answer` meets its contract. Assumes nothing.
use Rattle.std.proofs.Common.{sym, ◌∙◌, arith}
use Rattle.capture.proofs.CaptureLaws.{good-is, table-in}
use Rattle.capture.proofs.Answering.{no-packet, told-answer}
use Rattle.capture.proofs.answer.Goals as goal

pub two-count-requires : goal.two-count-requires
two-count-requires c = omega (arith, table-in _ (good-is _ (sym c.is_good.ensures ∙ c.if-not-is_good.false)))

pub returns-then-count-i : goal.returns-then-count-i
returns-then-count-i c = told-answer _ _ _ _ (sym c.is_good.ensures ∙ c.if-not-is_good.false) (no-packet _ _ _ _ c.two-count.ensures c.if-count-i.true)
