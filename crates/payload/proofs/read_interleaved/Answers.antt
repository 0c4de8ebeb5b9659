-- `payload::read_interleaved` meets its contract: the limits are opened first. Assumes nothing.
use Rattle.std.proofs.Common.{sym, ◌∙◌}
use Rattle.answers.proofs.Exits.{exits}
use Rattle.payload.proofs.Checks.{not_opened, is-opened, opened-few}
use Rattle.payload.proofs.read_interleaved.Goals as goal

pub read_within-requires : goal.read_within-requires
read_within-requires c = (opened-few c.args.limits _ (sym c.open.ensures ∙ c.in_ok-agreed.was), c.requires)

pub returns-in_err-agreed-clause-value : goal.returns-in_err-agreed-clause-value
returns-in_err-agreed-clause-value c = exits _ _ c.from_residual.ensures.1 ∙ not_opened _ _ _ _ (sym c.open.ensures ∙ c.in_err-agreed.was)

pub returns-clause-value : goal.returns-clause-value
returns-clause-value c = c.read_within.ensures.value ∙ is-opened _ _ _ _ (sym c.open.ensures ∙ c.in_ok-agreed.was)
