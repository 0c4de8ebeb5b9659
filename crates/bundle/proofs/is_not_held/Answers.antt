-- `bundle::is_not_held` meets its contract.
use Rattle.std.proofs.Common.{◌∙◌}
use Rattle.bundle.proofs.BundlesLaws.{types-stand, all-erased}
use Rattle.bundle.proofs.is_not_held.Goals as goal

pub returns-then-same : goal.returns-then-same
returns-then-same c = c.zeros.ensures ∙ all-erased _ _ _ _ c.same.ensures c.if-same.true c.requires

pub returns-else-same : goal.returns-else-same
returns-else-same c = c.if-same.false ∙ types-stand _ _ _ _ c.same.ensures c.if-same.false
