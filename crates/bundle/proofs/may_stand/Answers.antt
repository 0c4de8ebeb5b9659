-- `bundle::may_stand` meets its contract.
use Rattle.std.proofs.Common.{arith}
use Rattle.std.proofs.lemmas.Grind.{common_steps}
use Rattle.bundle.specs.Bundles.{may_stand}
use Rattle.bundle.proofs.may_stand.Goals as goal

pub returns-then-k-b : goal.returns-then-k-b
unfolding may_stand
returns-then-k-b c = grind (arith, common_steps)

pub returns-else-k-b : goal.returns-else-k-b
unfolding may_stand
returns-else-k-b c = grind (arith, common_steps)
