-- `holding::with_bit` meets its contract.
use Rattle.std.proofs.Common.{rules}
use Rattle.holding.specs.Asked.{with_bit}
use Rattle.holding.proofs.with_bit.Goals as goal

pub returns : goal.returns
unfolding with_bit
returns c = search rules
