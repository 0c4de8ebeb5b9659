-- `octets::two` meets its contract.
use Rattle.octets.specs.Octets.{two_at}
use Rattle.octets.proofs.two.Goals as goal

pub returns : goal.returns
unfolding two_at
returns c = c.from_be_bytes.ensures
