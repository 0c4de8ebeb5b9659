-- `lending::put_pair` meets its contract.
use native.Mathlib.Omega.{arith}
use Rattle.octets.proofs.OctetsLaws.{set-two}
use Rattle.lending.proofs.put_pair.Goals as goal

pub returns : goal.returns
returns c = set-two _ _ _ _ (omega arith)
