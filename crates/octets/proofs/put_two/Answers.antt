-- `octets::put_two` meets its contract.
use Rattle.std.proofs.Common.{rules}
use Rattle.octets.proofs.OctetsLaws.{put-over, two_be, length_two}
use Rattle.octets.proofs.put_two.Goals as goal

pub returns : goal.returns
returns c = search (rules, put-over, two_be, length_two)
