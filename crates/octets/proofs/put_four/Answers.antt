-- `octets::put_four` meets its contract.
use Rattle.std.proofs.Common.{rules}
use Rattle.octets.proofs.OctetsLaws.{put-over, four_be, length-four}
use Rattle.octets.proofs.put_four.Goals as goal

pub returns : goal.returns
returns c = search (rules, put-over, four_be, length-four)
