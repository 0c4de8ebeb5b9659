-- `octets::fill` meets its contract.
use Rattle.std.proofs.Common.{rules}
use Rattle.octets.proofs.OctetsLaws.{put-over}
use Rattle.octets.proofs.fill.Goals as goal

pub returns : goal.returns
returns c = search (rules, put-over)
