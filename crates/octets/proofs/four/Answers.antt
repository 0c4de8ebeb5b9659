-- `octets::four` meets its contract.
use Rattle.std.proofs.Common.{◌∙◌}
use Rattle.octets.proofs.OctetsLaws.{four_is}
use Rattle.octets.proofs.four.Goals as goal

pub returns : goal.returns
returns c = c.from_be_bytes.ensures ∙ four_is _ _
