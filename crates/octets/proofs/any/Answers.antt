-- `octets::any` meets its contract.
use Rattle.std.proofs.Common.{◌∙◌}
use Rattle.octets.proofs.OctetsLaws.{any-listed}
use Rattle.octets.proofs.any.Goals as goal

pub returns : goal.returns
returns c = c.contains.ensures.value ∙ any-listed _
