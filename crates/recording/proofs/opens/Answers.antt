-- `recording::opens` meets its contract. Assumes nothing.
use Rattle.std.proofs.Common.{◌∙◌}
use Rattle.octets.proofs.Pointwise.{same_pointwise}
use Rattle.recording.specs.Recording.{opens_with}
use Rattle.recording.proofs.opens.Goals as goal

pub returns : goal.returns
unfolding opens_with
returns c = c.starts_with.ensures.value ∙ same_pointwise _ _
