-- `bundle::not_held` meets its contract.
use mathlib.Core.Path.{refl}
use Rattle.bundle.specs.Bundles.{not_held}
use Rattle.bundle.proofs.not_held.Goals as goal

pub returns : goal.returns
unfolding not_held
returns c = refl
