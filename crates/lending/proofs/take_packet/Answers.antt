-- `lending::take_packet` meets its contract.
use mathlib.Core.Path.{refl}
use Rattle.lending.proofs.PartsLaws.{taken_back}
use Rattle.lending.proofs.take_packet.Goals as goal

pub returns : goal.returns
returns c =
    taken_back _ _ _ c.args.session.now _ _ _ c.requires.0 c.take.auto.room refl c.take.ensures
