-- `holding::is_sound` meets its contract.
use Rattle.holding.proofs.is_sound.Goals as goal

pub returns : goal.returns
returns c =
    let e = c.parts.ensures in
    let told = c.is_sound_in.ensures c.args.h.source in
    rw (e.0, e.1, e.2) at told
