-- `holding::holds_packet` meets its contract.
use Rattle.holding.proofs.holds_packet.Goals as goal

pub returns : goal.returns
returns c =
    let e = c.parts.ensures in
    let told = c.holds_packet_in.ensures c.args.h.source in
    rw (e.0, e.1, e.2) at told
