-- `lending::open` meets its contract.
use mathlib.Core.Path.{ap, ◌∙◌}
use Rattle.octets.specs.Octets.{over}
use Rattle.session.specs.declared.Session.{Session}
use Rattle.lending.specs.Laid.{session_laid}
use Rattle.lending.proofs.CallsLaws.{room-taken, open_done}
use Rattle.lending.proofs.«open».Goals as goal

pub returns : goal.returns
returns c =
    let laid = c.put_vacant.ensures ∙ ap (λ (s : Session). over c.args.session.now 0 (session_laid s)) c.fresh.ensures in
    open_done _ _ _ _ _ c.never_opened-opened.ensures c.open.ensures _ _ c.in_ok-open.was (room-taken _ _ _ c.if-session-lt-OCTETS.false laid)
