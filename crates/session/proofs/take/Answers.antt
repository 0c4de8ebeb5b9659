-- `session::take` meets its contract.
use Rattle.std.proofs.Common.{◌≡◌, ap, ◌∙◌, Ok}
use Rattle.answers.proofs.Exits.{exits}
use Rattle.session.specs.declared.Decision.TheVariants as decision
use Rattle.session.specs.Session.{refuse}
use Rattle.session.specs.Standing.{decided_as}
use Rattle.session.proofs.StandingLaws.{took-first, took_more}
use Rattle.session.proofs.take.Goals as goal

pub returns-in_err-numbers : goal.returns-in_err-numbers
unfolding decided_as refuse
returns-in_err-numbers c = rw (exits _ _ c.from_residual.ensures.1, c.in_err-numbers.was)

pub returns-in-Begins : goal.returns-in-Begins
returns-in-Begins c =
    let q : c.args.decision ≡ Ok (decision.Begins c.in-Begins.numbers c.in-Begins.n c.in-Begins.lost) = c.in_ok-numbers.was ∙ ap Ok c.in-Begins.is in
    let f = rw q at c.requires.1 in
    rw q (took-first _ _ _ c.requires.0 _ _ _ _ c.lay_in.ensures.0 c.lay_in.ensures.1 _ _ _ c.begin_group.ensures f.2)

pub returns-in-PutIn : goal.returns-in-PutIn
returns-in-PutIn c =
    let q : c.args.decision ≡ Ok (decision.PutIn c.in-PutIn.n) = c.in_ok-numbers.was ∙ ap Ok c.in-PutIn.is in
    rw q (took_more _ _ _ c.requires.0 _ _ _ _ c.lay_in-in-PutIn.ensures.0 c.lay_in-in-PutIn.ensures.1 _ c.hold_packet.ensures)
