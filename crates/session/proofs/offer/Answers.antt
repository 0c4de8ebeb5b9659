-- `session::offer` meets its contract.
use Rattle.std.proofs.Common.{sym, ap, subst, ◌∙◌, rules}
use Rattle.frame.specs.Shape.{holding_shape}
use Rattle.holding.specs.Group.{Shaped}
use Rattle.session.specs.Session.{refuse}
use Rattle.session.specs.declared.Session.{Session}
use Rattle.session.proofs.SessionLaws.{offer-closed}
use Rattle.session.proofs.StandingLaws.{may-take, offered-of}
use Rattle.session.proofs.offer.Goals as goal

pub returns-then-not-is_open : goal.returns-then-not-is_open
unfolding refuse
returns-then-not-is_open c = offer-closed _ _ _ _ _ _ (sym c.is_open.ensures ∙ c.if-not-is_open.true)

pub take-answer-requires : goal.take-answer-requires
take-answer-requires c =
    let opened = sym c.is_open.ensures ∙ c.if-not-is_open.false in
    let shaped : Shaped holding_shape c.args.session.now.group = search rules in
    may-take c.args.session.now _ _ _ c.standing_of-standing.ensures opened
    (subst (λ (s : Session). Shaped holding_shape s.group) (sym c.standing_of-standing.ensures) shaped) _ _ _ _ _ c.decide-decision.ensures

pub returns : goal.returns
returns c =
    let opened = sym c.is_open.ensures ∙ c.if-not-is_open.false in
    let shaped : Shaped holding_shape c.args.session.now.group = search rules in
    ap (λ (s : Session). record { answer = c.take-answer.result; session = s }) c.put_back.ensures
    ∙ offered-of c.args.session.now _ _ _ c.standing_of-standing.ensures opened
    (subst (λ (s : Session). Shaped holding_shape s.group) (sym c.standing_of-standing.ensures) shaped) _ _ _ _ _ c.decide-decision.ensures _
    c.take-answer.ensures
