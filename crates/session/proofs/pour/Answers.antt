-- `session::pour` meets its contract.
use Rattle.std.proofs.Common.{refl, sym, ◌∙◌}
use Rattle.answers.proofs.Exits.{exits}
use Rattle.answers.proofs.OutputsLaws.{writes-refusal}
use Rattle.session.specs.Session.{after_pour}
use Rattle.session.proofs.SessionLaws.{pour-closed, pour-vacant, pour-group, group-holds, handed-on}
use Rattle.session.proofs.pour.Goals as goal
use Rattle.session.proofs.pour.Goals.{then-not-is_open-via-then-not-is_open, then-not-is_open-via-else-not-is_open+then-session-eq0}

pub returns-then-not-is_open : goal.returns-then-not-is_open
unfolding after_pour
returns-then-not-is_open c = (
  writes-refusal _ _ _ (elim c.then-not-is_open.branch [
    | then-not-is_open-via-then-not-is_open w ↦ pour-closed _ _ (sym c.is_open.ensures ∙ w.if-not-is_open.true)
    | then-not-is_open-via-else-not-is_open+then-session-eq0 w ↦ pour-vacant _ _ (sym c.is_open.ensures ∙ w.if-not-is_open.false) w.if-session-eq0.true
  ]),
  refl,
)

pub pour_held-requires : goal.pour_held-requires
pour_held-requires c = group-holds _ _ (sym c.is_open.ensures ∙ c.if-not-is_open.false) c.if-session-eq0.false

pub returns-in_err-count : goal.returns-in_err-count
unfolding after_pour
returns-in_err-count c =
    let e = exits _ _ c.from_residual.ensures.1 in
    (handed-on _ _ _ _ _ _ (pour-group _ _ (sym c.is_open.ensures ∙ c.if-not-is_open.false) c.if-session-eq0.false) (c.in_err-count.was ∙ sym e) c.pour_held.ensures, rw e refl)

pub returns : goal.returns
unfolding after_pour
returns c =
    (handed-on _ _ _ _ _ _ (pour-group _ _ (sym c.is_open.ensures ∙ c.if-not-is_open.false) c.if-session-eq0.false) c.in_ok-count.was c.pour_held.ensures, c.forget_group.ensures)
