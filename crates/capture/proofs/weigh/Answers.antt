-- `capture::weigh` meets its contract.
use Rattle.std.proofs.Common.{refl, ap, ◌∙◌, Ok, arith}
use Rattle.capture.proofs.WeighingLaws.{weigh-begun, weigh-put, weighs-refused, weighs-again, weighs-put, weighs-begun}
use Rattle.capture.proofs.weigh.Goals as goal

pub overflow_sub-bodies : goal.overflow_sub-bodies
overflow_sub-bodies c = omega (arith, (weigh-begun _ _ _ c.requires.2 _ _ _ (c.in-Ok.is ∙ ap Ok c.in-Begins.is) c.requires.1).1)

pub overflow_sub-bodies-in-Begins : goal.overflow_sub-bodies-in-Begins
overflow_sub-bodies-in-Begins c = omega (arith, (weigh-begun _ _ _ c.requires.2 _ _ _ (c.in-Ok.is ∙ ap Ok c.in-Begins.is) c.requires.1).1)

pub begin_group-requires : goal.begin_group-requires
begin_group-requires c = (weigh-begun _ _ _ c.requires.2 _ _ _ (c.in-Ok.is ∙ ap Ok c.in-Begins.is) c.requires.1).0

pub overflow_add-result : goal.overflow_add-result
overflow_add-result c = omega (arith, (weigh-begun _ _ _ c.requires.2 _ _ _ (c.in-Ok.is ∙ ap Ok c.in-Begins.is) c.requires.1).2, c.requires.0)

pub overflow_add-result-in-Begins : goal.overflow_add-result-in-Begins
overflow_add-result-in-Begins c =
    let f = weigh-begun _ _ _ c.requires.2 _ _ _ (c.in-Ok.is ∙ ap Ok c.in-Begins.is) c.requires.1 in
    omega (arith, f.2, f.3, c.requires.0)

pub overflow_add-result-in-Begins-2 : goal.overflow_add-result-in-Begins-2
overflow_add-result-in-Begins-2 c =
    let f = weigh-begun _ _ _ c.requires.2 _ _ _ (c.in-Ok.is ∙ ap Ok c.in-Begins.is) c.requires.1 in
    omega (arith, f.2, f.3, c.requires.0)

pub overflow_sub-bodies-in-PutIn : goal.overflow_sub-bodies-in-PutIn
overflow_sub-bodies-in-PutIn c = omega (arith, (weigh-put _ _ _ c.requires.2 _ (c.in-Ok.is ∙ ap Ok c.in-PutIn.is) c.requires.1).1)

pub overflow_sub-bodies-in-PutIn-2 : goal.overflow_sub-bodies-in-PutIn-2
overflow_sub-bodies-in-PutIn-2 c = omega (arith, (weigh-put _ _ _ c.requires.2 _ (c.in-Ok.is ∙ ap Ok c.in-PutIn.is) c.requires.1).1)

pub hold_packet-requires : goal.hold_packet-requires
hold_packet-requires c = (weigh-put _ _ _ c.requires.2 _ (c.in-Ok.is ∙ ap Ok c.in-PutIn.is) c.requires.1).0

pub returns-in-Begins : goal.returns-in-Begins
returns-in-Begins c = weighs-begun _ _ _ c.requires.2 _ _ _ _ _ (c.in-Ok.is ∙ ap Ok c.in-Begins.is) refl c.begin_group.ensures

pub returns-in-PutIn : goal.returns-in-PutIn
returns-in-PutIn c = weighs-put _ _ _ c.requires.2 _ _ _ (c.in-Ok.is ∙ ap Ok c.in-PutIn.is) refl c.hold_packet.ensures

pub returns-in_default : goal.returns-in_default
returns-in_default c = weighs-refused _ _ _ c.requires.2 _ c.in_default.is

pub returns-in-Again : goal.returns-in-Again
returns-in-Again c = weighs-again _ _ _ c.requires.2 _ (c.in-Ok.is ∙ ap Ok c.in-Again.is)
