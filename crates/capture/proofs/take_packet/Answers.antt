-- `capture::take_packet` meets its contract.
use Rattle.std.proofs.Common.{◌≤◌, ℕ, Result, refl, sym, ap, subst, ◌∙◌, arith}
use Rattle.answers.proofs.Exits.{exits}
use Rattle.answers.specs.declared.Refusal.{Refusal}
use Rattle.numbers.specs.Place.{minute}
use Rattle.session.specs.Session.{Offered}
use Rattle.capture.specs.Run.{lost_in}
use Rattle.capture.proofs.RunLaws.{lost-fit}
use Rattle.capture.proofs.InPlace.{fits-as, taken_as_lem, took-does, took-nothing}
use Rattle.capture.proofs.take_packet.Goals as goal

pub take-requires : goal.take-requires
take-requires c = (c.requires.1, fits-as _ _ _ c.requires.1 _ _ c.requires.2 _ refl)

pub returns-in_err-lost : goal.returns-in_err-lost
returns-in_err-lost c =
    let o = taken_as_lem _ _ _ c.requires.1 _ _ c.requires.2 _ refl _ c.take.ensures in
    (took-nothing _ _ _ _ _ _ _ o c.in_err-lost.was, exits _ _ c.from_residual.ensures.1 ∙ sym c.in_err-lost.was ∙ ap (λ (x : Offered). x.answer) o)

pub overflow_add-going : goal.overflow_add-going
unfolding lost_in
overflow_add-going c =
    let o = taken_as_lem _ _ _ c.requires.1 _ _ c.requires.2 _ refl _ c.take.ensures in
    let few : c.in_ok-lost.lost ≤ minute = subst (λ (r : Result ℕ Refusal). lost_in r ≤ minute) c.in_ok-lost.was (lost-fit _ _ _ _ o) in
    omega (arith, c.requires.0, few)

pub returns : goal.returns
unfolding lost_in
returns c =
    let o = taken_as_lem _ _ _ c.requires.1 _ _ c.requires.2 _ refl _ c.take.ensures in
    (took-does _ _ _ _ _ _ _ _ o (sym (ap lost_in c.in_ok-lost.was)) c.put_lost.ensures, sym c.in_ok-lost.was ∙ ap (λ (x : Offered). x.answer) o)
