-- `joining::agrees` meets its contract.
use Rattle.std.proofs.Common.{◌≡◌, ℕ, Bool, true, false, ap, refl, ◌∙◌, arith, rules, tests}
use Rattle.std.proofs.lemmas.Iterator.{cases_from_all, YieldsList-from_range}
use Rattle.octets.specs.Octets.{all_below}
use Rattle.octets.proofs.Below.{all_tested}
use Rattle.frame.specs.Shape.{shape_of}
use Rattle.joining.specs.Joining.{agree_of}
use Rattle.joining.proofs.agrees.Goals as goal

pub returns : goal.returns
returns c =
    let f : ℕ → Bool = agree_of (shape_of c.args.vocoder) c.args.a c.args.b in
    all_tested f c.packets_of.result _ (cases_from_all _ _ _ (λ k. f k ≡ true) (λ k. f k ≡ false) c.all.ensures.ran (YieldsList-from_range 0 _ c.packets_of.result refl (omega arith))
    (λ x q k. search (rules, tests)) (λ x q k. search (rules, tests)))
    ∙ ap (all_below f) c.packets_of.ensures
