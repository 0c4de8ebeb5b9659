-- `holding::packets_right` meets its contract.
use Rattle.std.proofs.Common.{◌≡◌, ℕ, Bool, true, false, refl, rules, tests, arith}
use Rattle.std.proofs.lemmas.Iterator.{cases_from_all, YieldsList-from_range}
use Rattle.frame.specs.Shape.{packets_of, shape_of, voice_of}
use Rattle.octets.proofs.Below.{all_tested}
use Rattle.holding.specs.Group.{right_of}
use Rattle.holding.proofs.packets_right.Goals as goal

pub returns : goal.returns
returns c =
    let right : ℕ → Bool = right_of (voice_of c.args.vocoder) c.args.numbers c.args.group in
    let n = packets_of (shape_of c.args.vocoder) in
    all_tested right n _ (cases_from_all _ _ _ (λ k. right k ≡ true) (λ k. right k ≡ false) c.all.ensures.ran (YieldsList-from_range 0 _ n refl (omega arith))
    (λ x q k. search (rules, tests)) (λ x q k. search (rules, tests)))
