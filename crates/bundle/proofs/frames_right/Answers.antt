-- `bundle::frames_right` meets its contract.
use Rattle.std.proofs.Common.{◌≡◌, ℕ, Bool, true, false, refl, rules, tests}
use Rattle.std.proofs.lemmas.Iterator.{cases_from_all, YieldsList-from_range}
use Rattle.frame.specs.Shape.{voice_of}
use Rattle.octets.proofs.Below.{all_tested}
use Rattle.bundle.specs.Bundles.{as_bundle, frame_right, frames_right}
use Rattle.bundle.proofs.frames_right.Goals as goal

pub returns : goal.returns
unfolding frames_right
returns c =
    let right : ℕ → Bool = frame_right (voice_of c.args.vocoder) c.args.b (as_bundle c.args.p) in
    all_tested right 10 _ (cases_from_all _ _ _ (λ k. right k ≡ true) (λ k. right k ≡ false) c.all.ensures.ran (YieldsList-from_range 0 10 10 refl refl)
    (λ x q k. search (rules, tests)) (λ x q k. search (rules, tests)))
