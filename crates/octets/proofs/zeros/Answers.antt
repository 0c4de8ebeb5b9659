-- `octets::zeros` meets its contract.
use Rattle.std.proofs.Common.{◌≡◌, ℕ, Bool, true, ◌&&◌, eqb, arith, ◌∙◌}
use Rattle.std.specs.List.{fold}
use Rattle.std.proofs.lemmas.Grind.{common_steps}
use Rattle.octets.proofs.OctetsLaws.{zeros-folded}
use Rattle.octets.proofs.zeros.Goals as goal

pub returns : goal.returns
returns c =
    let e : c.fold.result ≡ fold (λ (t : Bool) (x : ℕ). t && eqb x 0) true c.args.s.now = grind (arith, common_steps) in
    e ∙ zeros-folded _ true
