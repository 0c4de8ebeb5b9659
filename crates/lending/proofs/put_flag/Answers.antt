-- `lending::put_flag` meets its contract.
use Prim.Native.Nat.{ℕ}
use mathlib.Core.List.{[], ◌∷◌}
use mathlib.Core.Path.{ap, ◌∙◌}
use native.Mathlib.Omega.{arith}
use Rattle.octets.proofs.OctetsLaws.{set-over}
use Rattle.octets.specs.Octets.{over}
use Rattle.lending.proofs.put_flag.Goals as goal

pub returns : goal.returns
returns c =
    set-over _ _ _ (omega arith) ∙ ap (λ (x : ℕ). over c.args.out.now c.args.at (x ∷ [])) c.flag.ensures
