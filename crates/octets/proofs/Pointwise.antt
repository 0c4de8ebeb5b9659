-- The library's equality of lists is the one of the contracts. Assumes nothing.
use Rattle.std.proofs.Common.{◌≡◌, ℕ, List, [], ◌∷◌, ◌&&◌, Bool, eqb, refl, ap}
use lib.Pointwise.{pointwise}
use Rattle.octets.specs.Octets.{same_octets}

pub same_pointwise : (a b : List ℕ) → pointwise eqb a b ≡ same_octets a b
unfolding same_octets pointwise
same_pointwise [] [] = refl
same_pointwise [] (y ∷ ys) = refl
same_pointwise (x ∷ xs) [] = refl
same_pointwise (x ∷ xs) (y ∷ ys) = ap (λ (t : Bool). eqb x y && t) (same_pointwise xs ys)
