-- The opening octets. Assumes nothing.
use Prim.Native.Nat.{ℕ, ◌≤◌, ◌<◌}
use mathlib.Core.Path.{◌≡◌, refl, ap, ◌∙◌}
use mathlib.Core.List.{List, ◌++◌}
use mathlib.Core.Bool.{Bool, true, false}
use native.Mathlib.Omega.{arith}
use lib.ListN.{length, take, drop, take-append-drop}
use lib.Seq.{take-append_seam, take_all}
use lib.Dec.{leb}
use borrow.Author.Tests.{leb-true, leb-false}
use Rattle.octets.proofs.Logic.{apart}
use Rattle.octets.proofs.OctetsLaws.{same_refl, same_true, same-long}
use Rattle.entries.specs.Kind.{Kind}
use Rattle.recording.specs.Recording.{opens_with}

pub too_short : (kind : Kind) (p : List ℕ) → length p < length kind.opening → opens_with kind p ≡ false
unfolding opens_with
too_short kind p h =
    same-long kind.opening (take (length kind.opening) p)
    (λ e. let q : take (length kind.opening) p ≡ p = take_all (length kind.opening) p (omega arith) in absurd (omega (arith, ap length q)))

pub long_enough : (kind : Kind) (p : List ℕ) → opens_with kind p ≡ true → length kind.opening ≤ length p
long_enough kind p e = go (leb (length kind.opening) (length p)) refl
  where
    go : (b : Bool) → leb (length kind.opening) (length p) ≡ b → length kind.opening ≤ length p
    go true q = leb-true _ _ q
    go false q = let x = too_short kind p (leb-false _ _ q) in apart (cc)

pub begins-self : (kind : Kind) (r : List ℕ) → opens_with kind (kind.opening ++ r) ≡ true
unfolding opens_with
begins-self kind r = rw (take-append_seam kind.opening r) (same_refl kind.opening)

pub begins-split : (kind : Kind) (p : List ℕ) → opens_with kind p ≡ true → kind.opening ++ drop (length kind.opening) p ≡ p
unfolding opens_with
begins-split kind p e = ap (λ (l : List ℕ). l ++ drop (length kind.opening) p) (same_true kind.opening (take (length kind.opening) p) e) ∙ take-append-drop (length kind.opening) p
