-- What is asked of holdings, way by way. Assumes nothing.
use Rattle.std.proofs.Common.{Result, Err}
use Prim.Native.Nat.{ℕ, zero, suc, ◌+◌, ◌-◌, ◌*◌, ◌^◌, ◌≤◌, ◌<◌}
use mathlib.Core.Bool.{Bool, true, false, cond}
use mathlib.Core.Path.{◌≡◌, sym, ap, ◌∙◌}
use mathlib.Core.List.{List, [], ◌∷◌}
use native.Mathlib.Omega.{arith}
use native.Mathlib.Nat.{pow-succ', le_refl}
use lib.ListN.{length, drop, get_or, length-drop, drop_of_length-le}
use lib.Pow.{pow_pos}
use lib.Seq.{drop-cons}
use borrow.Author.Tests.{eq-eqb, ne_eqb}
use Rattle.answers.specs.declared.Refusal.{Refusal}
use Rattle.frame.specs.Shape.{Voice}
use Rattle.answers.specs.declared.Refusal.TheVariants.{AnotherSource}
use Rattle.numbers.specs.Place.{after_poured}
use Rattle.numbers.specs.declared.GroupNumbers.{GroupNumbers}
use Rattle.numbers.specs.declared.Verdict.{Verdict}
use Rattle.holding.specs.Group.{holds}
use Rattle.holding.specs.Asked.{with_bit, bits_of, lost_by, lost_between}
use Rattle.holding.specs.declared.Holding.{Holding}

-- ---- flags as a number

-- k flags are a number of k bits
pub bits_small : (bs : List Bool) (k : ℕ) → length bs ≤ k → bits_of bs < 2 ^ k
unfolding bits_of with_bit
bits_small [] k h = pow_pos k
bits_small (b ∷ bs) zero h = absurd (omega arith)
bits_small (b ∷ bs) (suc k) h = rw (pow-succ' 2 k) (one_more b (bits_of bs) (2 ^ k) (bits_small bs k (omega arith)))
  where
    one_more : (b : Bool) (x p : ℕ) → x < p → cond b 1 0 + 2 * x < 2 * p
    one_more true x p h = omega arith
    one_more false x p h = omega arith

-- a loop over them, from the last to the first: x is the number of those from n on
pub bits_none : (bs : List Bool) → 0 ≡ bits_of (drop (length bs) bs)
unfolding bits_of
bits_none bs = let e : drop (length bs) bs ≡ [] = drop_of_length-le bs (le_refl _) in rw e

module _ (bs : List Bool) (n x : ℕ) (q : x ≡ bits_of (drop n bs)) where
  pub bits_below : length bs ≤ 8 → 0 < n → x < 128
  bits_below h k = rw q (bits_small (drop n bs) 7 (simp length-drop (omega arith)))

  pub bits-more : 0 < n → n ≤ length bs → with_bit (get_or bs (n - 1) false) x ≡ bits_of (drop (n - 1) bs)
  unfolding bits_of
  bits-more h k =
      let e : n ≡ suc (n - 1) = omega arith in
      let i : n - 1 < length bs = omega arith in
      ap (with_bit (get_or bs (n - 1) false)) (q ∙ ap (λ (i : ℕ). bits_of (drop i bs)) e) ∙ sym (ap bits_of (drop-cons bs (n - 1) false i))

-- ---- the lost frames between two groups
module _ (v : Voice) (a b : Holding) where
  module _ (e : holds v a ≡ true) where
    module _ (f : holds v b ≡ true) where
      pub other-source : (b.source ≡ a.source → ⊥) → Err AnotherSource ≡ lost_between v a b
      unfolding lost_between
      other-source n = simp (e, f, ne_eqb _ _ n)

      pub by-numbers : b.source ≡ a.source → (g k : GroupNumbers) (w : Result Verdict Refusal) → g ≡ a.numbers → k ≡ b.numbers → w ≡ after_poured g k
          → lost_by w ≡ lost_between v a b
      unfolding lost_between
      by-numbers s g k w i j q = simp (e, f, eq-eqb _ _ s) (rw (q, i, j))
