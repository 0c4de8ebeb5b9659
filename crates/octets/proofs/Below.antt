-- What holds of every number below another, as a loop tests it. Assumes nothing.
use Rattle.std.proofs.Common.{◌≡◌, ℕ, zero, suc, ◌<◌, Bool, true, false, List, length, sym, refl, ⊎_elim, le_of_suc-le-suc, not-suc-le-zero, eq-or-lt_of_le, zero-add, arith}
use Rattle.std.proofs.Common.{MatchBool}
use Rattle.std.specs.List.{range_with_len, AllWithin, HoldsAt}
use Rattle.std.proofs.lemmas.List.FromFn.{length-range_with_len, get_or-range_with_len}
use Rattle.octets.specs.Octets.{all_below}
use Rattle.octets.proofs.Logic.{both_true, both_false}

-- ---- a test of every number below a bound

module _ (f : ℕ → Bool) where
  pub all-fails : (n i : ℕ) → i < n → f i ≡ false → all_below f n ≡ false
  unfolding all_below
  all-fails zero i h e = absurd (not-suc-le-zero h)
  all-fails (suc n) i h e =
      ⊎_elim (λ (q : i ≡ n). let k : f n ≡ false = rw q at e in rw k)
      (λ (q : i < n). rw (all-fails n i q e) (both_false (f n)))
      (eq-or-lt_of_le (le_of_suc-le-suc h))

  pub all-at : (n i : ℕ) → all_below f n ≡ true → i < n → f i ≡ true
  unfolding all_below
  all-at zero i e h = absurd (not-suc-le-zero h)
  all-at (suc n) i e h =
      let p = both_true (f n) (all_below f n) e in
      ⊎_elim (λ (q : i ≡ n). rw q p.0) (λ (q : i < n). all-at n i p.1 q) (eq-or-lt_of_le (le_of_suc-le-suc h))

  pub all-intro : (n : ℕ) → ((i : ℕ) → i < n → f i ≡ true) → all_below f n ≡ true
  unfolding all_below
  all-intro zero h = refl
  all-intro (suc n) h = rw (h n (omega arith), all-intro n (λ i k. h i (omega arith)))

-- a run over them has tested them until one fails
module _ (f : ℕ → Bool) (n : ℕ) where
  abbrev pub below : List ℕ
  below = range_with_len 0 n

  pub all_tested : (r : Bool) → MatchBool r (AllWithin (λ k. f k ≡ true) below 0 (length below)) ((k : ℕ) × (k < length below) × HoldsAt (λ k. f k ≡ false) below k) → r ≡ all_below f n
  all_tested true h = sym (all-intro f n (λ k l. let g = h k 0 (omega arith) (omega (arith, length-range_with_len 0 n)) in rw (get_or-range_with_len, zero-add) at g))
  all_tested false h =
      let l : h.0 < n = omega (arith, h.1, length-range_with_len 0 n) in
      let g = h.2 0 in
      sym (all-fails f n h.0 l (rw (get_or-range_with_len, zero-add) at g))
