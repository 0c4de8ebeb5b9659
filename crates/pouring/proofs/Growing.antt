-- The octets that a group pours, by its types: each place takes one, and a packet put in adds its bodies. Assumes nothing.
use Prim.Native.Nat.{ℕ, zero, suc, ◌+◌, ◌*◌, ◌≤◌, ◌<◌}
use mathlib.Core.Path.{◌≡◌, refl, sym, ap, ap₂, ◌∙◌}
use mathlib.Core.List.{List, [], ◌∷◌}
use mathlib.Core.Logic.{⊎_elim}
use native.Mathlib.Nat.{zero-mul, suc-mul, le_refl, eq-or-lt_of_le, le_of_suc-le-suc}
use native.Mathlib.Omega.{arith}
use lib.ListN.{length}
use Rattle.frame.specs.FrameTable.{FrameTable, Frame, size, AllListed}
use Rattle.frame.specs.Places.{taken, frame_at}
use Rattle.pouring.specs.Pouring.{type_in, row_size, rows_size}

-- ---- the bodies of b frames, by their types
abbrev pub sum_below : (ℕ → ℕ) → ℕ → ℕ
sum_below f zero = 0
sum_below f (suc b) = sum_below f b + f b

sum_first : (f : ℕ → ℕ) (b : ℕ) → sum_below f (suc b) ≡ f 0 + sum_below (λ k. f (suc k)) b
sum_first f zero = omega arith
sum_first f (suc b) = let i = sum_first f b in omega arith

pub sum-taken : (t : FrameTable) (fs : List Frame) → AllListed t fs → (f : ℕ → ℕ) → ((k : ℕ) → k < length fs → f k ≡ size t (frame_at fs k).type) → sum_below f (length fs) ≡ taken 0 fs
sum-taken t [] a f h = refl
sum-taken t (x ∷ fs) a f h =
    let i = sum-taken t fs a.1 (λ k. f (suc k)) (λ k q. h (suc k) (omega arith)) in
    let e : f 0 ≡ size t x.type = h 0 (omega arith) in
    omega (arith, sum_first f (length fs), a.0.octets)

-- ---- packet n is put in where every type takes nothing, and no other type changes
module _
    (t : FrameTable) (ms ms' : List ℕ) (n : ℕ) (other : (j k : ℕ) → (j ≡ n → ⊥) → type_in ms' j k ≡ type_in ms j k)
    (none : (k : ℕ) → k < 10 → size t (type_in ms n k) ≡ 0)
  where
    row_before : (k m : ℕ) → m ≤ n → row_size t ms' k m ≡ row_size t ms k m
    unfolding row_size
    row_before k zero h = refl
    row_before k (suc m) h = ap₂ (λ (i x : ℕ). i + 1 + size t x) (row_before k m (omega arith)) (other m k (λ e. omega arith))

    row-grows : (k m : ℕ) → k < 10 → n < m → row_size t ms' k m ≡ row_size t ms k m + size t (type_in ms' n k)
    unfolding row_size
    row-grows k zero q h = absurd (omega arith)
    row-grows k (suc m) q h =
        ⊎_elim (λ (e : n ≡ m). rw (← e) (omega (arith, row_before k n (le_refl n), none k q)))
        (λ (e : n < m). omega (arith, row-grows k m q e, ap (size t) (other m k (λ f. omega arith)))) (eq-or-lt_of_le (le_of_suc-le-suc h))

    pub rows_grow : (m b : ℕ) → n < m → b ≤ 10 → rows_size t ms' m b ≡ rows_size t ms m b + sum_below (λ k. size t (type_in ms' n k)) b
    unfolding rows_size
    rows_grow m zero h q = refl
    rows_grow m (suc b) h q = omega (arith, rows_grow m b h (omega arith), row-grows b m q h)

-- ---- a group of which no type takes anything: an octet for each place
module _ (t : FrameTable) (ms : List ℕ) (m : ℕ) (none : (j k : ℕ) → j < m → k < 10 → size t (type_in ms j k) ≡ 0) where
  row-places : (k i : ℕ) → k < 10 → i ≤ m → row_size t ms k i ≡ i
  unfolding row_size
  row-places k zero q h = refl
  row-places k (suc i) q h = omega (arith, row-places k i q (omega arith), none i k h q)

  pub rows-places : (b : ℕ) → b ≤ 10 → rows_size t ms m b ≡ b * m
  unfolding rows_size
  rows-places zero h = sym (zero-mul m)
  rows-places (suc b) h = ap₂ ◌+◌ (rows-places b (omega arith)) (row-places b m h (le_refl m)) ∙ sym (suc-mul b m)
