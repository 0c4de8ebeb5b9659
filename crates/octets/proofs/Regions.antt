-- A region of a list, as the code cuts it. Assumes nothing.
use Rattle.std.proofs.Common.{◌≡◌, ℕ, ◌+◌, ◌-◌, ◌*◌, ◌<◌, ◌≤◌, List, length, take, drop, mul-le-mul_left, mul-suc, arith, length-drop, length-take, drop-drop}
use Rattle.octets.specs.Octets.{region}
use Rattle.octets.proofs.OctetsLaws.{drop-take, part-is}

-- ---- regions

-- a region, as the code cuts it
abbrev pub cut_at : List ℕ → ℕ → ℕ → List ℕ
cut_at xs s n = take (s * n + s - s * n) (drop (s * n) xs)

pub cut-is : (xs : List ℕ) (s n : ℕ) → cut_at xs s n ≡ region xs s n
unfolding region
cut-is xs s n = part-is xs (s * n) s

pub length_cut : (xs : List ℕ) (s n : ℕ) → s * n + s ≤ length xs → length (cut_at xs s n) ≡ s
length_cut xs s n h = simp (length-take, length-drop) (omega arith)

-- a region before the m-th ends where that begins, or before
pub region-fits : (s n m : ℕ) → n < m → s * n + s ≤ s * m
region-fits s n m h = omega (arith, mul-le-mul_left s h, mul-suc s n)

pub length-region : (xs : List ℕ) (s n : ℕ) → s * n + s ≤ length xs → length (region xs s n) ≡ s
unfolding region
length-region xs s n h = simp (length-take, length-drop) (omega arith)

-- the end of a part, as the code cuts it
pub tail-is : (xs : List ℕ) (s k z : ℕ) → z ≤ s → take (s * k + s - (s * k + z)) (drop (s * k + z) xs) ≡ drop z (region xs s k)
unfolding region
tail-is xs s k z h =
    let e : s * k + s - (s * k + z) ≡ s - z = omega arith in
    rw (e, drop-take z s (drop (s * k) xs), drop-drop z (s * k) xs)
