-- A holding as a cell for each packet: whether it is held, and its frames. What putting in and taking do to the cells; equal cells make equal
-- holdings. Assumes nothing.
use Prim.Native.Nat.{ℕ, zero, suc, ◌+◌, ◌*◌, ◌≤◌, ◌<◌}
use mathlib.Core.Bool.{Bool, true, false, cond}
use mathlib.Core.Path.{◌≡◌, refl, sym, ap, subst, ◌∙◌}
use mathlib.Core.List.{List, [], ◌∷◌, ◌++◌}
use mathlib.Core.Logic.{◌⊎◌, ⊎_elim, inl, inr}
use native.Mathlib.Omega.{arith}
use native.Mathlib.Nat.{le_of_suc-le-suc, not-suc-le-zero, eq-or-lt_of_le, mul-zero, mul-suc}
use lib.ListN.{length, take, drop, length-drop, length-set, take-append-drop}
use lib.Seq.{get_or-set_same, get_or-set_other, drop-drop, ext_get_or}
use lib.Dec.{ltb}
use borrow.Author.Tests.{ltb-true, ltb-false}
use Rattle.octets.specs.Octets.{over, region}
use Rattle.frame.specs.Shape.{Shape, packets_of, room_of}
use Rattle.holding.specs.Group.{Shaped, held_at, bundle_of, bundle_at, with_packet}
use Rattle.joining.specs.Joining.{take_one, take_below}
use Rattle.holding.specs.declared.Holding.{Holding}
use Rattle.bundle.specs.declared.Bundle.{Bundle}
use Rattle.joining.proofs.Heads.{SameHead, same-fields}
use Rattle.octets.proofs.Regions.{region-fits, length-region}
use Rattle.octets.proofs.OctetsLaws.{length_over, over-same, over-before, over-after}

-- ---- the shape that a holding's type gives it

pub record Sized (v : Shape) (p : Bundle) : Type 0 where
  pub ten : length p.marks ≡ 10
  pub bodies : length p.room ≡ room_of v

-- packet n's types and its cells lie in the arrays
module _ (v : Shape) (h : Holding) (n : ℕ) (s : Shaped v h) (k : n < packets_of v) where
  marks-fit : 10 * n + 10 ≤ length h.marks
  marks-fit = omega (arith, s.long_marks)

  room_fits : room_of v * n + room_of v ≤ length h.room
  room_fits = subst (λ (i : ℕ). room_of v * n + room_of v ≤ i) (sym s.long_room) (region-fits (room_of v) n (packets_of v) k)

  pub packet-sized : Sized v (bundle_at v h n)
  unfolding bundle_of
  packet-sized = record { ten = length-region h.marks 10 n marks-fit; bodies = length-region h.room (room_of v) n room_fits }

-- ---- cells

abbrev pub Cell : Type 0
Cell = Bool × Bundle

unfoldable pub cell : Shape → Holding → ℕ → Cell
cell v h n = (held_at h n, bundle_at v h n)

-- b's cell where it is held, else a's
abbrev pub mix : Cell → Cell → Cell
mix x y = cond y.0 y x

-- n and m are the same or one is less
before-or-after : (m n : ℕ) → (m ≡ n → ⊥) → (m < n) ⊎ (n < m)
before-or-after m n h = go (ltb m n) refl
  where
    go : (t : Bool) → ltb m n ≡ t → (m < n) ⊎ (n < m)
    go true e = inl (ltb-true m n e)
    go false e = inr (let k : n ≤ m = ltb-false m n e in let z = eq-or-lt_of_le k in ⊎_elim (λ (q : n ≡ m). absurd (h (sym q))) (λ (q : n < m). q) z)

-- parts of any stride: packet n's region replaced, any other region as it was
module _ (xs : List ℕ) (s n : ℕ) (p : List ℕ) (e : length p ≡ s) (fits : s * n + s ≤ length xs) where
  region-here : region (over xs (s * n) p) s n ≡ p
  unfolding region
  region-here = over-same xs (s * n) p (omega arith) s e

  region-other : (m : ℕ) → (m ≡ n → ⊥) → region (over xs (s * n) p) s m ≡ region xs s m
  unfolding region
  region-other m d =
      ⊎_elim (λ (q : m < n). over-before xs (s * n) p (omega arith) (s * m) s (omega (arith, region-fits s m n q)))
      (λ (q : n < m). over-after xs (s * n) p (omega arith) (s * m) s (omega (arith, region-fits s n m q))) (before-or-after m n d)

module _ (v : Shape) (h : Holding) (n : ℕ) (p : Bundle) (s : Shaped v h) (z : Sized v p) (k : n < packets_of v) where
  marks-in : 10 * n + length p.marks ≤ length h.marks
  marks-in = omega (arith, marks-fit v h n s k, z.ten)

  room_in_lem : room_of v * n + length p.room ≤ length h.room
  room_in_lem = subst (λ (i : ℕ). room_of v * n + i ≤ length h.room) (sym z.bodies) (room_fits v h n s k)

  pub with-shaped : Shaped v (with_packet v h n p)
  unfolding with_packet
  with-shaped =
      record {
        long_held = length-set h.held n true ∙ s.long_held;
        long_marks = length_over h.marks (10 * n) p.marks marks-in ∙ s.long_marks;
        long_room = length_over h.room (room_of v * n) p.room room_in_lem ∙ s.long_room;
      }

  pub with-here : cell v (with_packet v h n p) n ≡ (true, p)
  unfolding cell with_packet held_at bundle_of
  with-here =
      rw (
        get_or-set_same h.held n true false (omega (arith, s.long_held)),
        region-here h.marks 10 n p.marks z.ten (marks-fit v h n s k),
        region-here h.room (room_of v) n p.room z.bodies (room_fits v h n s k),
      )

  pub with-other : (m : ℕ) → (m ≡ n → ⊥) → cell v (with_packet v h n p) m ≡ cell v h m
  unfolding cell with_packet held_at bundle_of
  with-other m d =
      rw (
        get_or-set_other h.held n m true false d,
        region-other h.marks 10 n p.marks z.ten (marks-fit v h n s k) m d,
        region-other h.room (room_of v) n p.room z.bodies (room_fits v h n s k) m d,
      )

-- ---- taking b's packets

module _ (v : Shape) (h b : Holding) (n : ℕ) (s : Shaped v h) (t : Shaped v b) (k : n < packets_of v) where
  one-shaped : Shaped v (take_one v h b n)
  unfolding take_one
  one-shaped = go (held_at b n)
    where
      go : (f : Bool) → Shaped v (cond f (with_packet v h n (bundle_at v b n)) h)
      go true = with-shaped v h n (bundle_at v b n) s (packet-sized v b n t k) k
      go false = s

  one-here : cell v (take_one v h b n) n ≡ mix (cell v h n) (cell v b n)
  unfolding take_one cell
  one-here = go (held_at b n)
    where
      go : (f : Bool) → cell v (cond f (with_packet v h n (bundle_at v b n)) h) n ≡ cond f (f, bundle_at v b n) (cell v h n)
      go true = with-here v h n (bundle_at v b n) s (packet-sized v b n t k) k
      go false = refl

  one-other : (m : ℕ) → (m ≡ n → ⊥) → cell v (take_one v h b n) m ≡ cell v h m
  unfolding take_one
  one-other m d = go (held_at b n)
    where
      go : (f : Bool) → cell v (cond f (with_packet v h n (bundle_at v b n)) h) m ≡ cell v h m
      go true = with-other v h n (bundle_at v b n) s (packet-sized v b n t k) k m d
      go false = refl

module _ (v : Shape) (a b : Holding) (s : Shaped v a) (t : Shaped v b) where
  pub take-shaped : (n : ℕ) → n ≤ packets_of v → Shaped v (take_below v a b n)
  unfolding take_below
  take-shaped zero k = s
  take-shaped (suc n) k = one-shaped v (take_below v a b n) b n (take-shaped n (omega arith)) t (omega arith)

  -- a cell from n on is a's still
  take-above : (n m : ℕ) → n ≤ packets_of v → n ≤ m → cell v (take_below v a b n) m ≡ cell v a m
  unfolding take_below
  take-above zero m k h = refl
  take-above (suc n) m k h =
      one-other v (take_below v a b n) b n (take-shaped n (omega arith)) t (omega arith) m (λ e. omega arith) ∙ take-above n m (omega arith) (omega arith)

  take_below_lem : (n m : ℕ) → n ≤ packets_of v → m < n → cell v (take_below v a b n) m ≡ mix (cell v a m) (cell v b m)
  unfolding take_below
  take_below_lem zero m k h = absurd (not-suc-le-zero h)
  take_below_lem (suc n) m k h =
      ⊎_elim
      (λ (q : m ≡ n).
      rw q
      (one-here v (take_below v a b n) b n (take-shaped n (omega arith)) t (omega arith)
      ∙ ap (λ (x : Cell). mix x (cell v b n)) (take-above n n (omega arith) (omega arith))))
      (λ (q : m < n).
      one-other v (take_below v a b n) b n (take-shaped n (omega arith)) t (omega arith) m (λ e. omega arith) ∙ take_below_lem n m (omega arith) q)
      (eq-or-lt_of_le (le_of_suc-le-suc h))

  pub take-cell : (m : ℕ) → m < packets_of v → cell v (take_below v a b (packets_of v)) m ≡ mix (cell v a m) (cell v b m)
  take-cell m h = take_below_lem (packets_of v) m (omega arith) h

-- ---- equal cells, equal holdings

-- lists whose parts are equal are equal
pub regions-ext : (m s : ℕ) (xs ys : List ℕ) → length xs ≡ s * m → length ys ≡ s * m → ((n : ℕ) → n < m → region xs s n ≡ region ys s n) → xs ≡ ys
unfolding region
regions-ext zero s [] [] e f h = refl
regions-ext zero s [] (y ∷ ys) e f h = absurd (omega (arith, mul-zero s))
regions-ext zero s (x ∷ xs) ys e f h = absurd (omega (arith, mul-zero s))
regions-ext (suc m) s xs ys e f h =
    let x : take s xs ≡ take s ys = rw mul-zero at (h 0 (omega arith)) in
    let lx : length (drop s xs) ≡ s * m = simp length-drop (omega (arith, mul-suc s m)) in
    let ly : length (drop s ys) ≡ s * m = simp length-drop (omega (arith, mul-suc s m)) in
    let y : drop s xs ≡ drop s ys = regions-ext m s (drop s xs) (drop s ys) lx ly (λ n k. next xs n ∙ h (suc n) (omega arith) ∙ sym (next ys n)) in
    sym (take-append-drop s xs) ∙ ap (λ (l : List ℕ). l ++ drop s xs) x ∙ ap (λ (l : List ℕ). take s ys ++ l) y ∙ take-append-drop s ys
  where
    next : (zs : List ℕ) (n : ℕ) → take s (drop (s * n) (drop s zs)) ≡ take s (drop (s * suc n) zs)
    next zs n = let e : s + s * n ≡ s * suc n = omega (arith, mul-suc s n) in rw (drop-drop (s * n) s zs, e)

pub cells_ext : (v : Shape) (a b : Holding) → Shaped v a → Shaped v b → SameHead a b → ((n : ℕ) → n < packets_of v → cell v a n ≡ cell v b n) → a ≡ b
unfolding cell bundle_of held_at
cells_ext v a b s t e h =
    let hd : a.held ≡ b.held =
    ext_get_or false a.held b.held (s.long_held ∙ sym t.long_held) (λ n k. ap (λ (x : Cell). x.0) (h n (omega (arith, s.long_held)))) in
    let mk : a.marks ≡ b.marks =
    regions-ext (packets_of v) 10 a.marks b.marks s.long_marks t.long_marks (λ n k. ap (λ (x : Cell). x.1.marks) (h n k)) in
    let rm : a.room ≡ b.room =
    regions-ext (packets_of v) (room_of v) a.room b.room s.long_room t.long_room (λ n k. ap (λ (x : Cell). x.1.room) (h n k)) in
    same-fields e.source e.sequence e.timestamp e.l e.b hd mk rm
