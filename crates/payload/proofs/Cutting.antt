-- The sums of sizes that the walk keeps, and the first body that does not fit whole by them. Assumes nothing.
use Prim.Native.Nat.{ℕ, zero, suc, ◌+◌, ◌-◌, ◌≤◌, ◌<◌}
use mathlib.Core.Path.{◌≡◌, refl, sym, ap, ◌∙◌}
use mathlib.Core.List.{List, [], ◌∷◌, map}
use native.Mathlib.Nat.{le_of_suc-le-suc}
use native.Mathlib.Numerals.{add-one}
use Rattle.std.proofs.Common.{⊎_elim, eq-or-lt_of_le}
use native.Mathlib.Omega.{arith}
use lib.ListN.{length, take, drop, get_or, set, length-take, length-drop, length-map}
use lib.Seq.{length-take-le, take-take, get_or-take, get_or-drop, get_or-set_same}
use Rattle.std.specs.List.{AllWithin, HoldsAt}
use Rattle.std.specs.Option.{MatchOption, unwrap_or}
use Rattle.std.specs.Prelude.{Option, None, Some}
use borrow.Author.Count.{below_more}
use borrow.Author.Rules.{read_below}
use borrow.Author.Tests.{lt-ltb, le-ltb}
use Rattle.frame.specs.FrameTable.{FrameTable, size}
use Rattle.frame.specs.Entry.{type_of}
use Rattle.payload.specs.Payload.{total, first_cut}
use Rattle.payload.proofs.Laying.{before}

-- for each of c bodies, the octets of those before it
abbrev pub Summed : FrameTable → List ℕ → ℕ → List ℕ → Type 0
Summed v p c sums = (i : ℕ) → i < c → get_or sums i 0 ≡ before v p i

pub sum_more : (v : FrameTable) (p sums : List ℕ) (c s : ℕ) → Summed v p c sums → s ≡ before v p c → c < length sums → Summed v p (c + 1) (set sums c s)
sum_more v p sums c s h e q =
    below_more (λ (i : ℕ). get_or (set sums c s) i 0 ≡ before v p i) c (λ i l. read_below ℕ sums c i s 0 _ l (h i l)) (get_or-set_same sums c s 0 q ∙ e)

-- the bodies before body j fit, and with it they do not
cut_at : (v : FrameTable) (at : ℕ) (ts bs : List ℕ) (j : ℕ) → j < length ts → total v (take j ts) ≤ length bs → length bs < total v (take (suc j) ts)
    → at + total v (take j ts) ≡ first_cut v at ts bs
unfolding first_cut
cut_at v at [] bs j h f k = absurd (omega arith)
cut_at v at (t ∷ ts) bs zero h f k =
    let a : length bs < size v t = omega arith in
    rw (lt-ltb _ _ a) (omega arith)
cut_at v at (t ∷ ts) bs (suc j) h f k =
    let a : size v t ≤ length bs = omega arith in
    let l = length-drop (size v t) bs in
    let i = cut_at v (at + size v t) ts (drop (size v t) bs) j (le_of_suc-le-suc h) (omega arith) (omega arith) in
    rw (le-ltb _ _ a) (omega arith)

-- the same by the sums that the walk kept of a payload with `count` entries
pub first-here : (v : FrameTable) (p sums : List ℕ) (count j : ℕ) → Summed v p count sums → count < length p → j < count
    → get_or sums j 0 ≤ length p - 1 - count → length p - 1 - count < before v p (j + 1)
    → 1 + count + get_or sums j 0 ≡ first_cut v (1 + count) (take count (map type_of (drop 1 p))) (drop (1 + count) p)
first-here v p sums count j h long q f k =
    let types = map type_of (drop 1 p) in
    let n : length (take count types) ≡ count = length-take-le count types (omega (arith, length-map (drop 1 p) type_of, length-drop 1 p)) in
    let a : total v (take j (take count types)) ≡ before v p j = ap (total v) (take-take j count types (omega arith)) in
    let b : total v (take (suc j) (take count types)) ≡ before v p (j + 1) = rw add-one (ap (total v) (take-take (suc j) count types (omega arith))) in
    let l = length-drop (1 + count) p in
    let e : get_or sums j 0 ≡ total v (take j (take count types)) = h j q ∙ sym a in
    ap (λ (x : ℕ). 1 + count + x) e ∙ cut_at v (1 + count) (take count types) (drop (1 + count) p) j (omega arith) (omega arith) (omega arith)

-- where `position` ends among the sums behind the first: all up to body j fit, and it is the last or the next does not
pub record Last (sums : List ℕ) (count left j : ℕ) : Type 0 where
  pub among : j < count
  pub fits : get_or sums j 0 ≤ left
  pub next : j + 1 < count → left < get_or sums (j + 1) 0

module _ (sums : List ℕ) (count left : ℕ) (some : 0 < count) (room : count ≤ length sums) (first : get_or sums 0 0 ≡ 0) where
  abbrev behind : List ℕ
  behind = take (count - 1) (drop 1 sums)

  behind-at : (k j : ℕ) → j ≡ k + 1 → j < count → get_or behind k 0 ≡ get_or sums j 0
  behind-at k j e h = get_or-take (count - 1) (drop 1 sums) k 0 (omega arith) ∙ get_or-drop 1 sums k 0 ∙ ap (λ (i : ℕ). get_or sums i 0) (omega arith)

  all-fit : (j n : ℕ) → AllWithin (λ (s : ℕ). s ≤ left) behind 0 n → j ≤ n → j < count → get_or sums j 0 ≤ left
  all-fit zero n h k q = omega arith
  all-fit (suc j) n h k q = let e = behind-at j (suc j) (omega arith) q in omega (arith, h j 0 (omega arith) (omega arith))

  pub last-found : (r : Option ℕ) → MatchOption r (AllWithin (λ (s : ℕ). s ≤ left) behind 0 (length behind))
      (λ (i : ℕ). (i < length behind) × HoldsAt (λ (s : ℕ). left < s) behind i × AllWithin (λ (s : ℕ). s ≤ left) behind 0 i)
      → (j : ℕ) → j ≡ unwrap_or r (count - 1) → Last sums count left j
  last-found None h j e =
      let l : length behind ≡ count - 1 = simp (length-take, length-drop) (omega arith) in
      rw e (record { among = omega arith; fits = all-fit (count - 1) (length behind) h (omega arith) (omega arith); next = λ k. absurd (omega arith) })
  last-found (Some i) h j e =
      let l : length behind ≡ count - 1 = simp (length-take, length-drop) (omega arith) in
      let q : i + 1 < count = omega (arith, h.0) in
      rw e (record { among = omega arith; fits = all-fit i i h.2 (omega arith) (omega arith); next = λ k. rw (← behind-at i (i + 1) refl q) (h.1 0) })

pub last-here : (v : FrameTable) (p sums : List ℕ) (count j : ℕ) → Summed v p count sums → count < length p → Last sums count (length p - 1 - count) j → length p - 1 - count < before v p count
    → 1 + count + get_or sums j 0 ≡ first_cut v (1 + count) (take count (map type_of (drop 1 p))) (drop (1 + count) p)
last-here v p sums count j h long f k =
    first-here v p sums count j h long f.among f.fits
    (⊎_elim (λ (q : j + 1 ≡ count). rw q k) (λ (q : j + 1 < count). rw (← h (j + 1) q) (f.next q)) (eq-or-lt_of_le (let le : j + 1 ≤ count = omega (arith, f.among) in le)))
