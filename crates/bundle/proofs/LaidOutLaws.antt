-- Frames laid out as a packet, one by one; what a packet holds that was laid out. Assumes nothing.
use Prim.Native.Nat.{ℕ, zero, suc, ◌+◌, ◌-◌, ◌*◌, ◌≤◌, ◌<◌}
use mathlib.Core.Path.{◌≡◌, refl, sym, ap, ap₂, ◌∙◌}
use mathlib.Core.List.{List, [], ◌∷◌, ◌++◌, append_assoc, append-nil}
use native.Mathlib.Numerals.{add-one}
use native.Mathlib.Omega.{arith}
use native.Mathlib.Nat.{sub-zero, mul-zero, mul-suc}
use lib.ListN.{length, take, drop, set, replicate, length-append, length-replicate, replicate-append-replicate}
use lib.Seq.{take-append_seam, drop-append-add, take-suc, length-take-le, take_all}
use lib.Dec.{T}
use Rattle.octets.specs.Octets.{over}
use Rattle.octets.proofs.OctetsLaws.{set-over}
use Rattle.octets.proofs.Regions.{region-fits}
use Rattle.frame.specs.FrameTable.{FrameTable, Frame, within, erasure, types_of, AllListed}
use Rattle.frame.specs.Shape.{Shape, room_of}
use Rattle.frame.specs.Places.{frame_at, no_frame}
use Rattle.frame.proofs.FrameTableLaws.{size-within}
use Rattle.frame.proofs.PlacesLaws.{length_types}
use Rattle.bundle.specs.Bundles.{not_held}
use Rattle.bundle.specs.LaidOut.{filled, rooms, laid}
use Rattle.bundle.specs.declared.Bundle.{Bundle}

-- ---- a list that is filled up
drop-replicate : (j m x : ℕ) → drop j (replicate m x) ≡ replicate (m - j) x
drop-replicate zero m x = ap (λ (n : ℕ). replicate n x) (sym (sub-zero m))
drop-replicate (suc j) zero x = let e : 0 - suc j ≡ 0 = omega arith in rw e
drop-replicate (suc j) (suc m) x = let e : suc m - suc j ≡ m - j = omega arith in drop-replicate j m x ∙ rw e

pub length-filled : (n x : ℕ) (xs : List ℕ) → length xs ≤ n → length (filled n x xs) ≡ n
unfolding filled
length-filled n x xs h = simp (length-append, length-replicate) (omega arith)

-- more is written behind what is there
over-filled : (n x : ℕ) (xs ys : List ℕ) → length xs + length ys ≤ n → over (filled n x xs) (length xs) ys ≡ filled n x (xs ++ ys)
unfolding over filled
over-filled n x xs ys h =
    let m = n - length xs in
    let a : take (length xs) (xs ++ replicate m x) ≡ xs = take-append_seam xs (replicate m x) in
    let b : drop (length xs + length ys) (xs ++ replicate m x) ≡ replicate (m - length ys) x = drop-append-add xs (replicate m x) (length ys) ∙ drop-replicate (length ys) m x in
    let c : m - length ys ≡ n - length (xs ++ ys) = omega (arith, length-append xs ys) in
    rw (a, b, c)

-- what fills it may be a part of the list
filled_more : (n x j : ℕ) (xs : List ℕ) → length xs + j ≤ n → filled n x xs ≡ filled n x (xs ++ replicate j x)
unfolding filled
filled_more n x j xs h =
    let c : j + (n - length (xs ++ replicate j x)) ≡ n - length xs = omega (arith, length-append xs (replicate j x), length-replicate j x) in
    sym (append_assoc xs (replicate j x) (replicate (n - length (xs ++ replicate j x)) x)
    ∙ ap (λ (l : List ℕ). xs ++ l) (replicate-append-replicate j (n - length (xs ++ replicate j x)) x ∙ ap (λ (i : ℕ). replicate i x) c))

-- ---- the first k frames, and one more
types-append : (fs gs : List Frame) → types_of (fs ++ gs) ≡ types_of fs ++ types_of gs
types-append [] gs = refl
types-append (f ∷ fs) gs = ap (λ (ts : List ℕ). f.type ∷ ts) (types-append fs gs)

rooms-append : (z : ℕ) (fs gs : List Frame) → rooms z (fs ++ gs) ≡ rooms z fs ++ rooms z gs
unfolding rooms
rooms-append z [] gs = refl
rooms-append z (f ∷ fs) gs =
    ap (λ (l : List ℕ). filled z 0 f.body ++ l) (rooms-append z fs gs) ∙ sym (append_assoc (filled z 0 f.body) (rooms z fs) (rooms z gs))

-- bodies that fit cells of z octets
abbrev pub Short : ℕ → List Frame → Type 0
Short z [] = Unit {0}
Short z (f ∷ fs) = (length f.body ≤ z) × Short z fs

pub length-rooms : (z : ℕ) (fs : List Frame) → Short z fs → length (rooms z fs) ≡ z * length fs
unfolding rooms
length-rooms z [] s = sym (mul-zero z)
length-rooms z (f ∷ fs) s =
    omega (arith, length-append (filled z 0 f.body) (rooms z fs), length-filled z 0 f.body s.0, length-rooms z fs s.1, mul-suc z (length fs))

short-take : (z k : ℕ) (fs : List Frame) → Short z fs → Short z (take k fs)
short-take z zero fs s = tt
short-take z (suc k) [] s = tt
short-take z (suc k) (f ∷ fs) s = (s.0, short-take z k fs s.1)

pub short-at : (z : ℕ) (fs : List Frame) (k : ℕ) → Short z fs → k < length fs → length (frame_at fs k).body ≤ z
short-at z [] k s h = absurd (omega arith)
short-at z (f ∷ fs) zero s h = s.0
short-at z (f ∷ fs) (suc k) s h = short-at z fs k s.1 (omega arith)

pub listed-short : (z : ℕ) (t : FrameTable) → T (within z t) → (fs : List Frame) → AllListed t fs → Short z fs
listed-short z t w [] a = tt
listed-short z t w (f ∷ fs) a = (omega (arith, a.0.octets, size-within z t f.type w), listed-short z t w fs a.1)

-- the first k frames laid out
pub record LaidFirst (v : Shape) (fs : List Frame) (k : ℕ) (marks room : List ℕ) : Type 0 where
  pub types : marks ≡ filled 10 erasure (types_of (take k fs))
  pub bodies : room ≡ filled (room_of v) 0 (rooms v.cell (take k fs))

pub laid_none : (v : Shape) (fs : List Frame) → LaidFirst v fs 0 (not_held v).marks (not_held v).room
unfolding filled rooms not_held
laid_none v fs = record { types = refl; bodies = ap (λ (n : ℕ). replicate n 0) (sym (sub-zero (room_of v))) }

module _ (v : Shape) (fs : List Frame) (few : length fs ≤ 10) (s : Short v.cell fs) (k : ℕ) (h : k < length fs) where
  more : take (k + 1) fs ≡ take k fs ++ (frame_at fs k ∷ [])
  more = rw (add-one k) (take-suc fs k no_frame h)

  length-first : length (take k fs) ≡ k
  length-first = length-take-le k fs (omega arith)

  laid-type : set (filled 10 erasure (types_of (take k fs))) k (frame_at fs k).type ≡ filled 10 erasure (types_of (take (k + 1) fs))
  laid-type =
      let ts = types_of (take k fs) in
      let n : length ts ≡ k = length_types (take k fs) ∙ length-first in
      let l : k < length (filled 10 erasure ts) = omega (arith, length-filled 10 erasure ts (omega arith)) in
      let t = (frame_at fs k).type in
      set-over (filled 10 erasure ts) k t l
      ∙ ap (λ (i : ℕ). over (filled 10 erasure ts) i (t ∷ [])) (sym n)
      ∙ over-filled 10 erasure ts (t ∷ []) (omega arith)
      ∙ ap (filled 10 erasure) (sym (types-append (take k fs) (frame_at fs k ∷ [])) ∙ ap types_of (sym more))

  laid-body : over (filled (room_of v) 0 (rooms v.cell (take k fs))) (v.cell * k) (frame_at fs k).body
      ≡ filled (room_of v) 0 (rooms v.cell (take (k + 1) fs))
  unfolding rooms filled
  laid-body =
      let c = v.cell in
      let rs = rooms c (take k fs) in
      let b = (frame_at fs k).body in
      let z : length b ≤ c = short-at c fs k s h in
      let n : length rs ≡ c * k = length-rooms c (take k fs) (short-take c k fs s) ∙ ap (λ (i : ℕ). c * i) length-first in
      let i : c * k + c ≤ c * 10 = region-fits c k 10 (omega arith) in
      ap (λ (i : ℕ). over (filled (room_of v) 0 rs) i b) (sym n)
      ∙ over-filled (room_of v) 0 rs b (omega arith)
      ∙ filled_more (room_of v) 0 (c - length b) (rs ++ b) (omega (arith, length-append rs b))
      ∙ ap (filled (room_of v) 0)
      (append_assoc rs b (replicate (c - length b) 0)
      ∙ ap (λ (l : List ℕ). rs ++ l) (sym (append-nil (filled c 0 b)))
      ∙ sym (rooms-append c (take k fs) (frame_at fs k ∷ []))
      ∙ ap (rooms c) (sym more))

  pub laid_more :
      (marks room room' b : List ℕ) (t : ℕ) →
      LaidFirst v fs k marks room →
      t ≡ (frame_at fs k).type →
      b ≡ (frame_at fs k).body →
      room' ≡ over room (v.cell * k) b →
      LaidFirst v fs (k + 1) (set marks k t) room'
  laid_more marks room room' b t x e f g =
      record {
        types = ap₂ (λ (m : List ℕ) (y : ℕ). set m k y) x.types e ∙ laid-type;
        bodies = g ∙ ap₂ (λ (r c : List ℕ). over r (v.cell * k) c) x.bodies f ∙ laid-body;
      }

pub laid-all : (v : Shape) (fs : List Frame) (k : ℕ) (marks room : List ℕ) → length fs ≤ k → LaidFirst v fs k marks room
    → ◌≡◌ {A = Bundle} (record { marks = marks; room = room }) (laid v fs)
unfolding laid
laid-all v fs k marks room h x =
    let e : take k fs ≡ fs = take_all k fs h in
    let a : marks ≡ filled 10 erasure (types_of fs) = x.types ∙ ap (λ (l : List Frame). filled 10 erasure (types_of l)) e in
    let b : room ≡ filled (room_of v) 0 (rooms v.cell fs) = x.bodies ∙ ap (λ (l : List Frame). filled (room_of v) 0 (rooms v.cell l)) e in
    cc (a, b)
