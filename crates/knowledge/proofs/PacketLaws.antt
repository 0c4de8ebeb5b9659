-- The frames of a packet: a packet that was laid out keeps the rule and holds its frames; a packet that keeps the rule is its frames laid out.
-- So what is known decides what is there. Assumes nothing.
use Prim.Native.Nat.{ℕ, zero, suc, ◌+◌, ◌-◌, ◌*◌, ◌≤◌, ◌<◌}
use mathlib.Core.Bool.{Bool, true, false, ◌&&◌, ◌||◌}
use mathlib.Core.Path.{◌≡◌, refl, sym, ap, ◌∙◌}
use mathlib.Core.List.{List, [], ◌∷◌, ◌++◌, append_assoc}
use native.Mathlib.Omega.{arith}
use native.Mathlib.Nat.{mul-zero, mul-suc, mul-le-mul_left}
use lib.ListN.{length, take, drop, get_or, replicate, length-take, length-drop, length-replicate, get_or-replicate, take-append-drop, get_or-append}
use lib.Seq.{get_or-append-add, get_or-take, get_or-drop, take_at, drop_at, drop-append-add, length-take-le, ext_get_or}
use lib.Dec.{T, eqb, ltb}
use borrow.Author.Tests.{eqb-true, ltb-true, ltb-false, lt-ltb, le-ltb}
use Rattle.octets.specs.Octets.{all_zero, same_octets, region}
use Rattle.octets.proofs.Logic.{apart, both_true}
use Rattle.octets.proofs.OctetsLaws.{zeros-are, same_refl, same_true, zero-list}
use Rattle.frame.specs.FrameTable.{Frame, known, size, within, erasure, erases, types_of, Listed, AllListed}
use Rattle.frame.specs.Shape.{Shape, Voice, room_of}
use Rattle.frame.specs.Places.{frame_at, no_frame, up_to}
use Rattle.frame.proofs.FrameTableLaws.{size-within, erasure-listed}
use Rattle.frame.proofs.PlacesLaws.{length-upTo, upTo-at, types-at, length_types, every-at, every-up_to}
use Rattle.bundle.specs.Bundles.{bundle_in, not_held, same_bundles, mark_at, frame_of, may_stand, frame_right, frames_right}
use Rattle.bundle.specs.LaidOut.{filled, rooms, laid}
use Rattle.bundle.specs.declared.Bundle.{Bundle}
use Rattle.octets.proofs.Regions.{region-fits}
use Rattle.octets.proofs.Below.{all-at, all-intro}
use Rattle.bundle.proofs.BundlesLaws.{cell-long, frame-long}
use Rattle.bundle.proofs.LaidOutLaws.{length-filled, Short, length-rooms, listed-short}
use Rattle.knowledge.proofs.Cells.{Sized, regions-ext}

-- ---- packets compared
same_parts : {m m' r r' : List ℕ} → m ≡ m' → r ≡ r' → bundle_in m r ≡ bundle_in m' r'
same_parts e f = cc

pub packets-true : (p q : Bundle) → same_bundles p q ≡ true → p ≡ q
unfolding same_bundles
packets-true p q e =
    let h = both_true (same_octets p.marks q.marks) (same_octets p.room q.room) e in
    same_parts (same_true p.marks q.marks h.0) (same_true p.room q.room h.1)

pub packets-refl : (p : Bundle) → same_bundles p p ≡ true
unfolding same_bundles
packets-refl p = rw (same_refl p.marks, same_refl p.room)

-- ---- a list that is filled up
filled_at : (n x : ℕ) (xs : List ℕ) (k : ℕ) → k < length xs → get_or (filled n x xs) k 0 ≡ get_or xs k 0
unfolding filled
filled_at n x xs k h = get_or-append xs (replicate (n - length xs) x) 0 k h

filled-past : (n x : ℕ) (xs : List ℕ) (k : ℕ) → length xs ≤ k → k < n → get_or (filled n x xs) k 0 ≡ x
unfolding filled
filled-past n x xs k h l =
    let ys = replicate (n - length xs) x in
    let e : length xs + (k - length xs) ≡ k = omega arith in
    ap (λ (i : ℕ). get_or (xs ++ ys) i 0) (sym e) ∙ get_or-append-add xs ys (k - length xs) 0 ∙ get_or-replicate (n - length xs) (k - length xs) x 0 (omega arith)

zeros-tail : (n : ℕ) (l : List ℕ) → all_zero l ≡ true → all_zero (drop n l) ≡ true
unfolding all_zero
zeros-tail zero l e = e
zeros-tail (suc n) [] e = e
zeros-tail (suc n) (x ∷ l) e = zeros-tail n l (both_true (eqb x 0) (all_zero l) e).1

-- ---- the frames of a packet that was laid out
region-rooms : (c : ℕ) (fs : List Frame) (zs : List ℕ) (k : ℕ) → Short c fs → k < length fs → take c (drop (c * k) (rooms c fs ++ zs)) ≡ filled c 0 (frame_at fs k).body
unfolding rooms
region-rooms c [] zs k s h = absurd (omega arith)
region-rooms c (f ∷ fs) zs zero s h =
    let r = filled c 0 f.body in
    rw (append_assoc r (rooms c fs) zs, mul-zero c) (take_at r (rooms c fs ++ zs) c (length-filled c 0 f.body s.0))
region-rooms c (f ∷ fs) zs (suc k) s h =
    let r = filled c 0 f.body in
    let e : c * suc k ≡ length r + c * k = omega (arith, mul-suc c k, length-filled c 0 f.body s.0) in
    rw (append_assoc r (rooms c fs) zs, e, drop-append-add r (rooms c fs ++ zs) (c * k)) (region-rooms c fs zs k s.1 (omega arith))

module _ (v : Shape) (fs : List Frame) (few : length fs ≤ 10) (s : Short v.cell fs) where
  rooms-fit : length (rooms v.cell fs) ≤ room_of v
  rooms-fit = omega (arith, length-rooms v.cell fs s, mul-le-mul_left v.cell few)

  pub laid-sized : Sized v (laid v fs)
  unfolding laid
  laid-sized =
      record {
        ten = length-filled 10 erasure (types_of fs) (omega (arith, length_types fs));
        bodies = length-filled (room_of v) 0 (rooms v.cell fs) rooms-fit;
      }

  pub laid-mark : (k : ℕ) → k < length fs → mark_at (laid v fs) k ≡ (frame_at fs k).type
  unfolding laid mark_at
  laid-mark k h = filled_at 10 erasure (types_of fs) k (omega (arith, length_types fs)) ∙ types-at fs k

  laid-mark-past : (k : ℕ) → length fs ≤ k → k < 10 → mark_at (laid v fs) k ≡ erasure
  unfolding laid mark_at
  laid-mark-past k h l = filled-past 10 erasure (types_of fs) k (omega (arith, length_types fs)) l

  pub laid-room : (k : ℕ) → k < length fs → region (laid v fs).room v.cell k ≡ filled v.cell 0 (frame_at fs k).body
  unfolding laid region filled
  laid-room k h = region-rooms v.cell fs (replicate (room_of v - length (rooms v.cell fs)) 0) k s h

  laid-room-past : (k : ℕ) → length fs ≤ k → k < 10 → region (laid v fs).room v.cell k ≡ replicate v.cell 0
  unfolding laid region
  laid-room-past k h l =
      let c = v.cell in
      let rs = filled (room_of v) 0 (rooms c fs) in
      let n : length rs ≡ room_of v = length-filled (room_of v) 0 (rooms c fs) rooms-fit in
      let f : c * k + c ≤ room_of v = region-fits c k 10 l in
      let long : length (take c (drop (c * k) rs)) ≡ c = simp (length-take, length-drop) (omega arith) in
      let past : length (rooms c fs) ≤ c * k = omega (arith, length-rooms c fs s, mul-le-mul_left c h) in
      ext_get_or 0 (take c (drop (c * k) rs)) (replicate c 0) (long ∙ sym (length-replicate c 0))
      (λ i j.
      let hi : i < c = omega arith in
      get_or-take c (drop (c * k) rs) i 0 hi ∙ get_or-drop (c * k) rs i 0
      ∙ filled-past (room_of v) 0 (rooms c fs) (c * k + i) (omega arith) (omega arith)
      ∙ sym (get_or-replicate c i 0 0 hi))

-- ---- it keeps the rule
may-below : (b k t : ℕ) → k < b → may_stand b k t ≡ true
unfolding may_stand
may-below b k t h = simp (lt-ltb k b h)

may_past : (b k : ℕ) → b ≤ k → may_stand b k erasure ≡ true
unfolding may_stand
may_past b k h = simp (le-ltb k b h)

filled-tail : (n : ℕ) (xs : List ℕ) (z : ℕ) → length xs ≡ z → all_zero (drop z (filled n 0 xs)) ≡ true
unfolding filled
filled-tail n xs z e = rw (drop_at xs (replicate (n - length xs) 0) z e) (zero-list (n - length xs))

right-when :
    (v : Voice) (b k t : ℕ) (r : List ℕ) (p : Bundle) →
    mark_at p k ≡ t →
    region p.room v.shape.cell k ≡ r →
    known v.table t ≡ true →
    may_stand b k t ≡ true →
    all_zero (drop (size v.table t) r) ≡ true →
    frame_right v b p k ≡ true
unfolding frame_right
right-when v b k t r p e f g h i = rw (e, f, g, h, i)

pub laid-right :
    (v : Voice) → T (within v.shape.cell v.table) → T (erases v.table) → (fs : List Frame) → length fs ≤ 10 → AllListed v.table fs
    → frames_right v (length fs) (laid v.shape fs) ≡ true
unfolding frames_right
laid-right v w z fs few a = all-intro (frame_right v (length fs) (laid v.shape fs)) 10 (λ k h. go k h (ltb k (length fs)) refl)
  where
    s : Short v.shape.cell fs
    s = listed-short v.shape.cell v.table w fs a

    -- the room of frame k past its body
    tail : (k : ℕ) → k < length fs → all_zero (drop (size v.table (frame_at fs k).type) (filled v.shape.cell 0 (frame_at fs k).body)) ≡ true
    tail k h =
        let b = (frame_at fs k).body in
        filled-tail v.shape.cell b (size v.table (frame_at fs k).type) (every-at (Listed v.table) fs k a h).octets

    go : (k : ℕ) → k < 10 → (t : Bool) → ltb k (length fs) ≡ t → frame_right v (length fs) (laid v.shape fs) k ≡ true
    go k h true q =
        let i : k < length fs = ltb-true k (length fs) q in
        right-when v (length fs) k (frame_at fs k).type (filled v.shape.cell 0 (frame_at fs k).body) (laid v.shape fs)
        (laid-mark v.shape fs few s k i) (laid-room v.shape fs few s k i)
        (every-at (Listed v.table) fs k a i).type_known (may-below (length fs) k (frame_at fs k).type i) (tail k i)
    go k h false q =
        let i : length fs ≤ k = ltb-false k (length fs) q in
        right-when v (length fs) k erasure (replicate v.shape.cell 0) (laid v.shape fs)
        (laid-mark-past v.shape fs few s k i h) (laid-room-past v.shape fs few s k i h)
        (erasure-listed v.table z).0 (may_past (length fs) k i) (zeros-tail (size v.table erasure) (replicate v.shape.cell 0) (zero-list v.shape.cell))

-- ---- a packet that keeps the rule is its frames laid out
-- what the rule says of frame k
record Right (v : Voice) (b : ℕ) (p : Bundle) (k : ℕ) : Type 0 where
  type_known : known v.table (mark_at p k) ≡ true
  stands : may_stand b k (mark_at p k) ≡ true
  clear : all_zero (drop (size v.table (mark_at p k)) (region p.room v.shape.cell k)) ≡ true

frame_right_lem : (v : Voice) (b : ℕ) (p : Bundle) (k : ℕ) → frame_right v b p k ≡ true → Right v b p k
unfolding frame_right
frame_right_lem v b p k e =
    let t = mark_at p k in
    let z = all_zero (drop (size v.table t) (region p.room v.shape.cell k)) in
    let x = both_true (known v.table t && may_stand b k t) z e in
    let y = both_true (known v.table t) (may_stand b k t) x.0 in
    record { type_known = y.0; stands = y.1; clear = x.1 }

past-erased : (b k t : ℕ) → may_stand b k t ≡ true → b ≤ k → t ≡ erasure
unfolding may_stand
past-erased b k t e h = eqb-true t erasure (go (ltb k b) (le-ltb k b h) e)
  where
    go : (s : Bool) → s ≡ false → s || eqb t erasure ≡ true → eqb t erasure ≡ true
    go true p q = apart (cc)
    go false p q = q

-- a room whose rest is zero is its body, filled up
room-filled : (r : List ℕ) (n z : ℕ) → length r ≡ n → z ≤ n → all_zero (drop z r) ≡ true → r ≡ filled n 0 (take z r)
unfolding filled
room-filled r n z l h e =
    let a : length (take z r) ≡ z = length-take-le z r (omega arith) in
    let b : length (drop z r) ≡ n - length (take z r) = omega (arith, length-drop z r) in
    sym (take-append-drop z r) ∙ ap (λ (x : List ℕ). take z r ++ x) (zeros-are (drop z r) e ∙ ap (λ (i : ℕ). replicate i 0) b)

module _ (v : Voice) (w : T (within v.shape.cell v.table)) (z : T (erases v.table)) (b : ℕ) (few : b ≤ 10) (p : Bundle) (s : Sized v.shape p) (right : frames_right v b p ≡ true) where
  abbrev ours : List Frame
  ours = up_to (frame_of v p) b

  right-at : (k : ℕ) → k < 10 → Right v b p k
  unfolding frames_right
  right-at k h = frame_right_lem v b p k (all-at (frame_right v b p) 10 k right h)

  our-frame : (k : ℕ) → k < b → frame_at ours k ≡ frame_of v p k
  our-frame k h = upTo-at (frame_of v p) b k no_frame h

  our-listed-at : (k : ℕ) → k < b → Listed v.table (frame_of v p k)
  unfolding frame_of
  our-listed-at k h = record { type_known = (right-at k (omega arith)).type_known; octets = frame-long v w p k s.bodies (omega arith) }

  pub right-listed : AllListed v.table ours
  right-listed = every-up_to (Listed v.table) (frame_of v p) b our-listed-at

  short-ours : Short v.shape.cell ours
  short-ours = listed-short v.shape.cell v.table w ours right-listed

  many : length ours ≡ b
  many = length-upTo (frame_of v p) b

  mark-same : (k : ℕ) → k < 10 → (t : Bool) → ltb k b ≡ t → mark_at p k ≡ mark_at (laid v.shape ours) k
  unfolding frame_of
  mark-same k h true q =
      let i : k < b = ltb-true k b q in
      sym (laid-mark v.shape ours (omega (arith, many)) short-ours k (omega (arith, many)) ∙ ap (λ (f : Frame). f.type) (our-frame k i))
  mark-same k h false q =
      let i : b ≤ k = ltb-false k b q in
      past-erased b k (mark_at p k) (right-at k h).stands i ∙ sym (laid-mark-past v.shape ours (omega (arith, many)) short-ours k (omega (arith, many)) h)

  room-same : (k : ℕ) → k < 10 → (t : Bool) → ltb k b ≡ t → region p.room v.shape.cell k ≡ region (laid v.shape ours).room v.shape.cell k
  unfolding frame_of
  room-same k h true q =
      let i : k < b = ltb-true k b q in
      room-filled (region p.room v.shape.cell k) v.shape.cell (size v.table (mark_at p k))
      (cell-long v.shape p k s.bodies h) (size-within v.shape.cell v.table (mark_at p k) w) (right-at k h).clear
      ∙ sym (laid-room v.shape ours (omega (arith, many)) short-ours k (omega (arith, many)) ∙ ap (λ (f : Frame). filled v.shape.cell 0 f.body) (our-frame k i))
  room-same k h false q =
      let i : b ≤ k = ltb-false k b q in
      let e : size v.table (mark_at p k) ≡ 0 = ap (size v.table) (past-erased b k (mark_at p k) (right-at k h).stands i) ∙ (erasure-listed v.table z).1 in
      let c : all_zero (region p.room v.shape.cell k) ≡ true = rw e at (right-at k h).clear in
      zeros-are (region p.room v.shape.cell k) c ∙ ap (λ (n : ℕ). replicate n 0) (cell-long v.shape p k s.bodies h)
      ∙ sym (laid-room-past v.shape ours (omega (arith, many)) short-ours k (omega (arith, many)) h)

  pub right-laid : p ≡ laid v.shape ours
  unfolding mark_at
  right-laid =
      let y = laid-sized v.shape ours (omega (arith, many)) short-ours in
      let m : p.marks ≡ (laid v.shape ours).marks = ext_get_or 0 p.marks (laid v.shape ours).marks (s.ten ∙ sym y.ten) (λ k h. mark-same k (omega (arith, s.ten)) (ltb k b) refl) in
      let r : p.room ≡ (laid v.shape ours).room = regions-ext 10 v.shape.cell p.room (laid v.shape ours).room s.bodies y.bodies (λ k h. room-same k h (ltb k b) refl) in
      same_parts m r

-- a packet that is not held has erasures
pub erased-frame : (v : Voice) → T (erases v.table) → (k : ℕ) → k < 10 → frame_of v (not_held v.shape) k ≡ record { type = erasure; body = [] }
unfolding frame_of not_held mark_at
erased-frame v z k h =
    let m : get_or (replicate {A = ℕ} 10 erasure) k 0 ≡ erasure = get_or-replicate 10 k erasure 0 h in
    let e : size v.table (get_or (replicate {A = ℕ} 10 erasure) k 0) ≡ 0 = ap (size v.table) m ∙ (erasure-listed v.table z).1 in
    rw (e, m)
