-- A packet put in: the holding keeps the rule, knows the packet's frames, and knows of the others what it knew. Assumes nothing.
use Prim.Native.Nat.{ℕ, zero, suc, ◌+◌, ◌*◌, ◌≤◌, ◌<◌}
use mathlib.Core.Bool.{Bool, true, false}
use mathlib.Core.Path.{◌≡◌, refl, sym, ap, ap₂, subst, ◌∙◌}
use mathlib.Core.List.{List, [], ◌∷◌, ◌++◌}
use native.Mathlib.Omega.{arith}
use lib.ListN.{length, take, drop, set, replicate, length-take, length-drop, length-replicate, get_or-replicate}
use lib.Seq.{take_at, ext_get_or, get_or-take, get_or-drop}
use lib.Dec.{T, eqb}
use borrow.Author.Tests.{eqb-true, eqb-false, le-leb}
use Rattle.octets.specs.Octets.{any_set, region}
use Rattle.frame.specs.FrameTable.{Frame, size, within, erasure, erases, Listed, AllListed}
use Rattle.frame.specs.Shape.{Shape, Voice, packets_of, room_of}
use Rattle.numbers.specs.declared.GroupNumbers.{GroupNumbers}
use Rattle.frame.specs.Places.{frame_at, no_frame, up_to}
use Rattle.frame.proofs.PlacesLaws.{length-upTo, upTo-at, every-at}
use Rattle.holding.specs.Group.{Shaped, begun, held_at, bundle_of, bundle_at, with_packet, packet_right, right_in, right_at, sound, holds}
use Rattle.bundle.specs.Bundles.{not_held, mark_at, frame_of, frames_right}
use Rattle.bundle.specs.LaidOut.{filled, laid}
use Rattle.holding.specs.declared.Holding.{Holding}
use Rattle.bundle.specs.declared.Bundle.{Bundle}
use Rattle.holding.proofs.GroupLaws.{Sound, sound-has, has-sound}
use Rattle.octets.proofs.Below.{all-at, all-intro}
use Rattle.octets.proofs.Regions.{region-fits}
use Rattle.bundle.proofs.LaidOutLaws.{listed-short}
use Rattle.joining.proofs.Heads.{SameHead}
use Rattle.knowledge.specs.Knowledge.{Box, Known, told, known_of}
use Rattle.knowledge.proofs.Cells.{Sized, Cell, cell, with-shaped, with-here, with-other}
use Rattle.knowledge.proofs.PacketLaws.{laid-sized, laid-mark, laid-room, laid-right, packets-refl}
use Rattle.knowledge.proofs.KnowledgeLaws.{known_at, known-cell}

-- ---- the frames of a packet that was laid out are the frames
up_to-same : {A : Type 0} (f g : ℕ → A) (n : ℕ) → ((k : ℕ) → k < n → f k ≡ g k) → up_to f n ≡ up_to g n
unfolding up_to
up_to-same f g zero h = refl
up_to-same {A} f g (suc n) h = ap₂ (λ (xs : List A) (x : A). xs ++ (x ∷ [])) (up_to-same f g n (λ k q. h k (omega arith))) (h n (omega arith))

up_to-all : (fs : List Frame) → up_to (frame_at fs) (length fs) ≡ fs
up_to-all fs =
    ext_get_or no_frame (up_to (frame_at fs) (length fs)) fs (length-upTo (frame_at fs) (length fs))
    (λ k h. upTo-at (frame_at fs) (length fs) k no_frame (omega (arith, length-upTo (frame_at fs) (length fs))))

module _ (v : Voice) (w : T (within v.shape.cell v.table)) (fs : List Frame) (few : length fs ≤ 10) (a : AllListed v.table fs) where
  laid-frame : (k : ℕ) → k < length fs → frame_of v (laid v.shape fs) k ≡ frame_at fs k
  unfolding frame_of filled
  laid-frame k h =
      let s = listed-short v.shape.cell v.table w fs a in
      let f = frame_at fs k in
      let m : mark_at (laid v.shape fs) k ≡ f.type = laid-mark v.shape fs few s k h in
      let r : region (laid v.shape fs).room v.shape.cell k ≡ filled v.shape.cell 0 f.body = laid-room v.shape fs few s k h in
      let b : take (size v.table f.type) (filled v.shape.cell 0 f.body) ≡ f.body = take_at f.body _ (size v.table f.type) (every-at (Listed v.table) fs k a h).octets in
      rw (m, r) (ap (λ (x : List ℕ). record { type = f.type; body = x }) b)

  laid-frames : up_to (frame_of v (laid v.shape fs)) (length fs) ≡ fs
  laid-frames = up_to-same (frame_of v (laid v.shape fs)) (frame_at fs) (length fs) laid-frame ∙ up_to-all fs

-- ---- a holding that keeps the rule, a packet held or none
pub record Keeps (v : Voice) (h : Holding) : Type 0 where
  pub shaped : Shaped v.shape h
  pub rule : sound v h ≡ true

any-set : (t : List Bool) (n : ℕ) → n < length t → any_set (set t n true) ≡ true
unfolding any_set
any-set [] n k = absurd (omega arith)
any-set (x ∷ t) zero k = refl
any-set (true ∷ t) (suc n) k = refl
any-set (false ∷ t) (suc n) k = any-set t n (omega arith)

pub with-head : (u : Shape) (h : Holding) (n : ℕ) (p : Bundle) → SameHead (with_packet u h n p) h
unfolding with_packet
with-head u h n p = record { source = refl; sequence = refl; timestamp = refl; l = refl; b = refl }

right-at-cell : (v : Voice) (g h : Holding) (m : ℕ) → g.numbers.l ≡ h.numbers.l → g.numbers.b ≡ h.numbers.b → cell v.shape g m ≡ cell v.shape h m → right_at v g m ≡ right_at v h m
unfolding right_in held_at cell
right-at-cell v g h m e f q =
    ap₂ (λ (l b : ℕ). packet_right v l b m (held_at g m) (bundle_at v.shape g m)) e f ∙ ap (λ (c : Cell). packet_right v h.numbers.l h.numbers.b m c.0 c.1) q

right-put : (v : Voice) (g : Holding) (n : ℕ) (p : Bundle) → cell v.shape g n ≡ (true, p) → n ≤ g.numbers.l → frames_right v g.numbers.b p ≡ true → right_at v g n ≡ true
unfolding right_in held_at cell packet_right
right-put v g n p q le r =
    ap (λ (c : Cell). packet_right v g.numbers.l g.numbers.b n c.0 c.1) q ∙ rw (le-leb n g.numbers.l le, r)

module _
    (v : Voice) (w : T (within v.shape.cell v.table)) (z : T (erases v.table)) (h : Holding) (kh : Keeps v h) (n : ℕ) (le : n ≤ h.numbers.l)
    (fs : List Frame) (many : length fs ≡ h.numbers.b) (a : AllListed v.table fs) where
  rule : Sound v h
  rule = sound-has v h kh.rule

  few : length fs ≤ 10
  few = omega (arith, rule.few)

  below : n < packets_of v.shape
  below = omega (arith, rule.low)

  sized : Sized v.shape (laid v.shape fs)
  sized = laid-sized v.shape fs few (listed-short v.shape.cell v.table w fs a)

  abbrev put : Holding
  put = with_packet v.shape h n (laid v.shape fs)

  here : cell v.shape put n ≡ (true, laid v.shape fs)
  here = with-here v.shape h n (laid v.shape fs) kh.shaped sized below

  other : (m : ℕ) → (m ≡ n → ⊥) → cell v.shape put m ≡ cell v.shape h m
  other m d = with-other v.shape h n (laid v.shape fs) kh.shaped sized below m d

  put_right : (m : ℕ) → m < packets_of v.shape → right_at v put m ≡ true
  put_right m k = go (eqb m n) refl
    where
      hd : SameHead put h
      hd = with-head v.shape h n (laid v.shape fs)

      frames : frames_right v put.numbers.b (laid v.shape fs) ≡ true
      frames = rw hd.b (subst (λ (b : ℕ). frames_right v b (laid v.shape fs) ≡ true) many (laid-right v w z fs few a))

      go : (t : Bool) → eqb m n ≡ t → right_at v put m ≡ true
      go true e =
          subst (λ (i : ℕ). right_at v put i ≡ true) (sym (eqb-true m n e)) (right-put v put n (laid v.shape fs) here (omega (arith, hd.l)) frames)
      go false e = right-at-cell v put h m hd.l hd.b (other m (eqb-false m n e)) ∙ all-at (right_at v h) (packets_of v.shape) m rule.packets k

  pub put-box : Box v put
  unfolding holds with_packet
  put-box =
      let hd = with-head v.shape h n (laid v.shape fs) in
      let s : sound v put ≡ true =
      has-sound v put
      (record {
        low = omega (arith, rule.low, hd.l);
        some = omega (arith, rule.some, hd.b);
        few = omega (arith, rule.few, hd.b);
        packets = all-intro (right_at v put) (packets_of v.shape) put_right;
      }) in
      record { shaped = with-shaped v.shape h n (laid v.shape fs) kh.shaped sized below; some = rw (s, any-set h.held n (omega (arith, below, kh.shaped.long_held))) }

  -- all that is known of the packet, where these are its frames
  pub put-knows : (k : Known) → k.held ≡ true → k.frames ≡ fs → known_of v put n ≡ k
  unfolding told
  put-knows k on is =
      known_at v put (length fs) n (true, laid v.shape fs) ((with-head v.shape h n (laid v.shape fs)).b ∙ sym many) here
      ∙ ap₂ (λ (t : Bool) (gs : List Frame). record { held = t; frames = gs }) (sym on) (laid-frames v w fs few a ∙ sym is)

  pub put-others : (m : ℕ) → (m ≡ n → ⊥) → known_of v put m ≡ known_of v h m
  put-others m d = known-cell v put h m (with-head v.shape h n (laid v.shape fs)).b (other m d)

-- ---- a group of which no packet is held yet
same-region : (x n j s : ℕ) → s * j + s ≤ n → region (replicate n x) s j ≡ replicate s x
unfolding region
same-region x n j s h =
    let l : length (take s (drop (s * j) (replicate n x))) ≡ s = simp (length-take, length-drop, length-replicate) (omega arith) in
    ext_get_or 0 (take s (drop (s * j) (replicate n x))) (replicate s x) (l ∙ sym (length-replicate s x))
    (λ i k.
    let hi : i < s = omega (arith, l) in
    get_or-take s (drop (s * j) (replicate n x)) i 0 hi ∙ get_or-drop (s * j) (replicate n x) i 0 ∙ get_or-replicate n (s * j + i) x 0 (omega arith) ∙ sym (get_or-replicate s i x 0 hi))

module _ (v : Voice) (source : ℕ) (g : GroupNumbers) where
  abbrev none : Holding
  none = begun v.shape source g

  begun-erased : (m : ℕ) → m < packets_of v.shape → bundle_at v.shape none m ≡ not_held v.shape
  unfolding bundle_of begun not_held
  begun-erased m k =
      let c = room_of v.shape in
      rw (same-region erasure (10 * packets_of v.shape) m 10 (omega arith), same-region 0 (c * packets_of v.shape) m c (region-fits c m (packets_of v.shape) k))

  pub begun-lost : (m : ℕ) → m < packets_of v.shape → held_at none m ≡ false
  unfolding held_at begun
  begun-lost m k = get_or-replicate (packets_of v.shape) m false false k

  begun-right : (m : ℕ) → m < packets_of v.shape → right_at v none m ≡ true
  unfolding right_in held_at packet_right
  begun-right m k = rw (begun-lost m k, begun-erased m k) (packets-refl (not_held v.shape))

  pub begun-shaped : Shaped v.shape none
  unfolding begun
  begun-shaped =
      record {
        long_held = length-replicate (packets_of v.shape) false;
        long_marks = length-replicate (10 * packets_of v.shape) erasure;
        long_room = length-replicate {A = ℕ} (room_of v.shape * packets_of v.shape) 0;
      }

  begun-sound : g.l ≤ v.shape.greatest → 1 ≤ g.b → g.b ≤ 10 → sound v none ≡ true
  unfolding sound begun
  begun-sound i j k =
      simp (le-leb g.l v.shape.greatest i, le-leb 1 g.b j, le-leb g.b 10 k, all-intro (right_at v none) (packets_of v.shape) begun-right)

  pub begun-keeps : g.l ≤ v.shape.greatest → 1 ≤ g.b → g.b ≤ 10 → Keeps v none
  begun-keeps i j k =
      record {
        shaped = begun-shaped;
        rule = begun-sound i j k;
      }
