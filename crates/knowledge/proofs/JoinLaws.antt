-- What joining makes of holdings of one group: the one holding that has every packet of any of them and no other. Assumes nothing.
use Rattle.std.proofs.Common.{Ok}
use Prim.Native.Nat.{ℕ, zero, suc, ◌<◌}
use mathlib.Core.Bool.{Bool, true, false, cond, ◌&&◌}
use mathlib.Core.Path.{◌≡◌, refl, sym, ap, ap₂, subst, ◌∙◌}
use mathlib.Core.List.{List, [], ◌∷◌, ◌++◌}
use mathlib.Core.Logic.{◌⊎◌, ⊎_elim, inl, inr}
use native.Mathlib.Omega.{arith}
use lib.ListN.{length, get_or}
use lib.Dec.{leb}
use Rattle.octets.specs.Octets.{any_set, all_below}
use Rattle.octets.proofs.Logic.{apart, both_true}
use Rattle.frame.specs.Shape.{Shape, Voice, packets_of}
use Rattle.answers.specs.declared.Refusal.TheVariants.{PacketDiffers}
use Rattle.holding.specs.Group.{Shaped, held_at, bundle_at, packet_right, right_in, right_at, sound, holds}
use Rattle.bundle.specs.Bundles.{not_held, same_bundles, frames_right}
use Rattle.joining.specs.Joining.{meets, agree_in, agree_at, agree, either, refused_join, join_of}
use Rattle.holding.specs.declared.Holding.{Holding}
use Rattle.bundle.specs.declared.Bundle.{Bundle}
use Rattle.holding.proofs.GroupLaws.{Sound, sound-has, has-sound, holds-sound}
use Rattle.octets.proofs.Below.{all-at, all-intro, all-fails}
use Rattle.joining.proofs.Heads.{SameHead, take_head, head-group, head-sym, head-refl, head-trans}
use Rattle.knowledge.specs.Knowledge.{Box, Among}
use Rattle.knowledge.proofs.Cells.{Cell, cell, mix, take-shaped, take-cell, cells_ext}
use Rattle.knowledge.proofs.PacketLaws.{packets-true, packets-refl}

-- ---- tests
-- a test that fails below n fails somewhere
pub record Fails (f : ℕ → Bool) (n : ℕ) : Type 0 where
  pub at : ℕ
  pub below : at < n
  pub fails : f at ≡ false

all-witness : (f : ℕ → Bool) (n : ℕ) → all_below f n ≡ false → Fails f n
unfolding all_below
all-witness f zero e = apart (cc)
all-witness f (suc n) e = go (f n) refl e (λ h. all-witness f n h)
  where
    go : (t : Bool) → f n ≡ t → t && all_below f n ≡ false → (all_below f n ≡ false → Fails f n) → Fails f (suc n)
    go true q h i = let w = i h in record { at = w.at; below = omega (arith, w.below); fails = w.fails }
    go false q h i = record { at = n; below = omega arith; fails = q }

-- ---- cells of a box
abbrev cell_right : Voice → ℕ → ℕ → ℕ → Cell → Bool
cell_right v l b n x = packet_right v l b n x.0 x.1

pub box-sound : (v : Voice) (h : Holding) → Box v h → Sound v h
box-sound v h x = sound-has v h (holds-sound v h x.some).0

box-cell : (v : Voice) (h : Holding) → Box v h → (n : ℕ) → n < packets_of v.shape → cell_right v h.numbers.l h.numbers.b n (cell v.shape h n) ≡ true
unfolding cell right_in held_at
box-cell v h x n k = all-at (right_at v h) (packets_of v.shape) n (box-sound v h x).packets k

cell-blank : (v : Voice) (l b n : ℕ) (x : Cell) → cell_right v l b n x ≡ true → x.0 ≡ false → x.1 ≡ not_held v.shape
unfolding packet_right
cell-blank v l b n (true, p) e f = apart (cc)
cell-blank v l b n (false, p) e f = packets-true p (not_held v.shape) e

-- a packet that is not held reads as erasures
pub box-blank : (v : Voice) (h : Holding) → Box v h → (n : ℕ) → n < packets_of v.shape → held_at h n ≡ false → bundle_at v.shape h n ≡ not_held v.shape
unfolding cell
box-blank v h x n k e = cell-blank v h.numbers.l h.numbers.b n (cell v.shape h n) (box-cell v h x n k) e

-- one that is held is none above L, and its frames keep the rule
pub right-held : (v : Voice) (h : Holding) → Box v h → (n : ℕ) → n < packets_of v.shape → held_at h n ≡ true → (leb n h.numbers.l ≡ true) × (frames_right v h.numbers.b (bundle_at v.shape h n) ≡ true)
unfolding cell packet_right
right-held v h x n k e = both_true (leb n h.numbers.l) (frames_right v h.numbers.b (bundle_at v.shape h n)) (go (held_at h n) e (box-cell v h x n k))
  where
    go : (t : Bool) → t ≡ true
        → cond t (leb n h.numbers.l && frames_right v h.numbers.b (bundle_at v.shape h n)) (same_bundles (bundle_at v.shape h n) (not_held v.shape)) ≡ true
        → leb n h.numbers.l && frames_right v h.numbers.b (bundle_at v.shape h n) ≡ true
    go true p q = q
    go false p q = apart (cc)

-- ---- every packet of either, of two boxes of one group
mix-right : (v : Voice) (l b n : ℕ) (x y : Cell) → cell_right v l b n x ≡ true → cell_right v l b n y ≡ true → cell_right v l b n (mix x y) ≡ true
mix-right v l b n x (true, q) e f = f
mix-right v l b n x (false, q) e f = e

mix-on : (x y : Cell) → x.0 ≡ true → (mix x y).0 ≡ true
mix-on x (true, q) e = refl
mix-on x (false, q) e = e

any-more : (s t : List Bool) → length s ≡ length t → ((n : ℕ) → n < length s → get_or s n false ≡ true → get_or t n false ≡ true) → any_set s ≡ true → any_set t ≡ true
unfolding any_set
any-more [] t e h f = apart (cc)
any-more (x ∷ s) [] e h f = absurd (omega arith)
any-more (true ∷ s) (y ∷ t) e h f = let g : y ≡ true = h 0 (omega arith) refl in rw g
any-more (false ∷ s) (true ∷ t) e h f = refl
any-more (false ∷ s) (false ∷ t) e h f = any-more s t (omega arith) (λ n k. h (suc n) (omega arith)) f

right-cell : (v : Voice) (h : Holding) (n : ℕ) → right_at v h n ≡ cell_right v h.numbers.l h.numbers.b n (cell v.shape h n)
unfolding right_in held_at cell
right-cell v h n = refl

module _ (v : Voice) (a b : Holding) (x : Box v a) (y : Box v b) (g : SameHead a b) where
  either-shaped : Shaped v.shape (either v.shape a b)
  either-shaped = take-shaped v.shape a b x.shaped y.shaped (packets_of v.shape) (omega arith)

  either-cell : (n : ℕ) → n < packets_of v.shape → cell v.shape (either v.shape a b) n ≡ mix (cell v.shape a n) (cell v.shape b n)
  either-cell n k = take-cell v.shape a b x.shaped y.shaped n k

  either-head : SameHead (either v.shape a b) a
  either-head = take_head v.shape a b (packets_of v.shape)

  either-right : (n : ℕ) → n < packets_of v.shape → right_at v (either v.shape a b) n ≡ true
  either-right n k =
      let e : cell_right v a.numbers.l a.numbers.b n (cell v.shape a n) ≡ true = box-cell v a x n k in
      let f : cell_right v a.numbers.l a.numbers.b n (cell v.shape b n) ≡ true = rw (g.l, g.b) (box-cell v b y n k) in
      let m : cell_right v a.numbers.l a.numbers.b n (cell v.shape (either v.shape a b) n) ≡ true =
      rw (either-cell n k) (mix-right v a.numbers.l a.numbers.b n (cell v.shape a n) (cell v.shape b n) e f) in
      right-cell v (either v.shape a b) n
      ∙ ap (λ (z : ℕ). cell_right v z (either v.shape a b).numbers.b n (cell v.shape (either v.shape a b) n)) either-head.l
      ∙ ap (λ (z : ℕ). cell_right v a.numbers.l z n (cell v.shape (either v.shape a b) n)) either-head.b
      ∙ m

  either-sound : sound v (either v.shape a b) ≡ true
  either-sound =
      let s = box-sound v a x in
      let h = either-head in
      has-sound v (either v.shape a b)
      (record {
        low = omega (arith, s.low, h.l);
        some = omega (arith, s.some, h.b);
        few = omega (arith, s.few, h.b);
        packets = all-intro (right_at v (either v.shape a b)) (packets_of v.shape) either-right;
      })

  either-any : any_set (either v.shape a b).held ≡ true
  unfolding cell held_at
  either-any =
      any-more a.held (either v.shape a b).held (x.shaped.long_held ∙ sym either-shaped.long_held)
      (λ n k e. ap (λ (c : Cell). c.0) (either-cell n (omega (arith, x.shaped.long_held))) ∙ mix-on (cell v.shape a n) (cell v.shape b n) e)
      (holds-sound v a x.some).1

  either-box : Box v (either v.shape a b)
  unfolding holds
  either-box = record { shaped = either-shaped; some = rw (either-sound, either-any) }

  -- what joining answers of two boxes of one group
  pub join_is : join_of v a b ≡ cond (agree v.shape a b) (record { answer = (Ok tt); holding = either v.shape a b }) (refused_join v.shape PacketDiffers)
  unfolding join_of
  join_is = rw (x.some, y.some, head-group a b g)

-- ---- packets that two hold do not differ
abbrev meet_cells : Cell → Cell → Bool
meet_cells x y = meets x.0 x.1 y.0 y.1

agree-cell : (u : Shape) (a b : Holding) (n : ℕ) → agree_at u a b n ≡ meet_cells (cell u a n) (cell u b n)
unfolding agree_in held_at cell
agree-cell u a b n = refl

pub agree_at_lem : (u : Shape) (a b : Holding) → agree u a b ≡ true → (n : ℕ) → n < packets_of u → meet_cells (cell u a n) (cell u b n) ≡ true
unfolding agree
agree_at_lem u a b e n k = sym (agree-cell u a b n) ∙ all-at (agree_at u a b) (packets_of u) n e k

pub meets-same : (x y : Cell) → meet_cells x y ≡ true → x.0 ≡ true → y.0 ≡ true → x ≡ y
unfolding meets
meets-same (true, p) (true, q) e f g = ap (λ (r : Bundle). (true, r)) (packets-true p q e)
meets-same (true, p) (false, q) e f g = apart (cc)
meets-same (false, p) y e f g = apart (cc)

same_meets : (x y : Cell) → (x.0 ≡ true → y.0 ≡ true → x ≡ y) → meet_cells x y ≡ true
unfolding meets
same_meets (true, p) (true, q) h = let e : p ≡ q = ap (λ (c : Cell). c.1) (h refl refl) in rw e (packets-refl q)
same_meets (true, p) (false, q) h = refl
same_meets (false, p) y h = refl

-- a packet that differs is held in both
meets-held : (x y : Cell) → meet_cells x y ≡ false → (x.0 ≡ true) × (y.0 ≡ true)
unfolding meets
meets-held (true, p) (true, q) e = (refl, refl)
meets-held (true, p) (false, q) e = apart (cc)
meets-held (false, p) y e = apart (cc)

pub agree-when :
    (u : Shape) (a b : Holding) → ((n : ℕ) → n < packets_of u → held_at a n ≡ true → held_at b n ≡ true → cell u a n ≡ cell u b n) → agree u a b ≡ true
unfolding agree cell
agree-when u a b h = all-intro (agree_at u a b) (packets_of u) (λ n k. agree-cell u a b n ∙ same_meets (cell u a n) (cell u b n) (h n k))

-- ---- a list of boxes, and the holding that has every packet of theirs and no other
pub in_left : (h : Holding) (xs ys : List Holding) → Among h xs → Among h (xs ++ ys)
in_left h [] ys i = absurd i
in_left h (x ∷ xs) ys i = ⊎_elim (λ (e : h ≡ x). inl e) (λ (j : Among h xs). inr (in_left h xs ys j)) i

pub in_right : (h : Holding) (xs ys : List Holding) → Among h ys → Among h (xs ++ ys)
in_right h [] ys i = i
in_right h (x ∷ xs) ys i = inr (in_right h xs ys i)

pub in_either : (h : Holding) (xs ys : List Holding) → Among h (xs ++ ys) → Among h xs ⊎ Among h ys
in_either h [] ys i = inr i
in_either h (x ∷ xs) ys i = ⊎_elim (λ (e : h ≡ x). inl (inl e)) (λ (j : Among h (xs ++ ys)). ⊎_elim (λ (p : Among h xs). inl (inr p)) (λ (q : Among h ys). inr q) (in_either h xs ys j)) i

-- two boxes that differ in a packet
pub record Clash (u : Shape) (xs ys : List Holding) : Type 0 where
  pub x : Holding
  pub y : Holding
  pub x_in : Among x xs
  pub y_in : Among y ys
  pub differ : agree u x y ≡ false

-- one of the boxes has this cell of packet n
pub record CellBy (u : Shape) (xs : List Holding) (n : ℕ) (c : Cell) : Type 0 where
  pub box : Holding
  pub is_in : Among box xs
  pub has : cell u box n ≡ c

pub record Sum (v : Voice) (xs : List Holding) (h : Holding) : Type 0 where
  pub whole : Box v h
  pub one_group : (a : Holding) → Among a xs → SameHead a h
  pub kept : (a : Holding) → Among a xs → (n : ℕ) → n < packets_of v.shape → held_at a n ≡ true → cell v.shape h n ≡ cell v.shape a n
  pub from : (n : ℕ) → n < packets_of v.shape → CellBy v.shape xs n (cell v.shape h n)

pub sum_one : (v : Voice) (h : Holding) → Box v h → Sum v (h ∷ []) h
sum_one v h x =
    record {
      whole = x;
      one_group = λ a i. alone (λ (b : Holding). SameHead b h) a i (head-refl h);
      kept = λ a i n k e. alone (λ (b : Holding). cell v.shape h n ≡ cell v.shape b n) a i refl;
      from = λ n k. record { box = h; is_in = inl refl; has = refl };
    }
  where
    alone : (P : Holding → Type 0) (a : Holding) → Among a (h ∷ []) → P h → P a
    alone P a i p = ⊎_elim (λ (e : a ≡ h). subst P (sym e) p) (λ (e : ⊥). absurd e) i

-- ---- two sums joined
mix_first : (x y : Cell) → meet_cells x y ≡ true → x.0 ≡ true → mix x y ≡ x
unfolding meets
mix_first (true, p) (true, q) e f = ap (λ (r : Bundle). (true, r)) (sym (packets-true p q e))
mix_first (true, p) (false, q) e f = refl
mix_first (false, p) y e f = apart (cc)

mix-second : (x y : Cell) → y.0 ≡ true → mix x y ≡ y
mix-second x (true, q) e = refl
mix-second x (false, q) e = apart (cc)

held-cell : (u : Shape) (a b : Holding) (n : ℕ) → cell u a n ≡ cell u b n → held_at b n ≡ true → held_at a n ≡ true
unfolding cell
held-cell u a b n e f = ap (λ (c : Cell). c.0) e ∙ f

pub cell-on : (u : Shape) (a : Holding) (n : ℕ) → held_at a n ≡ true → (cell u a n).0 ≡ true
unfolding cell
cell-on u a n e = e

module _ (v : Voice) (xs ys : List Holding) (a b : Holding) (s : Sum v xs a) (t : Sum v ys b) (g : SameHead a b) where
  -- where they agree, every packet of either is the sum of all
  pub sum_both : agree v.shape a b ≡ true → Sum v (xs ++ ys) (either v.shape a b)
  unfolding cell
  sum_both e =
      record {
        whole = either-box v a b s.whole t.whole g;
        one_group = λ c i. ⊎_elim (λ (j : Among c xs). first_group c j) (λ (j : Among c ys). second_group c j) (in_either c xs ys i);
        kept = λ c i n k f. ⊎_elim (λ (j : Among c xs). first-kept c j n k f) (λ (j : Among c ys). second-kept c j n k f) (in_either c xs ys i);
        from = λ n k. subst (CellBy v.shape (xs ++ ys) n) (sym (joined n k)) (of_either n (cell v.shape a n) (cell v.shape b n) (s.from n k) (t.from n k));
      }
    where
      joined : (n : ℕ) → n < packets_of v.shape → cell v.shape (either v.shape a b) n ≡ mix (cell v.shape a n) (cell v.shape b n)
      joined n k = either-cell v a b s.whole t.whole g n k

      back : SameHead a (either v.shape a b)
      back = head-sym (either v.shape a b) a (either-head v a b s.whole t.whole g)

      first_group : (c : Holding) → Among c xs → SameHead c (either v.shape a b)
      first_group c j = head-trans c a (either v.shape a b) (s.one_group c j) back

      second_group : (c : Holding) → Among c ys → SameHead c (either v.shape a b)
      second_group c j = head-trans c b (either v.shape a b) (t.one_group c j) (head-trans b a (either v.shape a b) (head-sym a b g) back)

      first-kept : (c : Holding) → Among c xs → (n : ℕ) → n < packets_of v.shape → held_at c n ≡ true → cell v.shape (either v.shape a b) n ≡ cell v.shape c n
      first-kept c j n k f =
          let p = s.kept c j n k f in
          joined n k ∙ mix_first (cell v.shape a n) (cell v.shape b n) (agree_at_lem v.shape a b e n k) (held-cell v.shape a c n p f) ∙ p

      second-kept : (c : Holding) → Among c ys → (n : ℕ) → n < packets_of v.shape → held_at c n ≡ true → cell v.shape (either v.shape a b) n ≡ cell v.shape c n
      second-kept c j n k f =
          let p = t.kept c j n k f in
          joined n k ∙ mix-second (cell v.shape a n) (cell v.shape b n) (held-cell v.shape b c n p f) ∙ p

      of_either : (n : ℕ) (x y : Cell) → CellBy v.shape xs n x → CellBy v.shape ys n y → CellBy v.shape (xs ++ ys) n (mix x y)
      of_either n x (true, q) p r = record { box = r.box; is_in = in_right r.box xs ys r.is_in; has = r.has }
      of_either n x (false, q) p r = record { box = p.box; is_in = in_left p.box xs ys p.is_in; has = p.has }

  -- and no two of their boxes differ
  pub sum-agree : agree v.shape a b ≡ true → (x y : Holding) → Among x xs → Among y ys → agree v.shape x y ≡ true
  sum-agree e x y i j =
      agree-when v.shape x y (λ n k p q.
      let f = s.kept x i n k p in
      let h = t.kept y j n k q in
      sym f ∙ meets-same (cell v.shape a n) (cell v.shape b n) (agree_at_lem v.shape a b e n k) (held_on a x n f p) (held_on b y n h q) ∙ h)
    where
      held_on : (c d : Holding) (n : ℕ) → cell v.shape c n ≡ cell v.shape d n → held_at d n ≡ true → (cell v.shape c n).0 ≡ true
      held_on c d n p q = cell-on v.shape c n (held-cell v.shape c d n p q)

  -- where they differ, so do two of their boxes
  pub sum-differ : agree v.shape a b ≡ false → Clash v.shape xs ys
  unfolding agree
  sum-differ e =
      let w = all-witness (agree_at v.shape a b) (packets_of v.shape) e in
      let n = w.at in
      let p = s.from n w.below in
      let q = t.from n w.below in
      let z : agree_at v.shape p.box q.box n ≡ false = agree-cell v.shape p.box q.box n ∙ ap₂ meet_cells p.has q.has ∙ sym (agree-cell v.shape a b n) ∙ w.fails in
      record { x = p.box; y = q.box; x_in = p.is_in; y_in = q.is_in; differ = all-fails (agree_at v.shape p.box q.box) (packets_of v.shape) n w.below z }

-- a sum of the same boxes is the same
pub sum_same :
    (v : Voice) (xs ys : List Holding) (a b : Holding) →
    Sum v xs a →
    Sum v ys b →
    SameHead a b →
    ((h : Holding) → Among h xs → Among h ys) →
    ((h : Holding) → Among h ys → Among h xs) →
    a ≡ b
unfolding cell
sum_same v xs ys a b s t g to back = cells_ext v.shape a b s.whole.shaped t.whole.shaped g (λ n k. go n k (held_at a n) refl (held_at b n) refl)
  where
    go : (n : ℕ) → n < packets_of v.shape → (p : Bool) → held_at a n ≡ p → (q : Bool) → held_at b n ≡ q → cell v.shape a n ≡ cell v.shape b n
    go n k true e q f =
        let w = s.from n k in
        sym (t.kept w.box (to w.box w.is_in) n k (held-cell v.shape w.box a n w.has e) ∙ w.has)
    go n k false e true f =
        let w = t.from n k in
        s.kept w.box (back w.box w.is_in) n k (held-cell v.shape w.box b n w.has f) ∙ w.has
    go n k false e false f = ap₂ (λ (x : Bool) (y : Bundle). (x, y)) (e ∙ sym f) (box-blank v a s.whole n k e ∙ sym (box-blank v b t.whole n k f))

-- two that do not agree hold a packet, and not the same
pub record Unlike (u : Shape) (a b : Holding) : Type 0 where
  pub packet : ℕ
  pub below : packet < packets_of u
  pub first : held_at a packet ≡ true
  pub second : held_at b packet ≡ true
  pub differ : cell u a packet ≡ cell u b packet → ⊥

pub unlike-at : (u : Shape) (a b : Holding) → agree u a b ≡ false → Unlike u a b
unfolding agree cell
unlike-at u a b e =
    let w = all-witness (agree_at u a b) (packets_of u) e in
    let n = w.at in
    let m : meet_cells (cell u a n) (cell u b n) ≡ false = sym (agree-cell u a b n) ∙ w.fails in
    let h = meets-held (cell u a n) (cell u b n) m in
    record {
      packet = n;
      below = w.below;
      first = h.0;
      second = h.1;
      differ = λ q. true-false (sym (same_meets (cell u a n) (cell u b n) (λ s t. q)) ∙ m);
    }
  where
    true-false : true ≡ false → ⊥
    true-false z = apart (cc)
