-- Joining: every order and grouping, difference, loss, invention, knowledge and places. Assumes nothing.
use Rattle.std.proofs.Common.{Ok, Err}
use Prim.Native.Nat.{◌+◌}
use mathlib.Core.Bool.{Bool, true, false}
use mathlib.Core.Path.{◌≡◌, refl, sym, ap, subst, ◌∙◌}
use mathlib.Core.List.Permᴰ
use mathlib.Core.List.{List, [], ◌∷◌, ◌++◌, Permᴰ}
use mathlib.Core.Logic.{◌⊎◌, ⊎_elim, inl, inr}
use native.Mathlib.Omega.{arith}
use native.Mathlib.Nat.{mul_comm}
use Rattle.octets.proofs.Logic.{apart}
use Rattle.frame.specs.Shape.{Shape, Voice}
use Rattle.answers.specs.declared.Refusal.TheVariants.{PacketDiffers}
use Rattle.frame.proofs.FrameTableLaws.{rows-within, rows_fit, rows-erases}
use Rattle.form.specs.Agreed.{vocoder_of}
use Rattle.holding.specs.Group.{vocoder_in}
use Rattle.joining.specs.Joining.{Joined, agree, either, refused_join, join_of}
use Rattle.knowledge.specs.Knowledge.{Box, known_of, Among}
use Rattle.pouring.proofs.PouringLaws.{count-rows, rows_at, pour-all}
use Rattle.holding.specs.declared.Holding.{Holding}
use Rattle.joining.proofs.Heads.{SameHead, group-head, head-group, head-refl, head-sym, head-trans}
use Rattle.knowledge.proofs.Cells.{cell}
use Rattle.knowledge.proofs.JoinLaws.{Sum, sum_one, sum_both, sum-agree, sum-differ, sum_same, Clash, join_is, in_left, in_right}
use Rattle.knowledge.proofs.JoinLaws.{in_either, agree-when, agree_at_lem, meets-same, cell-on, box-sound, unlike-at}
use Rattle.knowledge.proofs.KnowledgeLaws.{known-cell, known-held, known-frame, same-cell, same_known}
use Rattle.claims.specs.Joinings.{HasRoom, VoicesHaveRoom, Way, only, joining, boxes, done, join_answers, outcome, OneGroup, SameBoxes}
use Rattle.claims.specs.Joinings.{EveryOrderAndGrouping, EveryPermutation, WithItself, Differ, DifferenceEndsIn14, Joins}
use Rattle.claims.specs.Joinings.{ElseTheyJoin, NothingLost, NothingInvented, EqualKnowledge, EveryPlaceInTime}

pub voices_have_room : VoicesHaveRoom
voices_have_room =
    record {
      of_vocoders = λ vocoder. record { short = rows_fit vocoder; erasing = rows-erases vocoder };
      of_sessions = λ form. record { short = rows-within (vocoder_of form); erasing = rows-erases (vocoder_of form) };
      of_holdings = λ h. record { short = rows-within (vocoder_in h); erasing = rows-erases (vocoder_in h) };
    }

-- ---- how a way of joining ends: in the sum of its boxes, no two of which differ; or in 14, and two of them differ
data Ends (v : Voice) (xs : List Holding) (j : Joined) : Type 0 where
  sum : (h : Holding) → Sum v xs h → ((x y : Holding) → Among x xs → Among y xs → agree v.shape x y ≡ true) → j ≡ done h → Ends v xs j
  clash : Clash v.shape xs xs → j ≡ refused_join v.shape PacketDiffers → Ends v xs j

-- a way has a box
pub record Some (xs : List Holding) : Type 0 where
  pub box : Holding
  pub is_in : Among box xs

pub some-box : (w : Way) → Some (boxes w)
some-box (only h) = record { box = h; is_in = inl refl }
some-box (joining s t) = let x = some-box s in record { box = x.box; is_in = in_left x.box (boxes s) (boxes t) x.is_in }

left-group : (v : Voice) (xs ys : List Holding) → OneGroup v (xs ++ ys) → OneGroup v xs
left-group v xs ys g = record { each = λ h i. g.each h (in_left h xs ys i); same = λ a b i j. g.same a b (in_left a xs ys i) (in_left b xs ys j) }

right-group : (v : Voice) (xs ys : List Holding) → OneGroup v (xs ++ ys) → OneGroup v ys
right-group v xs ys g = record { each = λ h i. g.each h (in_right h xs ys i); same = λ a b i j. g.same a b (in_right a xs ys i) (in_right b xs ys j) }

agree-self : (u : Shape) (a b : Holding) → a ≡ b → agree u a b ≡ true
agree-self u a b e = agree-when u a b (λ n k p q. ap (λ (h : Holding). cell u h n) e)

agree-turn : (u : Shape) (a b : Holding) → agree u a b ≡ true → agree u b a ≡ true
unfolding cell
agree-turn u a b e = agree-when u b a (λ n k p q. sym (meets-same (cell u a n) (cell u b n) (agree_at_lem u a b e n k) q p))

first-refused : (v : Voice) (j k : Joined) → j ≡ refused_join v.shape PacketDiffers → join_answers v j j.answer k k.answer ≡ refused_join v.shape PacketDiffers
unfolding refused_join
first-refused v j k e = subst (λ (x : Joined). join_answers v x x.answer k k.answer ≡ refused_join v.shape PacketDiffers) (sym e) refl

second-refused : (v : Voice) (j k : Joined) (a : Holding) → j ≡ done a → k ≡ refused_join v.shape PacketDiffers → join_answers v j j.answer k k.answer ≡ refused_join v.shape PacketDiffers
unfolding refused_join
second-refused v j k a e f =
    subst (λ (x : Joined). join_answers v x x.answer k k.answer ≡ refused_join v.shape PacketDiffers) (sym e)
    (subst (λ (y : Joined). join_answers v (done a) (Ok tt) y y.answer ≡ refused_join v.shape PacketDiffers) (sym f) refl)

both-done : (v : Voice) (j k : Joined) (a b : Holding) → j ≡ done a → k ≡ done b → join_answers v j j.answer k k.answer ≡ join_of v a b
both-done v j k a b e f =
    subst (λ (x : Joined). join_answers v x x.answer k k.answer ≡ join_of v a b) (sym e)
    (subst (λ (y : Joined). join_answers v (done a) (Ok tt) y y.answer ≡ join_of v a b) (sym f) refl)

wider : (u : Shape) (xs ys zs : List Holding) → ((h : Holding) → Among h xs → Among h zs) → ((h : Holding) → Among h ys → Among h zs) → Clash u xs ys → Clash u zs zs
wider u xs ys zs f g c = record { x = c.x; y = c.y; x_in = f c.x c.x_in; y_in = g c.y c.y_in; differ = c.differ }

module _ (v : Voice) (xs ys : List Holding) (g : OneGroup v (xs ++ ys)) (sx : Some xs) (sy : Some ys) (j k : Joined) where
  one_group : (a b : Holding) → Sum v xs a → Sum v ys b → SameHead a b
  one_group a b s t =
      let x = sx.box in
      let y = sy.box in
      head-trans a x b (head-sym x a (s.one_group x sx.is_in))
      (head-trans x y b (group-head x y (g.same x y (in_left x xs ys sx.is_in) (in_right y xs ys sy.is_in))) (t.one_group y sy.is_in))

  all-agree :
      (a b : Holding) →
      Sum v xs a →
      Sum v ys b →
      agree v.shape a b ≡ true →
      ((x y : Holding) → Among x xs → Among y xs → agree v.shape x y ≡ true) →
      ((x y : Holding) → Among x ys → Among y ys → agree v.shape x y ≡ true) →
      (x y : Holding) →
      Among x (xs ++ ys) →
      Among y (xs ++ ys) →
      agree v.shape x y ≡ true
  all-agree a b s t e p q x y i l =
      ⊎_elim
      (λ (m : Among x xs). ⊎_elim (λ (n : Among y xs). p x y m n) (λ (n : Among y ys). sum-agree v xs ys a b s t (one_group a b s t) e x y m n) (in_either y xs ys l))
      (λ (m : Among x ys). ⊎_elim (λ (n : Among y xs). agree-turn v.shape y x (sum-agree v xs ys a b s t (one_group a b s t) e y x n m)) (λ (n : Among y ys). q x y m n) (in_either y xs ys l))
      (in_either x xs ys i)

  -- two sums joined end as their packets tell
  ends-sums :
      (a b : Holding) →
      Sum v xs a →
      Sum v ys b →
      ((x y : Holding) → Among x xs → Among y xs → agree v.shape x y ≡ true) →
      ((x y : Holding) → Among x ys → Among y ys → agree v.shape x y ≡ true) →
      j ≡ done a →
      k ≡ done b →
      (t : Bool) →
      agree v.shape a b ≡ t →
      Ends v (xs ++ ys) (join_answers v j j.answer k k.answer)
  ends-sums a b s t p q e f true r =
      sum (either v.shape a b) (sum_both v xs ys a b s t (one_group a b s t) r) (all-agree a b s t r p q)
      (both-done v j k a b e f ∙ join_is v a b s.whole t.whole (one_group a b s t) ∙ rw r)
  ends-sums a b s t p q e f false r =
      clash (wider v.shape xs ys (xs ++ ys) (λ h i. in_left h xs ys i) (λ h i. in_right h xs ys i) (sum-differ v xs ys a b s t (one_group a b s t) r))
      (both-done v j k a b e f ∙ join_is v a b s.whole t.whole (one_group a b s t) ∙ rw r)

  ends-both : Ends v xs j → Ends v ys k → Ends v (xs ++ ys) (join_answers v j j.answer k k.answer)
  ends-both (clash c e) y = clash (wider v.shape xs xs (xs ++ ys) (λ h i. in_left h xs ys i) (λ h i. in_left h xs ys i) c) (first-refused v j k e)
  ends-both (sum a s p e) (clash c f) = clash (wider v.shape ys ys (xs ++ ys) (λ h i. in_right h xs ys i) (λ h i. in_right h xs ys i) c) (second-refused v j k a e f)
  ends-both (sum a s p e) (sum b t q f) = ends-sums a b s t p q e f (agree v.shape a b) refl

ends : (v : Voice) (w : Way) → OneGroup v (boxes w) → Ends v (boxes w) (outcome v w)
unfolding outcome
ends v (only h) g = sum h (sum_one v h (g.each h (inl refl))) (λ x y i l. agree-self v.shape x y (alone x i ∙ sym (alone y l))) refl
  where
    alone : (x : Holding) → Among x (h ∷ []) → x ≡ h
    alone x i = ⊎_elim (λ (e : x ≡ h). e) (λ (e : ⊥). absurd e) i
ends v (joining s t) g =
    ends-both v (boxes s) (boxes t) g (some-box s) (some-box t) (outcome v s) (outcome v t) (ends v s (left-group v (boxes s) (boxes t) g)) (ends v t (right-group v (boxes s) (boxes t) g))

-- ---- every order and grouping
true-false : (t : Bool) → t ≡ true → t ≡ false → ⊥
true-false t e f = apart (cc)

carried : (v : Voice) (xs ys : List Holding) → SameBoxes xs ys → OneGroup v xs → OneGroup v ys
carried v xs ys m g = record { each = λ h i. g.each h (m.1 h i); same = λ a b i j. g.same a b (m.1 a i) (m.1 b j) }

settle : (v : Voice) (xs ys : List Holding) (j k : Joined) → Some xs → SameBoxes xs ys → Ends v xs j → Ends v ys k → j ≡ k
settle v xs ys j k o m (sum a s p e) (sum b t q f) =
    let x = o.box in
    let g = head-trans a x b (head-sym x a (s.one_group x o.is_in)) (t.one_group x (m.0 x o.is_in)) in
    e ∙ ap done (sum_same v xs ys a b s t g m.0 m.1) ∙ sym f
settle v xs ys j k o m (sum a s p e) (clash c f) = absurd (true-false (agree v.shape c.x c.y) (p c.x c.y (m.1 c.x c.x_in) (m.1 c.y c.y_in)) c.differ)
settle v xs ys j k o m (clash c e) (sum b t q f) = absurd (true-false (agree v.shape c.x c.y) (q c.x c.y (m.0 c.x c.x_in) (m.0 c.y c.y_in)) c.differ)
settle v xs ys j k o m (clash c e) (clash d f) = e ∙ sym f

pub every_order_and_grouping : EveryOrderAndGrouping
unfolding EveryOrderAndGrouping
every_order_and_grouping v s t g m =
    settle v (boxes s) (boxes t) (outcome v s) (outcome v t) (some-box s) m (ends v s g) (ends v t (carried v (boxes s) (boxes t) m g))

moved : (h : Holding) {xs ys : List Holding} → Permᴰ xs ys → Among h xs → Among h ys
moved h Permᴰ.nil i = i
moved h (Permᴰ.cons {a = a} {l₁ = xs} e d) i = ⊎_elim (λ (q : h ≡ a). inl (q ∙ e)) (λ (q : Among h xs). inr (moved h d q)) i
moved h (Permᴰ.swap {a = a} {b = b} {l = xs} e f) i =
    ⊎_elim (λ (q : h ≡ a). inr (inl (q ∙ e))) (λ (q : (h ≡ b) ⊎ Among h xs). ⊎_elim (λ (r : h ≡ b). inl (r ∙ f)) (λ (r : Among h xs). inr (inr r)) q) i
moved h (Permᴰ.trans d e) i = moved h e (moved h d i)

pub every_permutation : EveryPermutation
unfolding EveryPermutation
every_permutation xs ys d = (λ h i. moved h d i, λ h i. moved h (Permᴰ.symm d) i)

pub with_itself : WithItself
unfolding WithItself outcome EveryOrderAndGrouping
with_itself v h x = every_order_and_grouping v (joining (only h) (only h)) (only h) group same
  where
    alone : (a : Holding) → Among a (h ∷ h ∷ []) → a ≡ h
    alone a i = ⊎_elim (λ (e : a ≡ h). e) (λ (j : Among a (h ∷ [])). ⊎_elim (λ (e : a ≡ h). e) (λ (e : ⊥). absurd e) j) i

    group : OneGroup v (h ∷ h ∷ [])
    group = record {
      each = λ a i. subst (Box v) (sym (alone a i)) x;
      same = λ a b i j. head-group a b (subst (λ (c : Holding). SameHead a c) (alone a i ∙ sym (alone b j)) (head-refl a));
    }

    same : SameBoxes (h ∷ h ∷ []) (h ∷ [])
    same = (λ a i. inl (alone a i), λ a i. inr i)

-- ---- two boxes that differ in a packet do not agree, and two that do not agree differ in one
differ-clash : (v : Voice) (a b : Holding) → SameHead a b → Differ v a b → agree v.shape a b ≡ false
differ-clash v a b g d = go (agree v.shape a b) refl
  where
    held : (h : Holding) → (known_of v h d.packet).held ≡ true → (cell v.shape h d.packet).0 ≡ true
    held h e = cell-on v.shape h d.packet (sym (known-held v h d.packet) ∙ e)

    same : agree v.shape a b ≡ true → known_of v a d.packet ≡ known_of v b d.packet
    same e =
        let n = d.packet in
        known-cell v a b n g.b (meets-same (cell v.shape a n) (cell v.shape b n) (agree_at_lem v.shape a b e n d.below) (held a d.first) (held b d.second))

    go : (t : Bool) → agree v.shape a b ≡ t → agree v.shape a b ≡ false
    go true e = absurd (d.unlike (same e))
    go false e = e

clash-differ : (v : Voice) → HasRoom v → (a b : Holding) → Box v a → Box v b → agree v.shape a b ≡ false → Differ v a b
clash-differ v m a b x y e =
    let u = unlike-at v.shape a b e in
    let n = u.packet in
    record {
      packet = n;
      below = u.below;
      first = known-held v a n ∙ u.first;
      second = known-held v b n ∙ u.second;
      unlike = λ q. u.differ (same-cell v m.short m.erasing a b x y n u.below q);
    }

pub difference_ends_in_14 : DifferenceEndsIn14
unfolding DifferenceEndsIn14
difference_ends_in_14 v w g a b i j d = go (outcome v w) refl (ends v w g)
  where
    no : agree v.shape a b ≡ false
    no = differ-clash v a b (group-head a b (g.same a b i j)) d

    go : (o : Joined) → outcome v w ≡ o → Ends v (boxes w) (outcome v w) → outcome v w ≡ refused_join v.shape PacketDiffers
    go o q (clash c e) = e
    go o q (sum h s p e) = absurd (true-false (agree v.shape a b) (p a b i j) no)

pub else_they_join : ElseTheyJoin
unfolding ElseTheyJoin
else_they_join v m w g h = go (ends v w g)
  where
    go : Ends v (boxes w) (outcome v w) → Joins v w
    go (sum a s p e) = record { all = a; is = e }
    go (clash c e) =
        absurd (h c.x c.y c.x_in c.y_in (clash-differ v m c.x c.y (g.each c.x c.x_in) (g.each c.y c.y_in) c.differ))

-- ---- a joining that was done is the sum of its boxes
pub done-sum : (v : Voice) (w : Way) → OneGroup v (boxes w) → (all : Holding) → outcome v w ≡ done all → Sum v (boxes w) all
unfolding refused_join
done-sum v w g all q = go (ends v w g)
  where
    go : Ends v (boxes w) (outcome v w) → Sum v (boxes w) all
    go (sum a s p e) = let z : a ≡ all = ap (λ (j : Joined). j.holding) (sym e ∙ q) in subst (Sum v (boxes w)) z s
    go (clash c e) = let z : Err PacketDiffers ≡ (Ok tt) = ap (λ (j : Joined). j.answer) (sym e ∙ q) in apart (cc)

pub nothing_lost : NothingLost
unfolding NothingLost
nothing_lost v w g all q a i n k e =
    let s = done-sum v w g all q in
    known-cell v all a n (sym (s.one_group a i).b) (s.kept a i n k (sym (known-held v a n) ∙ e))

pub nothing_invented : NothingInvented
unfolding NothingInvented
nothing_invented v w g all q n k =
    let s = done-sum v w g all q in
    let o = s.from n k in
    record { box = o.box; is_in = o.is_in; knows = known-cell v o.box all n (s.one_group o.box o.is_in).b o.has }

pub equal_knowledge : EqualKnowledge
unfolding EqualKnowledge
equal_knowledge v m a b x y g h = same_known v m.short m.erasing a b x y (group-head a b g) h

-- ---- places in time
pub every_place_in_time : EveryPlaceInTime
unfolding EveryPlaceInTime
every_place_in_time v m h x =
    record {
      entries = pour-all v h x.some;
      count = count-rows v h.marks h.room (h.numbers.l + 1) h.numbers.b ∙ mul_comm h.numbers.b (h.numbers.l + 1);
      places = λ n k p q. rows_at v h.marks h.room (h.numbers.l + 1) h.numbers.b n k (omega arith) q ∙ known-frame v m.short m.erasing h x n (omega (arith, (box-sound v h x).low)) k q;
    }
