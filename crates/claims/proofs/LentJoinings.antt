-- Holdings in lent octets are joined as holdings are. Assumes nothing.
use Rattle.std.proofs.Common.{Result, Ok, Err}
use Prim.Native.Nat.{ℕ}
use mathlib.Core.Bool.{Bool, true, false, cond, ◌&&◌}
use mathlib.Core.Path.{◌≡◌, refl, sym, ap, ap₂, subst, ◌∙◌}
use mathlib.Core.List.{List, [], ◌∷◌}
use mathlib.Core.Logic.{◌⊎◌, ⊎_elim, inl, inr}
use lib.Dec.{T}
use lib.ListN.{take}
use Rattle.octets.specs.Octets.{over, any_set}
use Rattle.octets.proofs.Logic.{apart, both_true}
use Rattle.frame.specs.FrameTable.{FrameTable, rows_of}
use Rattle.frame.specs.Shape.{Shape, Voice, voice_with}
use Rattle.answers.specs.declared.Refusal.{Refusal}
use Rattle.holding.specs.Group.{Shaped, holds, vocoder_in}
use Rattle.holding.specs.declared.Holding.{Holding}
use Rattle.holding.proofs.GroupLaws.{holds-sound}
use Rattle.joining.specs.Joining.{Joined, same_group, agree, either, refused_join, join_of}
use Rattle.joining.proofs.Heads.{SameHead, group-head, head-group, head-refl, head-sym, head-trans}
use Rattle.knowledge.specs.Knowledge.{Box, Among}
use Rattle.knowledge.proofs.JoinLaws.{sum_one, sum_both, join_is}
use Rattle.lending.specs.Laid.{is_long, holding_in, holding_laid}
use Rattle.lending.specs.Calls.{room_in, then_room, lay_if, join_answer, join_octets}
use Rattle.claims.specs.Packets.{narrow, KindsPass}
use Rattle.claims.specs.Joinings.{HasRoom, only, joining, boxes, done, join_answers, outcome, OneGroup, SameBoxes}
use Rattle.claims.specs.Joinings.{EveryOrderAndGrouping, WithItself}
use Rattle.claims.specs.Lent.{HoldingReadsBack, HoldingLaysBack}
use Rattle.claims.specs.LentJoinings.{LentWay, lent, into, way_of, LongEnough, Left, join_into, lent_outcome, EndsAs, SameEnd, JoinsLent}
use Rattle.claims.specs.LentJoinings.{LentJoinings}
use Rattle.claims.proofs.Joinings.{every_order_and_grouping, with_itself, done-sum, voices_have_room}
use Rattle.claims.proofs.PacketsBack.{kinds_pass}
use Rattle.claims.proofs.Marks.{box-marks}
use Rattle.claims.proofs.Lent.{lent_is_shaped, holding_lays_back, equal_is_equal_octets}
use Rattle.claims.proofs.LentBack.{holding_reads_back}

-- ---- a joining that was done
joined-when : (u : Shape) (t : Bool) (j : Joined) (r : Refusal) → (cond t j (refused_join u r)).answer ≡ (Ok tt) → (t ≡ true) × (j.answer ≡ (Ok tt))
unfolding refused_join
joined-when u true j r e = (refl, e)
joined-when u false j r e = apart (cc)

-- gives a holding that holds a packet
joined-box : (v : Voice) (a b : Holding) → Shaped v.shape a → Shaped v.shape b → (join_of v a b).answer ≡ (Ok tt) → Box v (join_of v a b).holding
unfolding join_of
joined-box v a b x y e =
    let i = joined-when v.shape (holds v a && holds v b) _ _ e in
    let j = joined-when v.shape (same_group a b) _ _ i.1 in
    let k = joined-when v.shape (agree v.shape a b) _ _ j.1 in
    let c = both_true (holds v a) (holds v b) i.0 in
    let p : Box v a = record { shaped = x; some = c.0 } in
    let q : Box v b = record { shaped = y; some = c.1 } in
    let g = group-head a b j.0 in
    let z : join_of v a b ≡ done (either v.shape a b) = join_is v a b p q g ∙ rw k.0 in
    subst (λ (o : Joined). Box v o.holding) (sym z) (sum_both v (a ∷ []) (b ∷ []) a b (sum_one v a p) (sum_one v b q) g k.0).whole

-- ---- both orders
both_ways : (s t : Bool) → (s ≡ true → t ≡ true) → (t ≡ true → s ≡ true) → s ≡ t
both_ways true t f g = sym (f refl)
both_ways false true f g = g refl
both_ways false false f g = refl

group-turn : (a b : Holding) → same_group a b ≡ same_group b a
group-turn a b = both_ways (same_group a b) (same_group b a) (turn a b) (turn b a)
  where
    turn : (x y : Holding) → same_group x y ≡ true → same_group y x ≡ true
    turn x y e = head-group y x (head-sym x y (group-head x y e))

two-group : (v : Voice) (a b : Holding) → Box v a → Box v b → same_group a b ≡ true → OneGroup v (a ∷ b ∷ [])
two-group v a b x y e = record { each = each; same = λ p q i j. pair p q (one p i) (one q j) }
  where
    one : (h : Holding) → Among h (a ∷ b ∷ []) → (h ≡ a) ⊎ (h ≡ b)
    one h i = ⊎_elim (λ (q : h ≡ a). inl q) (λ (j : Among h (b ∷ [])). ⊎_elim (λ (q : h ≡ b). inr q) (λ (z : ⊥). absurd z) j) i

    each : (h : Holding) → Among h (a ∷ b ∷ []) → Box v h
    each h i = ⊎_elim (λ (q : h ≡ a). subst (Box v) (sym q) x) (λ (q : h ≡ b). subst (Box v) (sym q) y) (one h i)

    head : (h : Holding) → (h ≡ a) ⊎ (h ≡ b) → SameHead a h
    head h i = ⊎_elim (λ (q : h ≡ a). subst (SameHead a) (sym q) (head-refl a)) (λ (q : h ≡ b). subst (SameHead a) (sym q) (group-head a b e)) i

    pair : (p q : Holding) → (p ≡ a) ⊎ (p ≡ b) → (q ≡ a) ⊎ (q ≡ b) → same_group p q ≡ true
    pair p q i j = head-group p q (head-trans p a q (head-sym a p (head p i)) (head q j))

join-turn : (v : Voice) (a b : Holding) → Shaped v.shape a → Shaped v.shape b → join_of v a b ≡ join_of v b a
unfolding join_of outcome EveryOrderAndGrouping
join-turn v a b x y = go (holds v a) (holds v b) (same_group a b) refl refl refl
  where
    swapped : SameBoxes (a ∷ b ∷ []) (b ∷ a ∷ [])
    swapped = (λ h i. turn a b h i, λ h i. turn b a h i)
      where
        turn : (p q h : Holding) → Among h (p ∷ q ∷ []) → Among h (q ∷ p ∷ [])
        turn p q h i = ⊎_elim (λ (z : h ≡ p). inr (inl z)) (λ (j : Among h (q ∷ [])). ⊎_elim (λ (z : h ≡ q). inl z) (λ (z : ⊥). absurd z) j) i

    go : (s t g : Bool) → holds v a ≡ s → holds v b ≡ t → same_group a b ≡ g → join_of v a b ≡ join_of v b a
    go true true true p q r =
        every_order_and_grouping v (joining (only a) (only b)) (joining (only b) (only a)) (two-group v a b (record { shaped = x; some = p }) (record { shaped = y; some = q }) r) swapped
    go true true false p q r = rw (p, q, r, sym (group-turn a b) ∙ r)
    go true false g p q r = rw (p, q)
    go false true g p q r = rw (p, q)
    go false false g p q r = rw (p, q)

-- ---- the room comes last
room-last : (x : Result Unit Refusal) (out : List ℕ) → then_room x out ≡ (Ok tt) → x ≡ (Ok tt)
unfolding then_room
room-last (Ok tt) out e = refl
room-last (Err r) out e = apart (cc)

room-there : (x : Result Unit Refusal) (out : List ℕ) → is_long out ≡ true → then_room x out ≡ x
unfolding then_room room_in
room-there (Ok tt) out e = rw e
room-there (Err r) out e = refl

-- ---- in lent octets
module _ (table : FrameTable) (w : T (narrow table)) (m : HasRoom (voice_with table)) where
  abbrev v : Voice
  v = voice_with table

  reads_back : (a b out : List ℕ) → join_answer v a b out ≡ (Ok tt) → holding_in (join_octets v a b out) ≡ (join_of v (holding_in a) (holding_in b)).holding
  unfolding join_answer join_octets lay_if HoldingReadsBack
  reads_back a b out e =
      let h = (join_of v (holding_in a) (holding_in b)).holding in
      let x = joined-box v (holding_in a) (holding_in b) (lent_is_shaped.holdings a) (lent_is_shaped.holdings b) (room-last _ out e) in
      ap (λ (y : Result Unit Refusal). holding_in (lay_if y out (holding_laid h))) e ∙ holding_reads_back h x.shaped (box-marks v w m.erasing h x) out

  itself : (o out : List ℕ) → holds v (holding_in o) ≡ true → is_long out ≡ true → (join_answer v o o out ≡ (Ok tt)) × (join_octets v o o out ≡ over out 0 (take 2304 o))
  unfolding join_answer join_octets lay_if WithItself HoldingLaysBack
  itself o out h l =
      let j = with_itself v (holding_in o) (record { shaped = lent_is_shaped.holdings o; some = h }) in
      let a : join_answer v o o out ≡ (Ok tt) = ap (λ (y : Joined). then_room y.answer out) j ∙ room-there (Ok tt) out l in (
        a,
        ap (λ (y : Result Unit Refusal). lay_if y out (holding_laid (join_of v (holding_in o) (holding_in o)).holding)) a
            ∙ ap (λ (y : Joined). over out 0 (holding_laid y.holding)) j ∙ ap (over out 0) (holding_lays_back o (holds-sound v (holding_in o) h).1),
      )

  either_order : (a b out : List ℕ) → (join_answer v a b out ≡ join_answer v b a out) × (join_octets v a b out ≡ join_octets v b a out)
  unfolding join_answer join_octets
  either_order a b out =
      let j = join-turn v (holding_in a) (holding_in b) (lent_is_shaped.holdings a) (lent_is_shaped.holdings b) in
      (ap (λ (y : Joined). then_room y.answer out) j, ap (λ (y : Joined). lay_if (then_room y.answer out) out (holding_laid y.holding)) j)

  -- ---- ways of joining
  joins-as :
      (out : List ℕ) → is_long out ≡ true → (j k : Left) (o p : Joined) → EndsAs j o → EndsAs k p →
      EndsAs (join_into v out j j.answer k k.answer) (join_answers v o o.answer p p.answer)
  unfolding join_answer
  joins-as out l j k o p x y =
      subst (λ (z : Result Unit Refusal). EndsAs (join_into v out j j.answer k k.answer) (join_answers v o z p p.answer)) x.answered
      (subst (λ (z : Result Unit Refusal). EndsAs (join_into v out j j.answer k k.answer) (join_answers v o j.answer p z)) y.answered (go j.answer k.answer refl refl))
    where
      go : (s t : Result Unit Refusal) → j.answer ≡ s → k.answer ≡ t → EndsAs (join_into v out j s k t) (join_answers v o s p t)
      go (Err r) t e f = x
      go (Ok a) (Err r) e f = y
      go (Ok a) (Ok b) e f = record {
        answered = room-there _ out l ∙ ap₂ (λ (a b : Holding). (join_of v a b).answer) (x.read e) (y.read f);
        read = λ d. reads_back j.octets k.octets out d ∙ ap₂ (λ (a b : Holding). (join_of v a b).holding) (x.read e) (y.read f);
      }

  ends_as : (s : LentWay) → LongEnough s → EndsAs (lent_outcome v s) (outcome v (way_of s))
  unfolding lent_outcome outcome
  ends_as (lent o) l = record { answered = refl; read = λ e. refl }
  ends_as (into out s t) l = joins-as out l.0 (lent_outcome v s) (lent_outcome v t) (outcome v (way_of s)) (outcome v (way_of t)) (ends_as s l.1.0) (ends_as t l.1.1)

  every_order : (s t : LentWay) → LongEnough s → LongEnough t → OneGroup v (boxes (way_of s)) → SameBoxes (boxes (way_of s)) (boxes (way_of t)) → SameEnd (lent_outcome v s) (lent_outcome v t)
  unfolding EveryOrderAndGrouping
  every_order s t l k g m =
      let x = ends_as s l in
      let y = ends_as t k in
      let o = every_order_and_grouping v (way_of s) (way_of t) g m in
      let a : (lent_outcome v s).answer ≡ (lent_outcome v t).answer = x.answered ∙ ap (λ (j : Joined). j.answer) o ∙ sym y.answered in
      record {
        answered = a;
        same = λ d.
            let h = (outcome v (way_of s)).holding in
            let e : outcome v (way_of s) ≡ done h = ap (λ (z : Result Unit Refusal). record { answer = z; holding = h }) (sym x.answered ∙ d) in
            let z = (holds-sound v h (done-sum v (way_of s) g h e).whole.some).1 in
            equal_is_equal_octets.holdings (lent_outcome v s).octets (lent_outcome v t).octets (ap (λ (i : Holding). any_set i.held) (x.read d) ∙ z)
            (x.read d ∙ ap (λ (j : Joined). j.holding) o ∙ sym (y.read (sym a ∙ d)));
      }

  joins_lent : JoinsLent v
  joins_lent = record { reads_back = reads_back; with_itself = itself; either_order = either_order; ends_as = ends_as; every_order = every_order }

pub lent_joinings : LentJoinings
unfolding KindsPass
lent_joinings = record {
  of_tables = joins_lent;
  of_holdings = λ o. joins_lent (rows_of (vocoder_in (holding_in o))) (kinds_pass (vocoder_in (holding_in o))).narrows (voices_have_room.of_holdings (holding_in o));
}
