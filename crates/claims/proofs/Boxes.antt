-- Boxes that each were offered a part of a group join to what one box would hold. Assumes nothing.
use Prim.Native.Nat.{ℕ, ◌<◌}
use mathlib.Core.Path.{◌≡◌, refl, sym, ap, subst, ◌∙◌}
use mathlib.Core.List.{List, [], ◌∷◌}
use mathlib.Core.Bool.{Bool, true, false, cond, ◌||◌}
use mathlib.Core.Logic.{⊎_elim, inl, inr}
use Rattle.session.specs.Session.{Copied}
use Rattle.octets.proofs.Logic.{apart}
use Rattle.frame.specs.Shape.{Voice, packets_of}
use Rattle.holding.specs.declared.Holding.{Holding}
use Rattle.joining.proofs.Heads.{SameHead, head-group, head-trans, head-sym}
use Rattle.knowledge.specs.Knowledge.{Known, unheard, known_of, Among}
use Rattle.claims.specs.Joinings.{Way, boxes, done, outcome, OneGroup, Differ, ElseTheyJoin, NothingLost, NothingInvented, EqualKnowledge}
use Rattle.claims.specs.Offering.{SentGroup, among, sent_packet, knowledge, Part}
use Rattle.claims.specs.Boxes.{offered_to, HeardBy, CopiedOut, BoxesJoin}
use Rattle.claims.proofs.Joinings.{some-box, done-sum, else_they_join, nothing_lost, nothing_invented, equal_knowledge}
use Rattle.claims.proofs.Offering.{known_as, copied_out}

module _ (v : Voice) (g : SentGroup v) where
  -- a part that holds a packet knows it as it was sent
  part_held : (h : Holding) (ns : List ℕ) (n : ℕ) → known_of v h n ≡ knowledge g ns n → (known_of v h n).held ≡ true → known_of v h n ≡ sent_packet g n
  part_held h ns n k e = go (among n ns) k (sym (ap (λ (w : Known). w.held) k) ∙ e)
    where
      go : (t : Bool) → known_of v h n ≡ cond t (sent_packet g n) unheard → (cond t (sent_packet g n) unheard).held ≡ true → known_of v h n ≡ sent_packet g n
      go true q i = q
      go false q i = apart (cc)

  same_head : (a b : Holding) (ns ms : List ℕ) → Part a g ns → Part b g ms → SameHead a b
  same_head a b ns ms x y =
      record {
        source = x.of_group.of_source ∙ sym y.of_group.of_source;
        sequence = x.of_group.base ∙ sym y.of_group.base;
        timestamp = x.of_group.time ∙ sym y.of_group.time;
        l = x.of_group.same_length ∙ sym y.of_group.same_length;
        b = x.of_group.same_bundle ∙ sym y.of_group.same_bundle;
      }

-- one of the boxes was offered packet n
record OfferedTo (n : ℕ) (parts : Holding → List ℕ) (hs : List Holding) : Type 0 where
  box : Holding
  is_in : Among box hs
  has : among n (parts box) ≡ true

offered-some : (n : ℕ) (parts : Holding → List ℕ) (hs : List Holding) → offered_to n parts hs ≡ true → OfferedTo n parts hs
offered-some n parts [] e = apart (cc)
offered-some n parts (h ∷ hs) e = go (among n (parts h)) refl e (λ q. offered-some n parts hs q)
  where
    go : (t : Bool) → among n (parts h) ≡ t → t || offered_to n parts hs ≡ true → (offered_to n parts hs ≡ true → OfferedTo n parts hs) → OfferedTo n parts (h ∷ hs)
    go true p q i = record { box = h; is_in = inl refl; has = p }
    go false p q i = let o = i q in record { box = o.box; is_in = inr o.is_in; has = o.has }

none-offered : (n : ℕ) (parts : Holding → List ℕ) (hs : List Holding) (h : Holding) → Among h hs → offered_to n parts hs ≡ false → among n (parts h) ≡ false
none-offered n parts [] h i e = absurd i
none-offered n parts (x ∷ hs) h i e =
    let f = neither (among n (parts x)) (offered_to n parts hs) e in
    ⊎_elim (λ (q : h ≡ x). ap (λ (y : Holding). among n (parts y)) q ∙ f.0) (λ (q : Among h hs). none-offered n parts hs h q f.1) i
  where
    neither : (s t : Bool) → s || t ≡ false → (s ≡ false) × (t ≡ false)
    neither true t q = apart (cc)
    neither false t q = (refl, q)

module _ (v : Voice) (g : SentGroup v) (w : Way) (parts : Holding → List ℕ) (p : (h : Holding) → Among h (boxes w) → Part h g (parts h)) where
  one_group : OneGroup v (boxes w)
  one_group = record {
    each = λ h i. (p h i).box;
    same = λ a b i j. head-group a b (same_head v g a b (parts a) (parts b) (p a i) (p b j));
  }

  none_differ : (a b : Holding) → Among a (boxes w) → Among b (boxes w) → Differ v a b → ⊥
  none_differ a b i j d =
      d.unlike (as-sent a i d.first ∙ sym (as-sent b j d.second))
    where
      as-sent : (h : Holding) → Among h (boxes w) → (known_of v h d.packet).held ≡ true → known_of v h d.packet ≡ sent_packet g d.packet
      as-sent h k e = part_held v g h (parts h) d.packet ((p h k).knows d.packet d.below) e

  -- what is known of all: the packets that some box was offered
  knows-all : (all : Holding) → outcome v w ≡ done all → (n : ℕ) → n < packets_of v.shape → known_of v all n ≡ cond (offered_to n parts (boxes w)) (sent_packet g n) unheard
  unfolding NothingLost NothingInvented
  knows-all all q n k = go (offered_to n parts (boxes w)) refl
    where
      go : (t : Bool) → offered_to n parts (boxes w) ≡ t → known_of v all n ≡ cond t (sent_packet g n) unheard
      go true e =
          let o = offered-some n parts (boxes w) e in
          let s : known_of v o.box n ≡ sent_packet g n = (p o.box o.is_in).knows n k ∙ known_as g n o.has in
          nothing_lost v w one_group all q o.box o.is_in n k (ap (λ (i : Known). i.held) s) ∙ s
      go false e =
          let o = nothing_invented v w one_group all q n k in
          sym o.knows ∙ (p o.box o.is_in).knows n k ∙ known_as g n (none-offered n parts (boxes w) o.box o.is_in e)

-- the holding copied out of a session that holds exactly a part is that part
heard-part : (v : Voice) (g : SentGroup v) (h : Holding) (ns : List ℕ) → HeardBy v g h ns → Part h g ns
unfolding CopiedOut
heard-part v g h ns x =
    let e : x.session.group ≡ h = ap (λ (c : Copied). c.holding) (sym (copied_out v x.form x.session x.sent ns x.exactly) ∙ x.copied_out) in
    subst (λ (k : SentGroup v). Part h k ns) x.same_group (subst (λ (k : Holding). Part k x.sent.group ns) e x.exactly.part)

pub boxes_join : BoxesJoin
unfolding BoxesJoin ElseTheyJoin EqualKnowledge
boxes_join v m g w parts heard one all x c =
    let p : (h : Holding) → Among h (boxes w) → Part h g (parts h) = λ h i. heard-part v g h (parts h) (heard h i) in
    let j = else_they_join v m w (one_group v g w parts p) (none_differ v g w parts p) in
    let h = j.all in
    let s = done-sum v w (one_group v g w parts p) h j.is in
    let b = some-box w in
    let y = heard-part v g one all x in
    let hd : SameHead h one =
    head-trans h b.box one (head-sym b.box h (s.one_group b.box b.is_in)) (same_head v g b.box one (parts b.box) all (p b.box b.is_in) y) in
    j.is
    ∙ ap done
    (equal_knowledge v m h one s.whole y.box (head-group h one hd)
    (λ n k. knows-all v g w parts p h j.is n k ∙ known_as g n (sym (c n k)) ∙ sym (y.knows n k)))
