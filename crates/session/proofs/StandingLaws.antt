-- An open session in parts: what its numbers tell of it, and what a decision by numbers means. Assumes nothing.
use Rattle.std.proofs.Common.{Option, Some, None, Result, Ok, Err}
use Prim.Native.Nat.{ℕ, ◌*◌, ◌<◌}
use mathlib.Core.Bool.{Bool, true, false, cond}
use mathlib.Core.Path.{◌≡◌, refl, sym, ap, subst, ◌∙◌}
use mathlib.Core.List.{List, []}
use native.Mathlib.Omega.{arith}
use lib.ListN.{length, get_or, replicate}
use lib.Dec.{T, eqb}
use borrow.Author.Tests.{eqb-true, eqb-false}
use Rattle.octets.specs.Octets.{over}
use Rattle.octets.proofs.Logic.{apart}
use Rattle.octets.proofs.OctetsLaws.{zeros-are}
use Rattle.frame.specs.FrameTable.{Frame, single, erasure}
use Rattle.frame.specs.Shape.{Voice, holding_shape}
use Rattle.frame.proofs.FrameTableLaws.{rows-single}
use Rattle.form.specs.Agreed.{vocoder_of, table_of, voice_for}
use Rattle.answers.specs.declared.Refusal.{Refusal}
use Rattle.answers.specs.declared.Refusal.TheVariants.{AnotherSource}
use Rattle.payload.specs.Payload.{Reading, packet, refused_payload, read_as}
use Rattle.payload.specs.Shown.{contents_of, holds_packet}
use Rattle.payload.proofs.LayingOut.{packet-many}
use Rattle.payload.proofs.Readings.{read_is}
use Rattle.numbers.specs.Place.{decided, with_held, after_poured}
use Rattle.numbers.specs.declared.GroupNumbers.{GroupNumbers}
use Rattle.numbers.specs.declared.Before.{Before}
use Rattle.numbers.specs.declared.Before.TheVariants as before
use Rattle.numbers.specs.declared.Verdict.{Verdict}
use Rattle.numbers.specs.declared.Verdict.TheVariants as verdict
use Rattle.numbers.proofs.PlaceLaws.{HeldEnds, held-ends, PouredEnds, poured-ends, same_numbers}
use Rattle.numbers.proofs.PlaceLaws as numbers
use Rattle.holding.specs.Group.{Spans, nothing, begun, is_nothing, held_at, with_packet}
use Rattle.holding.proofs.GroupLaws.{some-frames, nothing-has}
use Rattle.bundle.specs.LaidOut.{laid}
use Rattle.session.specs.Session.{Arrival, Offered, is_open, accept, with_group, poured_before, group_before, begins, belongs, placed, received, offered}
use Rattle.session.specs.Standing.{whole, Stands, Fits, frames_of, offered_in, decided_as, before_of, placed_as, group_numbers, read_decision, decision_of, begun_with, holding_also}
use Rattle.session.specs.declared.Standing.{Standing}
use Rattle.session.specs.declared.Session.{Session}
use Rattle.session.specs.declared.Decision.{Decision}
use Rattle.session.specs.declared.Decision.TheVariants as decision
use Rattle.session.proofs.Ends.{open-vacant}
use Rattle.session.proofs.SessionLaws.{one-held, none-held, it-begins, it-belongs, is-refused, put_in, other-source, not-read, was_read, offer-open}

-- ---- whether a group is held: B tells
module _ (t : Standing) (ms rs : List ℕ) (h : Stands t ms rs) where
  pub is_held : (t.numbers.b ≡ 0 → ⊥) → is_nothing holding_shape (whole t ms rs).group ≡ false
  is_held n = some-frames holding_shape (whole t ms rs).group n

  pub is-vacant : t.numbers.b ≡ 0 → is_nothing holding_shape (whole t ms rs).group ≡ true
  is-vacant z = open-vacant (voice_for t.form) (whole t ms rs) h.opened z

  pub stands-held : (t.numbers.b ≡ 0 → ⊥) → before.Held t.numbers ≡ group_before holding_shape (whole t ms rs)
  stands-held n = one-held holding_shape (whole t ms rs) t.numbers (is_held n) refl

  pub stands-vacant : t.numbers.b ≡ 0 → poured_before t.last ≡ group_before holding_shape (whole t ms rs)
  stands-vacant z = none-held holding_shape (whole t ms rs) (is-vacant z)

  -- ---- what numbers decide: a packet begins a group only where none is held, and belongs to one only with as many frames
  module _ (g : GroupNumbers) where
    by-numbers : (w : Result Verdict Refusal) → decided (group_before holding_shape (whole t ms rs)) g ≡ w → (x : Before) → x ≡ group_before holding_shape (whole t ms rs) → decided x g ≡ w
    by-numbers w e x q = ap (λ (y : Before). decided y g) q ∙ e

    pub begins-vacant : (lost : ℕ) → decided (group_before holding_shape (whole t ms rs)) g ≡ Ok (verdict.Begins lost) → t.numbers.b ≡ 0
    unfolding decided
    begins-vacant lost e = go (eqb t.numbers.b 0) refl
      where
        never : (w : Result Verdict Refusal) → HeldEnds t.numbers g w → w ≡ Ok (verdict.Begins lost) → t.numbers.b ≡ 0
        never w (numbers.refused r q) f = apart (cc)
        never w (numbers.member l b q) f = apart (cc)

        go : (x : Bool) → eqb t.numbers.b 0 ≡ x → t.numbers.b ≡ 0
        go true q = eqb-true _ _ q
        go false q =
            never (with_held t.numbers g) (held-ends t.numbers g) (by-numbers (Ok (verdict.Begins lost)) e (before.Held t.numbers) (stands-held (eqb-false _ _ q)))

    pub belongs-as : decided (group_before holding_shape (whole t ms rs)) g ≡ (Ok verdict.Belongs) → (g.l ≡ t.numbers.l) × (g.b ≡ t.numbers.b)
    unfolding decided poured_before
    belongs-as e = go (eqb t.numbers.b 0) refl
      where
        after : (k : GroupNumbers) (w : Result Verdict Refusal) → PouredEnds k g w → w ≡ (Ok verdict.Belongs) → (g.l ≡ t.numbers.l) × (g.b ≡ t.numbers.b)
        after k w (numbers.refused r n q) f = apart (cc)
        after k w (numbers.follows lost q m i) f = apart (cc)

        poured : (k : Option GroupNumbers) → decided (poured_before k) g ≡ (Ok verdict.Belongs) → (g.l ≡ t.numbers.l) × (g.b ≡ t.numbers.b)
        poured None f = apart (cc)
        poured (Some k) f = after k (after_poured k g) (poured-ends k g) f

        among : (w : Result Verdict Refusal) → HeldEnds t.numbers g w → w ≡ (Ok verdict.Belongs) → (g.l ≡ t.numbers.l) × (g.b ≡ t.numbers.b)
        among w (numbers.refused r q) f = apart (cc)
        among w (numbers.member l b q) f = (l, b)

        go : (x : Bool) → eqb t.numbers.b 0 ≡ x → (g.l ≡ t.numbers.l) × (g.b ≡ t.numbers.b)
        go true q = poured t.last (by-numbers (Ok verdict.Belongs) e (poured_before t.last) (stands-vacant (eqb-true _ _ q)))
        go false q =
            among (with_held t.numbers g) (held-ends t.numbers g) (by-numbers (Ok verdict.Belongs) e (before.Held t.numbers) (stands-held (eqb-false _ _ q)))

-- ---- the group before, by its numbers
before-is : (t : Standing) (ms rs : List ℕ) → Stands t ms rs → before_of t ≡ group_before holding_shape (whole t ms rs)
unfolding before_of
before-is t ms rs h = go (eqb t.numbers.b 0) refl
  where
    go : (x : Bool) → eqb t.numbers.b 0 ≡ x → cond x (poured_before t.last) (before.Held t.numbers) ≡ group_before holding_shape (whole t ms rs)
    go false q = stands-held t ms rs h (eqb-false _ _ q)
    go true q = stands-vacant t ms rs h (eqb-true _ _ q)

-- ---- what a decision by numbers is worth
-- a decision by the numbers of a packet: whatever frames it has, and whatever is held, it is what "place" says
record Places (t : Standing) (g : GroupNumbers) (n : ℕ) (r : Result Decision Refusal) : Type 0 where
  fits : (ms rs : List ℕ) → Stands t ms rs → (fs : List Frame) → g.b ≡ length fs → Fits t fs r
  means : (ms rs : List ℕ) → Stands t ms rs → (fs : List Frame)
      → decided_as (whole t ms rs) fs r ≡ placed holding_shape (whole t ms rs) (record { numbers = g; n = n; packet = laid holding_shape fs })

abbrev arrived : GroupNumbers → ℕ → List Frame → Arrival
arrived g n fs = record { numbers = g; n = n; packet = laid holding_shape fs }

module _
    (t : Standing) (g : GroupNumbers) (n : ℕ) (x : Before) (w : Result Verdict Refusal)
    (e : (ms rs : List ℕ) → Stands t ms rs → x ≡ group_before holding_shape (whole t ms rs)) (f : w ≡ decided x g) (small : n < 8)
  where
    told : (ms rs : List ℕ) → Stands t ms rs → (y : Result Verdict Refusal) → w ≡ y → decided (group_before holding_shape (whole t ms rs)) g ≡ y
    told ms rs h y q = sym (f ∙ ap (λ (z : Before). decided z g) (e ms rs h)) ∙ q

    place-begins : (lost : ℕ) → w ≡ Ok (verdict.Begins lost) → Places t g n (Ok (decision.Begins g n lost))
    unfolding decided_as
    place-begins lost q =
        record {
          fits = λ ms rs h fs k. (small, k, begins-vacant t ms rs h g lost (told ms rs h (Ok (verdict.Begins lost)) q));
          means = λ ms rs h fs. it-begins holding_shape (whole t ms rs) (arrived g n fs) x w (e ms rs h) f lost q;
        }

    place-refused : (r : Refusal) → w ≡ Err r → Places t g n (Err r)
    unfolding decided_as
    place-refused r q =
        record {
          fits = λ ms rs h fs k. tt;
          means = λ ms rs h fs. is-refused holding_shape (whole t ms rs) (arrived g n fs) x w (e ms rs h) f r q;
        }

    module _ (q : w ≡ (Ok verdict.Belongs)) where
      many : (ms rs : List ℕ) → Stands t ms rs → (fs : List Frame) → g.b ≡ length fs → t.numbers.b ≡ length fs
      many ms rs h fs k = sym (belongs-as t ms rs h g (told ms rs h (Ok verdict.Belongs) q)).1 ∙ k

      place-put : held_at (whole t [] []).group n ≡ false → Places t g n (Ok (decision.PutIn n))
      unfolding decided_as held_at
      place-put held =
          record {
            fits = λ ms rs h fs k. (small, many ms rs h fs k);
            means = λ ms rs h fs. put_in holding_shape (whole t ms rs) (arrived g n fs) held ∙ it-belongs holding_shape (whole t ms rs) (arrived g n fs) x w (e ms rs h) f q;
          }

      place-again : held_at (whole t [] []).group n ≡ true → Places t g n (Ok (decision.Again n))
      unfolding decided_as held_at belongs
      place-again held =
          record {
            fits = λ ms rs h fs k. (small, many ms rs h fs k);
            means = λ ms rs h fs. again-so ms rs fs ∙ it-belongs holding_shape (whole t ms rs) (arrived g n fs) x w (e ms rs h) f q;
          }
        where
          again-so : (ms rs : List ℕ) (fs : List Frame) → decided_as (whole t ms rs) fs (Ok (decision.Again n)) ≡ belongs holding_shape (whole t ms rs) (arrived g n fs)
          again-so ms rs fs = simp held

places-as : (t : Standing) (g : GroupNumbers) (n : ℕ) → n < 8 → Places t g n (placed_as t g n (decided (before_of t) g))
unfolding placed_as held_at
places-as t g n k = go (decided (before_of t) g) refl
  where
    go : (w : Result Verdict Refusal) → decided (before_of t) g ≡ w → Places t g n (placed_as t g n w)
    go (Ok (verdict.Begins lost)) q = place-begins t g n (before_of t) _ (before-is t) refl k lost q
    go (Err r) q = place-refused t g n (before_of t) _ (before-is t) refl k r q
    go (Ok verdict.Belongs) q = held (get_or t.held n false) refl
      where
        held : (b : Bool) → get_or t.held n false ≡ b → Places t g n (cond b (Ok (decision.Again n)) (Ok (decision.PutIn n)))
        held true h = place-again t g n (before_of t) _ (before-is t) refl k q h
        held false h = place-put t g n (before_of t) _ (before-is t) refl k q h

-- ---- what the decision on a packet is worth
-- what a decision on a packet is worth: whatever is held, it is what an open session makes of it
pub record Decides (t : Standing) (source sequence timestamp : ℕ) (p : List ℕ) (r : Result Decision Refusal) : Type 0 where
  pub fits : (ms rs : List ℕ) → Stands t ms rs → Fits t (frames_of t.form p) r
  pub means : (ms rs : List ℕ) → Stands t ms rs
      → decided_as (whole t ms rs) (frames_of t.form p) r ≡ received (voice_for t.form) (whole t ms rs) source sequence timestamp p

decides-of : (t : Standing) (source sequence timestamp : ℕ) (p : List ℕ) → T (single (table_of t.form) (table_of t.form))
    → Decides t source sequence timestamp p (decision_of t source sequence timestamp p)
unfolding decision_of read_decision decided_as contents_of
decides-of t source sequence timestamp p one = by-source (eqb source t.source) refl
  where
    v : Voice
    v = voice_for t.form

    by-packet : source ≡ t.source → (w : Reading) → read_as (table_of t.form) t.form p ≡ w → Decides t source sequence timestamp p (read_decision t sequence timestamp w)
    by-packet q (refused_payload r) e =
        record {
          fits = λ ms rs h. tt;
          means = λ ms rs h. not-read v (whole t ms rs) source sequence timestamp p q r (sym (ap contents_of e));
        }
    by-packet q (packet l n d fs) e =
        let g = group_numbers sequence timestamp n l (length fs) in
        let i = read_is (table_of t.form) one t.form p l n d fs e in
        let told : holds_packet l n (length fs) d ≡ contents_of (read_as (table_of t.form) t.form p) = sym (ap contents_of e) in
        let x = places-as t g n (omega (arith, i.index_in, i.length_small)) in
        let us = frames_of t.form p in
        record {
          fits = λ ms rs h. x.fits ms rs h us (packet-many (read_as (table_of t.form) t.form p) _ _ _ _ told);
          means = λ ms rs h.
              x.means ms rs h us
              ∙ was_read v (whole t ms rs) source sequence timestamp p q (arrived g n us) (record { d = d; told = told; base = refl; time = refl; frames = refl });
        }

    by-source : (b : Bool) → eqb source t.source ≡ b
        → Decides t source sequence timestamp p (cond b (read_decision t sequence timestamp (read_as (table_of t.form) t.form p)) (Err AnotherSource))
    by-source true q = by-packet (eqb-true _ _ q) (read_as (table_of t.form) t.form p) refl
    by-source false q =
        record {
          fits = λ ms rs h. tt;
          means = λ ms rs h. other-source v (whole t ms rs) source sequence timestamp p (eqb-false _ _ q);
        }

pub decides-as : (t : Standing) (source sequence timestamp : ℕ) (p : List ℕ) (r : Result Decision Refusal) → r ≡ decision_of t source sequence timestamp p
    → Decides t source sequence timestamp p r
decides-as t source sequence timestamp p r e =
    subst (Decides t source sequence timestamp p) (sym e) (decides-of t source sequence timestamp p (rows-single (vocoder_of t.form)))

-- a packet that is put in: as it was read, not held, and of the held group's L and B
pub record PutsIn (t : Standing) (p : List ℕ) (n : ℕ) : Type 0 where
  pub l : ℕ
  pub d : ℕ
  pub fs : List Frame
  pub read : read_as (table_of t.form) t.form p ≡ packet l n d fs
  pub unheld : get_or t.held n false ≡ false
  pub length_is : l ≡ t.numbers.l
  pub many : length fs ≡ t.numbers.b

pub puts-in : (t : Standing) (ms rs : List ℕ) → Stands t ms rs → (source sequence timestamp : ℕ) (p : List ℕ) (n : ℕ)
    → Ok (decision.PutIn n) ≡ decision_of t source sequence timestamp p → PutsIn t p n
unfolding decision_of read_decision placed_as
puts-in t ms rs h source sequence timestamp p n = by-source (eqb source t.source)
  where
    by-held : (l m d : ℕ) (fs : List Frame) → read_as (table_of t.form) t.form p ≡ packet l m d fs
        → decided (before_of t) (group_numbers sequence timestamp m l (length fs)) ≡ (Ok verdict.Belongs)
        → (b : Bool) → get_or t.held m false ≡ b → ◌≡◌ {A = Result Decision Refusal} (Ok (decision.PutIn n)) (cond b (Ok (decision.Again m)) (Ok (decision.PutIn m))) → PutsIn t p n
    by-held l m d fs r q true k e = apart (cc)
    by-held l m d fs r q false k e =
        let z : m ≡ n = cc in
        let g = group_numbers sequence timestamp m l (length fs) in
        let same = belongs-as t ms rs h g (ap (λ (x : Before). decided x g) (sym (before-is t ms rs h)) ∙ q) in
        record {
          l = l;
          d = d;
          fs = fs;
          read = r ∙ ap (λ (i : ℕ). packet l i d fs) z;
          unheld = ap (λ (i : ℕ). get_or t.held i false) (sym z) ∙ k;
          length_is = same.0;
          many = same.1;
        }

    by_place : (l m d : ℕ) (fs : List Frame) → read_as (table_of t.form) t.form p ≡ packet l m d fs
        → (w : Result Verdict Refusal) → decided (before_of t) (group_numbers sequence timestamp m l (length fs)) ≡ w
        → Ok (decision.PutIn n) ≡ placed_as t (group_numbers sequence timestamp m l (length fs)) m w → PutsIn t p n
    by_place l m d fs r (Ok (verdict.Begins lost)) q e = apart (cc)
    by_place l m d fs r (Err x) q e = apart (cc)
    by_place l m d fs r (Ok verdict.Belongs) q e = by-held l m d fs r q (get_or t.held m false) refl e

    by-packet : (w : Reading) → read_as (table_of t.form) t.form p ≡ w → Ok (decision.PutIn n) ≡ read_decision t sequence timestamp w → PutsIn t p n
    by-packet (refused_payload r) q e = apart (cc)
    by-packet (packet l m d fs) q e = by_place l m d fs q (decided (before_of t) (group_numbers sequence timestamp m l (length fs))) refl e

    by-source : (b : Bool)
        → Ok (decision.PutIn n) ≡ cond b (read_decision t sequence timestamp (read_as (table_of t.form) t.form p)) (Err AnotherSource) → PutsIn t p n
    by-source true e = by-packet (read_as (table_of t.form) t.form p) refl e
    by-source false e = apart (cc)

-- ---- what becomes of a packet, in place
module _ (t : Standing) (ms rs : List ℕ) (h : Stands t ms rs) where
  -- where no group is held, every place reads as an erasure, and all room is zero
  vacant-marks : t.numbers.b ≡ 0 → ms ≡ replicate 80 erasure
  unfolding nothing begun
  vacant-marks z = (nothing-has holding_shape (whole t ms rs).group (is-vacant t ms rs h z)).0

  vacant-room : t.numbers.b ≡ 0 → rs ≡ replicate 1760 0
  vacant-room z = zeros-are rs (nothing-has holding_shape (whole t ms rs).group (is-vacant t ms rs h z)).1 ∙ ap (λ (i : ℕ). replicate i 0) h.spans.long_room

  module _ (fs : List Frame) (n : ℕ) (ms' rs' : List ℕ) (m : ms' ≡ over ms (10 * n) (laid holding_shape fs).marks) (r : rs' ≡ over rs (220 * n) (laid holding_shape fs).room) where
    pub took-first : (g : GroupNumbers) (lost : ℕ) (u : Standing) → u ≡ begun_with t g n → t.numbers.b ≡ 0
        → offered_in (Ok lost) u ms' rs' ≡ decided_as (whole t ms rs) fs (Ok (decision.Begins g n lost))
    unfolding decided_as begins accept with_group with_packet begun begun_with
    took-first g lost u e z = rw (e, m, r, vacant-marks z, vacant-room z)

    pub took_more : (u : Standing) → u ≡ holding_also t n
        → offered_in (Ok 0) u ms' rs' ≡ decided_as (whole t ms rs) fs (Ok (decision.PutIn n))
    unfolding decided_as accept with_group with_packet holding_also
    took_more u e = rw (e, m, r)

-- ---- a session taken apart: what becomes of a packet there is what the session makes of it
module _ (s : Session) (t : Standing) (ms rs : List ℕ) (e : whole t ms rs ≡ s) (i : is_open (voice_for s.form) s ≡ true) (x : Spans holding_shape t.held ms rs) where
  pub stands_of : Stands t ms rs
  stands_of = record { opened = subst (λ (y : Session). is_open (voice_for y.form) y ≡ true) (sym e) i; spans = x }

  module _ (source sequence timestamp : ℕ) (p : List ℕ) (d : Result Decision Refusal) (k : d ≡ decision_of t source sequence timestamp p) where
    pub may-take : Stands t ms rs × Fits t (frames_of t.form p) d
    may-take = (stands_of, (decides-as t source sequence timestamp p d k).fits ms rs stands_of)

    pub offered-of : (o : Offered) → o ≡ decided_as (whole t ms rs) (frames_of t.form p) d → o ≡ offered (voice_for s.form) s source sequence timestamp p
    offered-of o q =
        q ∙ (decides-as t source sequence timestamp p d k).means ms rs stands_of
        ∙ ap (λ (y : Session). received (voice_for y.form) y source sequence timestamp p) e ∙ offer-open (voice_for s.form) s source sequence timestamp p i
