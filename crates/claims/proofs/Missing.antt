-- One packet missing: its frames are erasures, B of them, and no two are neighbours. Assumes nothing.
use Prim.Native.Nat.{ℕ, zero, suc, ◌+◌, ◌*◌, ◌/◌, ◌%◌, ◌≤◌, ◌<◌}
use mathlib.Core.Path.{◌≡◌, refl, sym, ap, subst, ◌∙◌}
use mathlib.Core.List.{List, [], ◌∷◌, ◌++◌}
use mathlib.Core.Bool.{Bool, true, false, cond}
use mathlib.Core.Logic.{⊎_elim}
use native.Mathlib.Omega.{arith}
use native.Mathlib.Nat.{mod-lt, div-lt_iff_lt-mul, mod-eq_of_lt, mod-add-mod, mod_self, div-add-mod, mul_comm, eq-or-lt_of_le}
use lib.Dec.{eqb, ltb}
use borrow.Author.Tests.{lt-ltb, le-ltb, eqb-true, eqb-false, ltb-true, ltb-false}
use Rattle.bundle.specs.Bundles.{frame_of}
use Rattle.holding.specs.Group.{bundle_of, bundle_at}
use Rattle.frame.specs.FrameTable.{Frame}
use Rattle.frame.specs.Shape.{Voice}
use Rattle.frame.specs.Places.{frame_at, up_to}
use Rattle.form.specs.declared.Form.{Form}
use Rattle.packet.specs.Packet.{place_of}
use Rattle.packet.proofs.Numbering.{place_in}
use Rattle.pouring.specs.Pouring.{row, rows, in_time}
use Rattle.pouring.proofs.PouringLaws.{rows_at}
use Rattle.session.specs.declared.Session.{Session}
use Rattle.claims.specs.Joinings.{HasRoom}
use Rattle.claims.specs.Offering.{Sent, among, HoldsExactly, PouredPlaces}
use Rattle.claims.specs.Missing.{is_erasure, erasures, OneMissing, NoErasure, Spread, OneMissingPacket}
use Rattle.claims.proofs.Offering.{places_of}

-- ---- counting
erasures-append : (fs gs : List Frame) → erasures (fs ++ gs) ≡ erasures fs + erasures gs
erasures-append [] gs = let z : 0 + erasures gs ≡ erasures gs = omega arith in sym z
erasures-append (f ∷ fs) gs = go (is_erasure f) (erasures-append fs gs)
  where
    go : (t : Bool) → erasures (fs ++ gs) ≡ erasures fs + erasures gs → cond t (suc (erasures (fs ++ gs))) (erasures (fs ++ gs)) ≡ cond t (suc (erasures fs)) (erasures fs) + erasures gs
    go true e = omega arith
    go false e = e

-- one of a run is an erasure, the x-th
run-erasures : (f : ℕ → Frame) (x m : ℕ) → ((n : ℕ) → n < m → is_erasure (f n) ≡ eqb n x) → erasures (up_to f m) ≡ cond (ltb x m) 1 0
unfolding up_to
run-erasures f x zero h = let z : ltb x 0 ≡ false = le-ltb x 0 (omega arith) in rw z
run-erasures f x (suc m) h =
    erasures-append (up_to f m) (f m ∷ []) ∙ ap (λ (k : ℕ). k + erasures (f m ∷ [])) (run-erasures f x m (λ n q. h n (omega arith))) ∙ last (h m (omega arith))
  where
    last : is_erasure (f m) ≡ eqb m x → cond (ltb x m) 1 0 + cond (is_erasure (f m)) 1 0 ≡ cond (ltb x (suc m)) 1 0
    last e = go (ltb x m) refl (eqb m x) refl
      where
        over : m ≤ x → (x ≡ m → ⊥) → suc m ≤ x
        over a b = ⊎_elim (λ (r : m ≡ x). absurd (b (sym r))) (λ (r : m < x). r) (eq-or-lt_of_le a)

        go : (t : Bool) → ltb x m ≡ t → (u : Bool) → eqb m x ≡ u → cond (ltb x m) 1 0 + cond (is_erasure (f m)) 1 0 ≡ cond (ltb x (suc m)) 1 0
        go true p true q = absurd (omega (arith, ltb-true x m p, eqb-true m x q))
        go true p false q = let z : ltb x (suc m) ≡ true = lt-ltb x (suc m) (omega (arith, ltb-true x m p)) in rw (p, e, q, z)
        go false p true q = let z : ltb x (suc m) ≡ true = lt-ltb x (suc m) (omega (arith, eqb-true m x q)) in rw (p, e, q, z)
        go false p false q =
            let i : x ≡ m → ⊥ = λ r. eqb-false m x q (sym r) in
            let z : ltb x (suc m) ≡ false = le-ltb x (suc m) (over (ltb-false x m p) i) in
            rw (p, e, q, z)

row-erasures : (v : Voice) (ms rs : List ℕ) (x m b : ℕ) → x < m → ((n k : ℕ) → n < m → k < b → is_erasure (frame_of v (bundle_of v.shape ms rs n) k) ≡ eqb n x) → erasures (rows v ms rs m b) ≡ b
unfolding rows row
row-erasures v ms rs x m zero h e = refl
row-erasures v ms rs x m (suc b) h e =
    let i = row-erasures v ms rs x m b h (λ n k p q. e n k p (omega arith)) in
    let f : ℕ → Frame = λ n. frame_of v (bundle_of v.shape ms rs n) b in
    let j : erasures (up_to f m) ≡ 1 = run-erasures f x m (λ n p. e n b p (omega arith)) ∙ ap (λ (t : Bool). cond t 1 0) (lt-ltb x m h) in
    omega (arith, erasures-append (rows v ms rs m b) (row v ms rs b m))

-- ---- places
-- each place is that of a frame of a packet
pub record At (l b t : ℕ) : Type 0 where
  pub n : ℕ
  pub k : ℕ
  pub in_group : n ≤ l
  pub in_bundle : k < b
  pub there : place_of l n k ≡ t
  pub rest : t % (l + 1) ≡ n

pub each-place : (l b t : ℕ) → t < (l + 1) * b → At l b t
each-place l b t i =
    let w = l + 1 in
    let less : t % w < w = mod-lt t {m = w} (omega arith) in
    record {
      n = t % w;
      k = t / w;
      in_group = omega arith;
      in_bundle = (div-lt_iff_lt-mul {k = w} {x = t} {y = b} (omega arith)).1 (omega (arith, mul_comm b w));
      there = ap (λ (i : ℕ). i + t % w) (mul_comm (t / w) w) ∙ div-add-mod t w;
      rest = refl;
    }

-- two numbers that follow each other do not leave the same rest
rests-differ : (t m x : ℕ) → 2 ≤ m → t % m ≡ x → (t + 1) % m ≡ x → ⊥
rests-differ t m x h a b =
    let c : (x + 1) % m ≡ x = ap (λ (i : ℕ). (i + 1) % m) (sym a) ∙ mod-add-mod t m 1 ∙ b in
    let d : x < m = subst (λ (i : ℕ). i < m) a (mod-lt t {m = m} (omega arith)) in
    go c d (ltb (x + 1) m) refl
  where
    go : (x + 1) % m ≡ x → x < m → (u : Bool) → ltb (x + 1) m ≡ u → ⊥
    go c d true e = let z : (x + 1) % m ≡ x + 1 = mod-eq_of_lt (ltb-true (x + 1) m e) in absurd (omega arith)
    go c d false e =
        let y : x + 1 ≡ m = omega (arith, ltb-false (x + 1) m e) in
        let z : (x + 1) % m ≡ 0 = rw y (mod_self m) in
        absurd (omega arith)

-- ---- one packet missing
module _ (v : Voice) (m : HasRoom v) (form : Form) (g : Sent v form) (s : Session) (ns : List ℕ) (h : HoldsExactly s g ns)
    (z : NoErasure g.group.frames) (x : ℕ) (o : OneMissing g.group.l ns x) where
  places : PouredPlaces (in_time v s.group) g.group.frames g.group.l g.group.b ns
  places = places_of v m form s g ns h

  at_place : (n k : ℕ) → n ≤ g.group.l → k < g.group.b → is_erasure (frame_at (in_time v s.group) (place_of g.group.l n k)) ≡ eqb n x
  unfolding NoErasure
  at_place n k i j = go (eqb n x) refl
    where
      go : (t : Bool) → eqb n x ≡ t → is_erasure (frame_at (in_time v s.group) (place_of g.group.l n k)) ≡ t
      go true e =
          let q : among n ns ≡ false = ap (λ (y : ℕ). among y ns) (eqb-true n x e) ∙ o.missing in
          ap is_erasure (places.erased n k i j q)
      go false e =
          ap is_erasure (places.original n k i j (o.others n i (eqb-false n x e)))
          ∙ z (place_of g.group.l n k) (omega (arith, g.group.many, place_in g.group.l n g.group.b k i j))

  in_time_lem : (n k : ℕ) → n < s.group.numbers.l + 1 → k < s.group.numbers.b → is_erasure (frame_of v (bundle_at v.shape s.group n) k) ≡ eqb n x
  in_time_lem n k i j =
      ap is_erasure (sym (rows_at v s.group.marks s.group.room (s.group.numbers.l + 1) s.group.numbers.b n k i j))
      ∙ ap (λ (l : ℕ). is_erasure (frame_at (in_time v s.group) (place_of l n k))) h.part.of_group.same_length
      ∙ at_place n k (omega (arith, h.part.of_group.same_length)) (omega (arith, h.part.of_group.same_bundle))

  -- the place t is an erasure only if its packet is the missing one
  of-packet : (t : ℕ) → t < (g.group.l + 1) * g.group.b → is_erasure (frame_at (in_time v s.group) t) ≡ true → t % (g.group.l + 1) ≡ x
  of-packet t i e =
      let p = each-place g.group.l g.group.b t i in
      p.rest ∙ eqb-true p.n x (sym (at_place p.n p.k p.in_group p.in_bundle) ∙ ap (λ (i : ℕ). is_erasure (frame_at (in_time v s.group) i)) p.there ∙ e)

  spread : Spread (in_time v s.group) g.group.b
  spread =
      record {
        exactly_b = row-erasures v s.group.marks s.group.room x (s.group.numbers.l + 1) s.group.numbers.b
            (omega (arith, h.part.of_group.same_length, o.in_group)) in_time_lem
            ∙ h.part.of_group.same_bundle;
        no_neighbours = λ t i a b. rests-differ t (g.group.l + 1) x (omega (arith, o.two_or_more))
            (of-packet t (omega (arith, places.count)) a) (of-packet (t + 1) (omega (arith, places.count)) b);
      }

pub one_missing_packet : OneMissingPacket
unfolding OneMissingPacket
one_missing_packet v m form g s ns h z x o = spread v m form g s ns h z x o
