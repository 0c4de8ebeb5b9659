-- No recording of a capture is larger than `largest`: what a run has recorded, and what its held group would pour, is at most 300 octets for each
-- packet offered, and 3,000 lost frames more for each once a group was poured. Assumes nothing.
use Rattle.std.proofs.Common.{is_some}
use Prim.Native.Nat.{ℕ, zero, suc, ◌+◌, ◌*◌, ◌≤◌, ◌<◌}
use mathlib.Core.Bool.{Bool, true, false, cond}
use mathlib.Core.Path.{◌≡◌, refl, ap, ap₂, ◌∙◌}
use mathlib.Core.List.{List, [], ◌∷◌, ◌++◌, append-nil}
use mathlib.Core.Logic.{⊎_elim}
use native.Mathlib.Nat.{add-zero, zero-add, le_refl, mul-le-mul, suc-mul, eq-or-lt_of_le, le_of_suc-le-suc}
use native.Mathlib.Omega.{arith}
use lib.ListN.{length, get_or, replicate, length-append, length-take, length-replicate, get_or-replicate}
use lib.Seq.{get_or-set_other}
use lib.Dec.{T, eqb}
use borrow.Author.Tests.{eqb-true, eqb-false}
use Rattle.octets.specs.Octets.{same_octets}
use Rattle.octets.proofs.Logic.{apart, both_true}
use Rattle.octets.proofs.OctetsLaws.{same_true}
use Rattle.frame.specs.FrameTable.{FrameTable, Frame, size, within, erases, erasure}
use Rattle.frame.specs.Shape.{holding_shape, voice_with}
use Rattle.numbers.specs.Place.{minute}
use Rattle.numbers.specs.declared.GroupNumbers.{GroupNumbers}
use Rattle.frame.proofs.FrameTableLaws.{size-within, erasure-listed}
use Rattle.answers.specs.Outputs.{Made}
use Rattle.answers.specs.Outputs as outputs
use Rattle.entries.specs.Kind.{Kind}
use Rattle.entries.specs.Entries.{entries_of}
use Rattle.holding.specs.Group.{is_nothing, held_at, bundle_at, with_packet, begun, holds, right_in, right_at}
use Rattle.bundle.specs.Bundles.{not_held, same_bundles, mark_at, frame_of}
use Rattle.holding.specs.declared.Holding.{Holding}
use Rattle.bundle.specs.declared.Bundle.{Bundle}
use Rattle.holding.proofs.GroupLaws.{packet-lost, sound-has, holds-sound, nothing_is, sound-something}
use Rattle.octets.proofs.Below.{all-at}
use Rattle.pouring.specs.Pouring.{row, rows, in_time, poured}
use Rattle.frame.specs.Places.{up_to}
use Rattle.pouring.proofs.PouringLaws.{entries-append}
use Rattle.answers.specs.declared.Refusal.{Refusal}
use Rattle.answers.specs.declared.Refusal.TheVariants.{NotApplicable}
use Rattle.session.specs.Session.{Arrival, Offered, is_open, refuse, accept, with_group, begins, arrival, offered, pour_made}
use Rattle.session.specs.Session.{ended, never_opened, fresh, vacant}
use Rattle.session.proofs.Ends.{Placed, no, again, put, first, next, Ends, refuses, places, offer-ends}
use Rattle.session.specs.declared.Session.{Session}
use Rattle.capture.specs.Capture.{Heard}
use Rattle.capture.specs.Run.{Step, still, and_then, first_session, offered_to, taken_of, offering, poured_of, pouring, is_twelve, readied, step_of, run_of}
use Rattle.capture.specs.Run.{lost_in}

at_most_one : (t : Bool) → cond t 1 0 ≤ 1
at_most_one true = omega arith
at_most_one false = omega arith

-- how many of the first m packets are held
abbrev held_below : Holding → ℕ → ℕ
held_below h zero = 0
held_below h (suc m) = held_below h m + cond (held_at h m) 1 0

-- ---- the entries of a group take 80 octets, and 220 more for each packet held
module _ (v : FrameTable) (w : T (within 22 v)) (z : T (erases v)) (h : Holding) (right : (n : ℕ) → n < 8 → right_at (voice_with v) h n ≡ true) where
  abbrev here : ℕ → ℕ → Frame
  here n k = frame_of (voice_with v) (bundle_at holding_shape h n) k

  lost-mark : (n k : ℕ) → n < 8 → k < 10 → held_at h n ≡ false → mark_at (bundle_at holding_shape h n) k ≡ erasure
  unfolding right_in held_at same_bundles mark_at not_held
  lost-mark n k p q e =
      let b = bundle_at holding_shape h n in
      let s : same_bundles b (not_held holding_shape) ≡ true = packet-lost (voice_with v) h.numbers.l h.numbers.b n (held_at h n) b e ∙ right n p in
      let m = same_true b.marks (replicate 10 erasure) (both_true (same_octets b.marks (replicate 10 erasure)) _ s).0 in
      ap (λ (l : List ℕ). get_or l k 0) m ∙ get_or-replicate 10 k erasure 0 q

  body-small : (n k : ℕ) → n < 8 → k < 10 → length (here n k).body ≤ cond (held_at h n) 22 0
  unfolding frame_of
  body-small n k p q = go (held_at h n) refl
    where
      go : (b : Bool) → held_at h n ≡ b → length (here n k).body ≤ cond b 22 0
      go true e = simp length-take (omega (arith, size-within 22 v (mark_at (bundle_at holding_shape h n) k) w))
      go false e =
          let y : size v (mark_at (bundle_at holding_shape h n) k) ≡ 0 = ap (size v) (lost-mark n k p q e) ∙ (erasure-listed v z).1 in
          simp length-take (omega arith)

  row_small : (k m : ℕ) → m ≤ 8 → k < 10 → length (entries_of (row (voice_with v) h.marks h.room k m)) ≤ m + 22 * held_below h m
  unfolding row up_to
  row_small k zero p q = omega arith
  row_small k (suc m) p q =
      let f = here m k in
      let i = row_small k m (omega arith) q in
      let e : length (entries_of (row (voice_with v) h.marks h.room k m ++ (f ∷ []))) ≡ length (entries_of (row (voice_with v) h.marks h.room k m)) + length (entries_of (f ∷ [])) =
      ap length (entries-append (row (voice_with v) h.marks h.room k m) (f ∷ [])) ∙ length-append (entries_of (row (voice_with v) h.marks h.room k m)) (entries_of (f ∷ [])) in
      let b : length (f.body ++ []) ≡ length f.body = ap length (append-nil f.body) in
      let s : length f.body ≤ cond (held_at h m) 22 0 = body-small m k p q in
      let c : cond (held_at h m) 22 0 ≡ 22 * cond (held_at h m) 1 0 = times (held_at h m) in
      omega arith
    where
      times : (t : Bool) → cond t 22 0 ≡ 22 * cond t 1 0
      times true = refl
      times false = refl

  rows-small : (m b : ℕ) → m ≤ 8 → b ≤ 10 → length (entries_of (rows (voice_with v) h.marks h.room m b)) ≤ b * (m + 22 * held_below h m)
  unfolding rows
  rows-small m zero p q = omega arith
  rows-small m (suc b) p q =
      let i = rows-small m b p (omega arith) in
      let j = row_small b m p q in
      let rs = rows (voice_with v) h.marks h.room m b in
      let x = row (voice_with v) h.marks h.room b m in
      let e : length (entries_of (rs ++ x)) ≡ length (entries_of rs) + length (entries_of x) =
      ap length (entries-append rs x) ∙ length-append (entries_of rs) (entries_of x) in
      omega (arith, suc-mul b (m + 22 * held_below h m))

held-grows : (h : Holding) (m n : ℕ) → m ≤ n → held_below h m ≤ held_below h n
held-grows h m zero p = let e : m ≡ 0 = omega arith in rw e (le_refl 0)
held-grows h m (suc n) p =
    ⊎_elim (λ (e : m ≡ suc n). rw e (le_refl _)) (λ (q : m < suc n). omega (arith, held-grows h m n (le_of_suc-le-suc q))) (eq-or-lt_of_le p)

pour-small : (v : FrameTable) → T (within 22 v) → T (erases v) → (h : Holding) → holds (voice_with v) h ≡ true → length (entries_of (in_time (voice_with v) h)) ≤ 80 + 220 * held_below h 8
pour-small v w z h e =
    let s = sound-has (voice_with v) h (holds-sound (voice_with v) h e).0 in
    let low : h.numbers.l + 1 ≤ 8 = omega (arith, s.low) in
    let i = rows-small v w z h (λ n p. all-at (right_at (voice_with v) h) 8 n s.packets p) (h.numbers.l + 1) h.numbers.b low s.few in
    let g = held-grows h (h.numbers.l + 1) 8 low in
    let wide : h.numbers.l + 1 + 22 * held_below h (h.numbers.l + 1) ≤ 8 + 22 * held_below h 8 = omega arith in
    let m = mul-le-mul {n₁ = h.numbers.b} {m₁ = h.numbers.l + 1 + 22 * held_below h (h.numbers.l + 1)} {n₂ = 10} {m₂ = 8 + 22 * held_below h 8} s.few wide in
    omega (arith, i, m)

held-few : (h : Holding) (m : ℕ) → held_below h m ≤ m
held-few h zero = omega arith
held-few h (suc m) = let i = held-few h m in omega (arith, i, at_most_one (held_at h m))

-- a packet put in is one more; of a group just begun none is held
module _ (h : Holding) (n : ℕ) (p : Bundle) where
  with-other : (m : ℕ) → (m ≡ n → ⊥) → held_at (with_packet holding_shape h n p) m ≡ held_at h m
  unfolding held_at with_packet
  with-other m d = get_or-set_other h.held n m true false d

  with-below : (m : ℕ) → m ≤ n → held_below (with_packet holding_shape h n p) m ≡ held_below h m
  with-below zero q = refl
  with-below (suc m) q = ap₂ (λ (i : ℕ) (t : Bool). i + cond t 1 0) (with-below m (omega arith)) (with-other m (λ (e : m ≡ n). absurd (omega arith)))

  with-small : (m : ℕ) → held_below (with_packet holding_shape h n p) m ≤ held_below h m + 1
  with-small zero = omega arith
  with-small (suc m) = go (with-small m) (eqb m n) refl
    where
      go : held_below (with_packet holding_shape h n p) m ≤ held_below h m + 1 → (b : Bool) → eqb m n ≡ b → held_below (with_packet holding_shape h n p) (suc m) ≤ held_below h (suc m) + 1
      go j true e =
          let q : m ≡ n = eqb-true m n e in
          let i = with-below m (omega arith) in
          omega (arith, i, at_most_one (held_at (with_packet holding_shape h n p) m))
      go j false e =
          let q = ap {B = ℕ} (λ (t : Bool). cond t 1 0) (with-other m (eqb-false m n e)) in
          omega (arith, j, q)

begun-none : (source : ℕ) (g : GroupNumbers) (m : ℕ) → m ≤ 8 → held_below (begun holding_shape source g) m ≡ 0
unfolding held_at begun
begun-none source g zero q = refl
begun-none source g (suc m) q =
    let e = ap {B = ℕ} (λ (t : Bool). cond t 1 0) (get_or-replicate 8 m false false q) in
    omega (arith, begun-none source g m (omega arith), e)

-- ---- what a session's group would pour, and the most lost frames that an offer reports
abbrev weight : Session → ℕ
weight s = cond (is_nothing holding_shape s.group) 0 (80 + 220 * held_below s.group 8)

abbrev before : Session → ℕ
before s = cond (is_some s.last) minute 0

weight-most : (s : Session) → weight s ≤ 80 + 220 * held_below s.group 8
weight-most s = go (is_nothing holding_shape s.group)
  where
    go : (b : Bool) → cond b 0 (80 + 220 * held_below s.group 8) ≤ 80 + 220 * held_below s.group 8
    go true = omega arith
    go false = le_refl _

-- ---- an offer brings 300 octets at most, and the lost frames before it
data Brings (s : Session) (o : Offered) : Type 0 where
  nothing_new : (r : Refusal) → o ≡ refuse s r → Brings s o
  more : (t : Session) (lost : ℕ) → o ≡ accept t lost → (is_some t.last) ≡ (is_some s.last) → t.source ≡ s.source →
      lost ≤ minute → lost + weight t ≤ weight s + 300 + before s → Brings s o

-- a group that a packet begins
begun-weight : (s : Session) (a : Arrival) →
    weight (with_group s (with_packet holding_shape (begun holding_shape s.source a.numbers) a.n a.packet)) ≤ 300
unfolding with_group
begun-weight s a =
    let none = begun holding_shape s.source a.numbers in
    let e = begun-none s.source a.numbers 8 (le_refl 8) in
    omega (arith, weight-most (with_group s (with_packet holding_shape none a.n a.packet)), with-small none a.n a.packet 8, e)

placed-brings : (s : Session) (a : Arrival) (o : Offered) → Placed holding_shape s a o → Brings s o
unfolding begins with_group
placed-brings s a o (no x n e) = nothing_new x e
placed-brings s a o (again q e) = more s 0 e refl refl (omega arith) (omega arith)
placed-brings s a o (put q k f i e) =
    let g = s.group in
    let held : weight s ≡ 80 + 220 * held_below g 8 = simp q in
    more (with_group s (with_packet holding_shape g a.n a.packet)) 0 e refl refl (omega arith)
    (omega (arith, weight-most (with_group s (with_packet holding_shape g a.n a.packet)), with-small g a.n a.packet 8, held))
placed-brings s a o (first q p e) = more _ 0 e refl refl (omega arith) (omega (arith, begun-weight s a))
placed-brings s a o (next q gp p lost f h e) =
    let b : before s ≡ minute = rw p refl in
    more _ lost e refl refl h (omega (arith, begun-weight s a, h, b))

offer-brings : (v : FrameTable) (s : Session) (h : Heard) → Brings s (offered_to v s h)
unfolding offered_to
offer-brings v s h = go (offered (voice_with v) s h.source h.sequence h.timestamp h.payload) (offer-ends (voice_with v) s h.source h.sequence h.timestamp h.payload)
  where
    go : (o : Offered) → Ends (voice_with v) s h.source h.sequence h.timestamp h.payload o → Brings s o
    go o (refuses r n e) = nothing_new r e
    go o (places op q l n d fs r x) =
        placed-brings s (arrival holding_shape h.sequence h.timestamp l n fs) o x

-- so the lost frames of an answer are few
pub lost-few : (v : FrameTable) (s : Session) (h : Heard) → lost_in (offered_to v s h).answer ≤ minute
unfolding lost_in refuse accept
lost-few v s h = go (offered_to v s h) (offer-brings v s h)
  where
    go : (o : Offered) → Brings s o → lost_in o.answer ≤ minute
    go o (nothing_new r e) = let q : lost_in o.answer ≡ 0 = ap (λ (x : Offered). lost_in x.answer) e in omega arith
    go o (more t lost e p f l w) = let q : lost_in o.answer ≡ lost = ap (λ (x : Offered). lost_in x.answer) e in omega arith

-- ---- an offer in a run
record Brought (s : Session) (a : Step) : Type 0 where
  same : (is_some a.session.last) ≡ (is_some s.last)
  source : a.session.source ≡ s.source
  small : length a.octets + weight a.session ≤ weight s + 300 + before s

offering-brought : (kind : Kind) (s : Session) (h : Heard) → Brought s (offering kind s h)
unfolding offering taken_of refuse accept
offering-brought kind s h = go (offered_to kind.table s h) (offer-brings kind.table s h)
  where
    go : (o : Offered) → Brings s o → Brought s (taken_of kind s o.session o.answer)
    go o (nothing_new r e) = rw e (record { same = refl; source = refl; small = omega arith })
    go o (more t lost e p q l w) = rw e (record { same = p; source = q; small = omega (arith, w, length-replicate lost kind.erasure) })

-- ---- no step changes whose session it is
pouring-source : (v : FrameTable) (s : Session) → (pouring v s).session.source ≡ s.source
unfolding pouring poured_of ended
pouring-source v s = go (pour_made (voice_with v) s)
  where
    go : (m : Made) → (poured_of s m).session.source ≡ s.source
    go (outputs.octets w) = refl
    go (outputs.refused_output r) = refl

readied-source : (kind : Kind) (s : Session) (h : Heard) → (readied kind s h).session.source ≡ s.source
unfolding readied
readied-source kind s h = go (is_twelve (offered_to kind.table s h).answer)
  where
    go : (b : Bool) → (cond b (pouring kind.table s) (still s [])).session.source ≡ s.source
    go true = pouring-source kind.table s
    go false = refl

pub step-source : (kind : Kind) (s : Session) (h : Heard) → (step_of kind s h).session.source ≡ s.source
unfolding step_of and_then
step-source kind s h = (offering-brought kind (readied kind s h).session h).source ∙ readied-source kind s h

-- ---- pouring in a run
data Pours (s : Session) (a : Step) : Type 0 where
  none : a ≡ still s [] → Pours s a
  some : a.session ≡ ended holding_shape s → 80 ≤ weight s → length a.octets ≤ weight s → Pours s a

-- ---- a run of i packets that has recorded len octets
abbrev cap : Bool → ℕ → ℕ
cap poured i = cond poured ((300 + minute) * i) (300 * i)

abbrev Small : Session → ℕ → ℕ → Type 0
Small s len i = len + weight s + before s ≤ cap (is_some s.last) i

then-small : (s : Session) (len i : ℕ) (a : Step) → Small s len i → Brought s a → Small a.session (len + length a.octets) (i + 1)
then-small s len i a h b = go (is_some s.last) (is_some a.session.last) b.same h b.small
  where
    go :
        (p q : Bool) →
        q ≡ p →
        len + weight s + cond p minute 0 ≤ cap p i →
        length a.octets + weight a.session ≤ weight s + 300 + cond p minute 0 →
        len + length a.octets + weight a.session + cond q minute 0 ≤ cap q (i + 1)
    go true true e x y = omega arith
    go false false e x y = omega arith
    go true false e x y = apart (cc)
    go false true e x y = apart (cc)

-- what pouring makes, by whether the session is open and whether it holds a group
abbrev pub made_if : FrameTable → Session → Bool → Bool → Made
made_if v s o b =
    let none = outputs.refused_output NotApplicable in
    cond o (cond b (outputs.octets (entries_of (in_time (voice_with v) s.group))) none) none

-- the length of what stands behind n octets
behind : (n : ℕ) (xs ys : List ℕ) → n + length (xs ++ ys) ≡ n + length xs + length ys
behind n xs ys = omega (arith, length-append xs ys)

module _ (v : FrameTable) (w : T (within 22 v)) (z : T (erases v)) where
  pour-ends : (s : Session) → Pours s (pouring v s)
  unfolding pouring poured_of pour_made poured
  pour-ends s = go (is_open (voice_with v) s) (holds (voice_with v) s.group) refl
    where
      go : (o b : Bool) → holds (voice_with v) s.group ≡ b → Pours s (poured_of s (made_if v s o b))
      go false b e = none refl
      go true false e = none refl
      go true true e =
          let x : weight s ≡ 80 + 220 * held_below s.group 8 = simp (sound-something (voice_with v) s.group (sound-has (voice_with v) s.group (holds-sound (voice_with v) s.group e).0)) in
          some refl (omega arith) (omega (arith, x, pour-small v w z s.group e))

  -- a group that is poured has at most 1,840 octets
  pub pour-most : (s : Session) (y : List ℕ) → pour_made (voice_with v) s ≡ outputs.octets y → length y ≤ 1840
  unfolding pour_made poured
  pour-most s y q = go (is_open (voice_with v) s) (holds (voice_with v) s.group) refl q
    where
      go : (o b : Bool) → holds (voice_with v) s.group ≡ b → made_if v s o b ≡ outputs.octets y → length y ≤ 1840
      go false b e x = apart (cc)
      go true false e x = apart (cc)
      go true true e x =
          let f : entries_of (in_time (voice_with v) s.group) ≡ y = cc in
          omega (arith, pour-small v w z s.group e, held-few s.group 8, ap length f)

  pouring-few : (s : Session) → length (pouring v s).octets ≤ 1840
  unfolding pouring poured_of
  pouring-few s = go (pour_made (voice_with v) s) refl
    where
      go : (m : Made) → pour_made (voice_with v) s ≡ m → length (poured_of s m).octets ≤ 1840
      go (outputs.octets y) e = pour-most s y e
      go (outputs.refused_output r) e = omega arith

  pour-keeps : (s : Session) (len i : ℕ) → Small s len i → Small (pouring v s).session (len + length (pouring v s).octets) i
  unfolding ended
  pour-keeps s len i h = go (pouring v s) (pour-ends s)
    where
      first : (p : Bool) → len + weight s + cond p minute 0 ≤ cap p i → 80 ≤ weight s → len + weight s + minute ≤ (300 + minute) * i
      first true x y = x
      first false x y = omega arith

      go : (a : Step) → Pours s a → Small a.session (len + length a.octets) i
      go a (none e) = let q : Small s (len + 0) i = omega arith in rw e q
      go a (some e x y) =
          let q : weight (ended holding_shape s) ≡ 0 = simp (nothing_is holding_shape) in
          let k = first (is_some s.last) h x in
          let r : Small (ended holding_shape s) (len + length a.octets) i = omega arith in
          rw e r

module _ (kind : Kind) (w : T (within 22 kind.table)) (z : T (erases kind.table)) where
  -- what is done before a packet's last offer
  readied-keeps : (s : Session) (h : Heard) (len i : ℕ) → Small s len i → Small (readied kind s h).session (len + length (readied kind s h).octets) i
  unfolding readied
  readied-keeps s h len i x = go (is_twelve (offered_to kind.table s h).answer)
    where
      go : (b : Bool) → let a = cond b (pouring kind.table s) (still s []) in Small a.session (len + length a.octets) i
      go true = pour-keeps kind.table w z s len i x
      go false = rw (add-zero len) x

  pub readied-few : (s : Session) (h : Heard) → length (readied kind s h).octets ≤ 1840
  unfolding readied
  readied-few s h = go (is_twelve (offered_to kind.table s h).answer)
    where
      go : (b : Bool) → length (cond b (pouring kind.table s) (still s [])).octets ≤ 1840
      go true = pouring-few kind.table w z s
      go false = omega arith

  step_small : (s : Session) (h : Heard) (len i : ℕ) → Small s len i → Small (step_of kind s h).session (len + length (step_of kind s h).octets) (i + 1)
  unfolding step_of and_then
  step_small s h len i x =
      let a = readied kind s h in
      let y = then-small a.session (len + length a.octets) i (offering kind a.session h) (readied-keeps s h len i x) (offering-brought kind a.session h) in
      rw (behind len a.octets (offering kind a.session h).octets) y

  run_small : (s : Session) (hs : List Heard) (len i : ℕ) → Small s len i → Small (run_of kind s hs).session (len + length (run_of kind s hs).octets) (i + length hs)
  unfolding run_of and_then
  run_small s [] len i x = rw (add-zero len, add-zero i) x
  run_small s (h ∷ hs) len i x =
      let a = step_of kind s h in
      let y = run_small a.session hs (len + length a.octets) (i + 1) (step_small s h len i x) in
      let f : i + length (h ∷ hs) ≡ i + 1 + length hs = omega arith in
      rw (behind len a.octets (run_of kind a.session hs).octets, f) y

  first_small : (hs : List Heard) → Small (first_session hs) 0 0
  unfolding first_session never_opened fresh vacant
  first_small [] = simp (nothing_is holding_shape) (omega arith)
  first_small (h ∷ hs) = simp (nothing_is holding_shape) (omega arith)

  few-octets : (s : Session) (len n : ℕ) → n ≤ 256 → Small s len n → len ≤ 256 * 300 + 255 * minute
  few-octets s len n h x = go (is_some s.last) x
    where
      go : (p : Bool) → len + weight s + cond p minute 0 ≤ cap p n → len ≤ 256 * 300 + 255 * minute
      go true x = omega arith
      go false x = omega arith

  -- what a run over at most 256 packets has recorded, before and after the last pouring
  module _ (hs ks : List Heard) (few : length ks ≤ 256) where
    from_first : Small (run_of kind (first_session hs) ks).session (length (run_of kind (first_session hs) ks).octets) (length ks)
    from_first = rw (← zero-add (length (run_of kind (first_session hs) ks).octets), ← zero-add (length ks)) (run_small (first_session hs) ks 0 0 (first_small hs))

    pub run-few : length (run_of kind (first_session hs) ks).octets ≤ 256 * 300 + 255 * minute
    run-few = few-octets (run_of kind (first_session hs) ks).session _ (length ks) few from_first

    pub all-few : length (and_then (run_of kind (first_session hs) ks) (pouring kind.table)).octets ≤ 256 * 300 + 255 * minute
    unfolding and_then
    all-few =
        let a = run_of kind (first_session hs) ks in
        let x = few-octets (pouring kind.table a.session).session _ (length ks) few (pour-keeps kind.table w z a.session (length a.octets) (length ks) from_first) in
        omega (arith, x, length-append a.octets (pouring kind.table a.session).octets)
