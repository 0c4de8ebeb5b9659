-- How an offer ends: the one walk over its checks, from which all that holds of every offer is read off. Assumes nothing.
use Rattle.std.proofs.Common.{Option, Some, None, Result, Ok, Err}
use Prim.Native.Nat.{ℕ, ◌/◌, ◌≤◌}
use mathlib.Core.Bool.{Bool, true, false, cond, ◌&&◌}
use mathlib.Core.Path.{◌≡◌, refl, sym, ap, subst, ◌∙◌}
use mathlib.Core.List.{List}
use native.Mathlib.Omega.{arith}
use lib.Dec.{eqb}
use borrow.Author.Tests.{eqb-true, le-leb}
use Rattle.octets.proofs.Logic.{apart, both_true}
use Rattle.frame.specs.FrameTable.{Frame}
use Rattle.frame.specs.Shape.{Shape, Voice}
use Rattle.answers.specs.Answers.{number_of}
use Rattle.answers.specs.declared.Refusal.{Refusal}
use Rattle.answers.specs.declared.Refusal.TheVariants.{AnotherSource, PacketDiffers, NotApplicable}
use Rattle.payload.specs.Payload.{Reading, packet, refused_payload, read_as}
use Rattle.payload.proofs.Faulting.{never-later}
use Rattle.numbers.specs.Place.{pause, minute, with_held, after_poured, decided}
use Rattle.numbers.specs.declared.GroupNumbers.{GroupNumbers}
use Rattle.numbers.specs.declared.Before.TheVariants as before
use Rattle.numbers.specs.declared.Verdict.{Verdict}
use Rattle.numbers.proofs.PlaceLaws.{HeldEnds, held-ends, PouredEnds, poured-ends}
use Rattle.numbers.proofs.PlaceLaws as numbers
use Rattle.form.specs.declared.Form.{Form}
use Rattle.holding.specs.Group.{is_nothing, held_at, bundle_at, with_packet, holds}
use Rattle.holding.proofs.GroupLaws.{nothing_is, sound-has, holds-sound}
use Rattle.bundle.specs.Bundles.{same_bundles}
use Rattle.session.specs.Session.{Arrival, Offered, vacant, fresh, form_right, last_right, group_right, is_open, refuse, accept, with_group, poured_before, lost_after, group_before, begins}
use Rattle.session.specs.Session.{belongs, placed_by, placed, arrival, judged, received, offered, ended}
use Rattle.session.specs.declared.Session.{Session}

-- ---- a session that is open
pub record Open (v : Voice) (s : Session) : Type 0 where
  pub opened : s.«open» ≡ true
  pub form : form_right s.form ≡ true
  pub last : last_right v.shape s.last ≡ true
  pub group : group_right v s ≡ true

pub open-has : (v : Voice) (s : Session) → is_open v s ≡ true → Open v s
unfolding is_open
open-has v s e =
    let p = both_true s.«open» (form_right s.form && (last_right v.shape s.last && group_right v s)) e in
    let q = both_true (form_right s.form) (last_right v.shape s.last && group_right v s) p.1 in
    let r = both_true (last_right v.shape s.last) (group_right v s) q.1 in
    record { opened = p.0; form = q.0; last = r.0; group = r.1 }

-- its group is held, and names its source
pub group-has : (v : Voice) (s : Session) → group_right v s ≡ true → is_nothing v.shape s.group ≡ false
    → (holds v s.group ≡ true) × (s.group.source ≡ s.source)
unfolding group_right
group-has v s e f = let p = both_true (holds v s.group) (eqb s.group.source s.source) (rw f at e) in (p.0, eqb-true _ _ p.1)

-- and it holds none if its group has no frame to a packet
pub open-vacant : (v : Voice) (s : Session) → is_open v s ≡ true → s.group.numbers.b ≡ 0 → is_nothing v.shape s.group ≡ true
open-vacant v s e z = go (is_nothing v.shape s.group) refl
  where
    go : (x : Bool) → is_nothing v.shape s.group ≡ x → x ≡ true
    go true q = refl
    go false q =
        let g = group-has v s (open-has v s e).group q in
        absurd (omega (arith, (sound-has v s.group (holds-sound v s.group g.0).0).some))

-- one that was just opened is
pub fresh-open : (v : Voice) (source : ℕ) (form : Form) → form_right form ≡ true → is_open v (fresh v.shape source form) ≡ true
unfolding is_open fresh vacant last_right group_right
fresh-open v source form e = simp (e, nothing_is v.shape)

-- after its group is ended, a session is open
pub ended-open : (v : Voice) (s : Session) → is_open v s ≡ true → holds v s.group ≡ true → is_open v (ended v.shape s) ≡ true
unfolding is_open ended last_right group_right
ended-open v s o h =
    let x = open-has v s o in
    let y = sound-has v s.group (holds-sound v s.group h).0 in
    simp (x.opened, x.form, le-leb _ _ y.low, le-leb _ _ y.some, le-leb _ _ y.few, nothing_is v.shape)

-- ---- a packet that was read, at its place; only a group that is held makes it 12
pub data Placed (u : Shape) (s : Session) (a : Arrival) (o : Offered) : Type 0 where
  no : (r : Refusal) → (is_nothing u s.group ≡ true → eqb (number_of r) 12 ≡ false) → o ≡ refuse s r → Placed u s a o
  again : is_nothing u s.group ≡ false → o ≡ accept s 0 → Placed u s a o
  put : is_nothing u s.group ≡ false → held_at s.group a.n ≡ false → a.numbers.l ≡ s.group.numbers.l → a.numbers.b ≡ s.group.numbers.b
      → o ≡ accept (with_group s (with_packet u s.group a.n a.packet)) 0 → Placed u s a o
  first : is_nothing u s.group ≡ true → s.last ≡ None → o ≡ begins u s a 0 → Placed u s a o
  next : is_nothing u s.group ≡ true → (g : GroupNumbers) → s.last ≡ Some g → (lost : ℕ) → lost ≡ pause g a.numbers / 160
      → lost ≤ minute → o ≡ begins u s a lost → Placed u s a o

module _ (u : Shape) (s : Session) (a : Arrival) where
  -- it belongs to the held group
  belongs-ends : is_nothing u s.group ≡ false → a.numbers.l ≡ s.group.numbers.l → a.numbers.b ≡ s.group.numbers.b → Placed u s a (belongs u s a)
  unfolding belongs
  belongs-ends q l b = go (held_at s.group a.n) refl (same_bundles (bundle_at u s.group a.n) a.packet)
    where
      go : (x : Bool) → held_at s.group a.n ≡ x → (y : Bool)
          → Placed u s a (cond x (cond y (accept s 0) (refuse s PacketDiffers)) (accept (with_group s (with_packet u s.group a.n a.packet)) 0))
      go true k true = again q refl
      go true k false = no PacketDiffers (λ h. refl) refl
      go false k y = put q k l b refl

  -- with a group held, and with one poured before
  by-held : is_nothing u s.group ≡ false → (w : Result Verdict Refusal) → HeldEnds s.group.numbers a.numbers w → Placed u s a (placed_by u s a w)
  unfolding placed_by
  by-held q w (numbers.refused r e) = rw e (no r (λ h. let z : false ≡ true = sym q ∙ h in apart (cc)) refl)
  by-held q w (numbers.member l b e) = rw e (belongs-ends q l b)

  by-poured : is_nothing u s.group ≡ true → (g : GroupNumbers) → s.last ≡ Some g → (w : Result Verdict Refusal) → PouredEnds g a.numbers w
      → Placed u s a (placed_by u s a w)
  unfolding placed_by
  by-poured q g p w (numbers.refused r n e) = rw e (no r (λ h. n) refl)
  by-poured q g p w (numbers.follows lost f h e) = rw e (next q g p lost f h refl)

  placed-ends : Placed u s a (placed u s a)
  unfolding placed group_before poured_before decided placed_by
  placed-ends = go (is_nothing u s.group) refl s.last refl
    where
      go : (x : Bool) → is_nothing u s.group ≡ x → (y : Option GroupNumbers) → s.last ≡ y
          → Placed u s a (placed_by u s a (decided (cond x (poured_before y) (before.Held s.group.numbers)) a.numbers))
      go false q y p = by-held q (with_held s.group.numbers a.numbers) (held-ends s.group.numbers a.numbers)
      go true q (Some g) p = by-poured q g p (after_poured g a.numbers) (poured-ends g a.numbers)
      go true q None p = first q p refl

-- what is seen of it: refused, and the session is as it was; or accepted, with the lost frames that the formula tells
pub data Seen (s : Session) (lost : ℕ) (o : Offered) : Type 0 where
  kept : (r : Refusal) → o ≡ refuse s r → Seen s lost o
  took : (t : Session) → o ≡ accept t lost → Seen s lost o

pub seen : (u : Shape) (s : Session) (a : Arrival) (o : Offered) → Placed u s a o
    → Seen s (cond (is_nothing u s.group) (lost_after s.last a.numbers) 0) o
unfolding begins
seen u s a o (no r n e) = kept r e
seen u s a o (again q e) = rw q (took s e)
seen u s a o (put q k f g e) = rw q (took _ e)
seen u s a o (first q p e) =
    let z : cond (is_nothing u s.group) (lost_after s.last a.numbers) 0 ≡ 0 = simp q (ap (λ (l : Option GroupNumbers). lost_after l a.numbers) p) in
    subst (λ (m : ℕ). Seen s m o) (sym z) (took _ e)
seen u s a o (next q g p lost f h e) =
    let z : cond (is_nothing u s.group) (lost_after s.last a.numbers) 0 ≡ lost = simp q (ap (λ (l : Option GroupNumbers). lost_after l a.numbers) p) ∙ sym f in
    subst (λ (m : ℕ). Seen s m o) (sym z) (took _ e)

-- ---- an offer: refused before its place is looked at, or a packet of the session's source that was read, at its place
pub data Ends (v : Voice) (s : Session) (source sequence timestamp : ℕ) (p : List ℕ) (o : Offered) : Type 0 where
  refuses : (r : Refusal) → eqb (number_of r) 12 ≡ false → o ≡ refuse s r → Ends v s source sequence timestamp p o
  places : is_open v s ≡ true → source ≡ s.source → (l n d : ℕ) (fs : List Frame) → read_as v.table s.form p ≡ packet l n d fs
      → Placed v.shape s (arrival v.shape sequence timestamp l n fs) o → Ends v s source sequence timestamp p o

pub offer-ends : (v : Voice) (s : Session) (source sequence timestamp : ℕ) (p : List ℕ)
    → Ends v s source sequence timestamp p (offered v s source sequence timestamp p)
unfolding offered received judged
offer-ends v s source sequence timestamp p = by-open (is_open v s) refl (eqb source s.source) refl (read_as v.table s.form p) refl
  where
    by-open : (b : Bool) → is_open v s ≡ b → (c : Bool) → eqb source s.source ≡ c → (w : Reading) → read_as v.table s.form p ≡ w
        → Ends v s source sequence timestamp p
        (cond b (cond c (judged v.shape s sequence timestamp w) (refuse s AnotherSource)) (refuse s NotApplicable))
    by-open false x c y w z = refuses NotApplicable refl refl
    by-open true x false y w z = refuses AnotherSource refl refl
    by-open true x true y (refused_payload r) z = refuses r (never-later v.table s.form p r z) refl
    by-open true x true y (packet l n d fs) z =
        places x (eqb-true source s.source y) l n d fs z (placed-ends v.shape s (arrival v.shape sequence timestamp l n fs))

-- ---- a refused offer leaves the session as it was
pub refused-keeps : (v : Voice) (s : Session) (source sequence timestamp : ℕ) (p : List ℕ) (r : Refusal)
    → (offered v s source sequence timestamp p).answer ≡ Err r → (offered v s source sequence timestamp p).session ≡ s
unfolding refuse accept
refused-keeps v s source sequence timestamp p r = go (offered v s source sequence timestamp p) (offer-ends v s source sequence timestamp p)
  where
    same : (m : ℕ) (o : Offered) → Seen s m o → o.answer ≡ Err r → o.session ≡ s
    same m o (kept x e) h = rw e
    same m o (took t e) h = let z : Ok m ≡ Err r = sym (ap (λ (y : Offered). y.answer) e) ∙ h in apart (cc)

    go : (o : Offered) → Ends v s source sequence timestamp p o → o.answer ≡ Err r → o.session ≡ s
    go o (refuses x k e) h = rw e
    go o (places i j l n d fs q x) h = same _ o (seen v.shape s (arrival v.shape sequence timestamp l n fs) o x) h

-- ---- an offer changes the held group alone
placed-group : (u : Shape) (s : Session) (a : Arrival) (o : Offered) → Placed u s a o → o.session ≡ with_group s o.session.group
unfolding refuse accept with_group begins
placed-group u s a o (no r n e) = rw e
placed-group u s a o (again q e) = rw e
placed-group u s a o (put q k l b e) = rw e
placed-group u s a o (first q p e) = rw e
placed-group u s a o (next q g p lost f h e) = rw e

pub only-group : (v : Voice) (s : Session) (source sequence timestamp : ℕ) (p : List ℕ)
    → (offered v s source sequence timestamp p).session ≡ with_group s (offered v s source sequence timestamp p).session.group
unfolding refuse with_group
only-group v s source sequence timestamp p = go (offered v s source sequence timestamp p) (offer-ends v s source sequence timestamp p)
  where
    go : (o : Offered) → Ends v s source sequence timestamp p o → o.session ≡ with_group s o.session.group
    go o (refuses r n e) = rw e
    go o (places i j l n d fs q x) = placed-group v.shape s (arrival v.shape sequence timestamp l n fs) o x
