-- Sessions, check by check. Assumes nothing.
use Rattle.std.proofs.Common.{Result, Ok, Err}
use Prim.Native.Nat.{ℕ, ◌<◌}
use mathlib.Core.Bool.{true, false}
use mathlib.Core.Path.{◌≡◌, refl, sym, ap, ◌∙◌}
use mathlib.Core.List.{List}
use native.Mathlib.Omega.{arith}
use lib.ListN.{length}
use lib.Dec.{T}
use borrow.Author.Tests.{eq-eqb, ne_eqb}
use Rattle.octets.proofs.Logic.{apart}
use Rattle.frame.specs.FrameTable.{FrameTable, single}
use Rattle.frame.specs.Shape.{Shape, Voice}
use Rattle.form.specs.declared.Form.{Form}
use Rattle.answers.specs.declared.Refusal.{Refusal}
use Rattle.answers.specs.declared.Refusal.TheVariants.{AnotherSource, PacketDiffers, NotApplicable}
use Rattle.payload.specs.Payload.{Reading, packet, refused_payload, read_as}
use Rattle.answers.proofs.Exits.{same_ok}
use Rattle.payload.specs.Shown.{contents_of, frames_read, holds_packet}
use Rattle.payload.specs.declared.Contents.{Contents}
use Rattle.payload.proofs.Readings.{read_is}
use Rattle.numbers.specs.Bases.{base_sequence, base_timestamp}
use Rattle.numbers.specs.Place.{decided}
use Rattle.numbers.specs.declared.GroupNumbers.{GroupNumbers}
use Rattle.numbers.specs.declared.Before.{Before}
use Rattle.numbers.specs.declared.Before.TheVariants as before
use Rattle.numbers.specs.declared.Verdict.{Verdict}
use Rattle.numbers.specs.declared.Verdict.TheVariants as verdict
use Rattle.holding.specs.Group.{is_nothing, held_at, bundle_at, with_packet, holds}
use Rattle.bundle.specs.Bundles.{same_bundles}
use Rattle.bundle.specs.LaidOut.{laid}
use Rattle.bundle.specs.declared.Bundle.{Bundle}
use Rattle.answers.specs.Outputs as outputs
use Rattle.answers.specs.Outputs.{Made, Writes}
use Rattle.entries.specs.Entries.{entries_of}
use Rattle.pouring.specs.Pouring.{in_time}
use Rattle.pouring.proofs.PouringLaws.{pour-none, pour-all}
use Rattle.holding.proofs.GroupLaws.{some-frames, no-frame}
use Rattle.session.specs.Session.{Arrival, is_open, refuse, accept, with_group}
use Rattle.session.specs.Session.{poured_before, group_before, begins, belongs, placed_by, placed, arrival, judged, received, offered}
use Rattle.session.specs.Session.{pour_made}
use Rattle.session.specs.declared.Session.{Session}
use Rattle.session.proofs.Ends.{open-has, group-has}

-- ---- the group before
module _ (u : Shape) (s : Session) where
  pub one-held : (g : GroupNumbers) → is_nothing u s.group ≡ false → g ≡ s.group.numbers
      → before.Held g ≡ group_before u s
  unfolding group_before
  one-held g e q = simp e (ap before.Held q)

  pub none-held : is_nothing u s.group ≡ true → poured_before s.last ≡ group_before u s
  unfolding group_before
  none-held e = simp e

-- ---- a packet of the held group
module _ (u : Shape) (s : Session) (a : Arrival) where
  pub put_in : held_at s.group a.n ≡ false
      → accept (with_group s (with_packet u s.group a.n a.packet)) 0 ≡ belongs u s a
  unfolding belongs
  put_in e = simp e

  module _ (e : held_at s.group a.n ≡ true) where
    pub again : same_bundles (bundle_at u s.group a.n) a.packet ≡ true → accept s 0 ≡ belongs u s a
    unfolding belongs
    again f = simp (e, f)

    pub differs : same_bundles (bundle_at u s.group a.n) a.packet ≡ false → refuse s PacketDiffers ≡ belongs u s a
    unfolding belongs
    differs f = simp (e, f)

-- ---- the verdict on its numbers
module _ (u : Shape) (s : Session) (a : Arrival) (g : Before) (w : Result Verdict Refusal) (e : g ≡ group_before u s) (f : w ≡ decided g a.numbers) where
  by-verdict : (x : Result Verdict Refusal) → w ≡ x → placed_by u s a x ≡ placed u s a
  unfolding placed
  by-verdict x q = ap (placed_by u s a) (sym q ∙ f ∙ ap (λ (h : Before). decided h a.numbers) e)

  pub it-begins : (lost : ℕ) → w ≡ Ok (verdict.Begins lost) → begins u s a lost ≡ placed u s a
  unfolding placed_by
  it-begins lost q = by-verdict (Ok (verdict.Begins lost)) q

  pub it-belongs : w ≡ (Ok verdict.Belongs) → belongs u s a ≡ placed u s a
  unfolding placed_by
  it-belongs q = by-verdict (Ok verdict.Belongs) q

  pub is-refused : (r : Refusal) → w ≡ Err r → refuse s r ≡ placed u s a
  unfolding placed_by
  is-refused r q = by-verdict (Err r) q

-- ---- pouring
module _ (v : Voice) (s : Session) where
  pub pour-closed : is_open v s ≡ false → pour_made v s ≡ outputs.refused_output NotApplicable
  unfolding pour_made
  pour-closed e = simp e

  module _ (e : is_open v s ≡ true) where
    -- a group is held if B is not 0
    pub group-holds : (s.group.numbers.b ≡ 0 → ⊥) → holds v s.group ≡ true
    group-holds n = (group-has v s (open-has v s e).group (some-frames v.shape s.group n)).0

    pub pour-vacant : s.group.numbers.b ≡ 0 → pour_made v s ≡ outputs.refused_output NotApplicable
    unfolding pour_made
    pour-vacant z = simp e (pour-none v s.group (no-frame v s.group z))

    pub pour-group : (s.group.numbers.b ≡ 0 → ⊥) → pour_made v s ≡ outputs.octets (entries_of (in_time v s.group))
    unfolding pour_made
    pour-group n = simp e (pour-all v s.group (group-holds n))

-- ---- offering
judge-refused : (u : Shape) (s : Session) (sequence timestamp : ℕ) (w : Reading) (r : Refusal) → Err r ≡ contents_of w → refuse s r ≡ judged u s sequence timestamp w
unfolding judged contents_of
judge-refused u s q t (refused_payload x) r e = let z : r ≡ x = cc in ap (refuse s) z
judge-refused u s q t (packet l n d fs) r e = apart (cc)

-- what was read of a packet, as it arrived
pub record Came (u : Shape) (sequence timestamp : ℕ) (w : Reading) (a : Arrival) : Type 0 where
  pub d : ℕ
  pub told : holds_packet a.numbers.l a.n a.numbers.b d ≡ contents_of w
  pub base : a.numbers.sequence ≡ base_sequence sequence a.n
  pub time : a.numbers.timestamp ≡ base_timestamp timestamp a.n
  pub frames : a.packet ≡ laid u (frames_read w)

judge-placed : (u : Shape) (s : Session) (sequence timestamp : ℕ) (w : Reading) (a : Arrival) → Came u sequence timestamp w a
    → placed u s a ≡ judged u s sequence timestamp w
unfolding judged contents_of frames_read arrival
judge-placed u s q t (refused_payload x) a c = let e = c.told in apart (cc)
judge-placed u s q t (packet l n d fs) a c =
    let e = same_ok _ _ c.told in
    let zl : a.numbers.l ≡ l = ap (λ (x : Contents). x.l) e in
    let zn : a.n ≡ n = ap (λ (x : Contents). x.n) e in
    let zb : a.numbers.b ≡ length fs = ap (λ (x : Contents). x.b) e in
    ap (placed u s)
    (same-arrival (c.base ∙ ap (base_sequence q) zn) (c.time ∙ ap (base_timestamp t) zn) zl zb zn c.frames)
  where
    same-arrival : {s s' t t' l l' b b' n n' : ℕ} {p p' : Bundle} → s ≡ s' → t ≡ t' → l ≡ l' → b ≡ b' → n ≡ n' → p ≡ p'
        → ◌≡◌ {A = Arrival} (record { numbers = record { sequence = s; timestamp = t; l = l; b = b }; n = n; packet = p })
        (record { numbers = record { sequence = s'; timestamp = t'; l = l'; b = b' }; n = n'; packet = p' })
    same-arrival i j k l m n = cc

-- N of a packet that was read
pub index-small : (v : FrameTable) → T (single v v) → (f : Form) (p : List ℕ) (l n b d : ℕ) → holds_packet l n b d ≡ contents_of (read_as v f p) → n < 8
unfolding contents_of
index-small v z f p l n b d e = go (read_as v f p) refl e
  where
    go : (w : Reading) → read_as v f p ≡ w → holds_packet l n b d ≡ contents_of w → n < 8
    go (refused_payload r) q x = apart (cc)
    go (packet l' n' d' fs) q x =
        let i = read_is v z f p l' n' d' fs q in
        let zn : n ≡ n' = ap (λ (c : Contents). c.n) (same_ok _ _ x) in
        omega (arith, i.index_in, i.length_small)

module _ (v : Voice) (s : Session) (source sequence timestamp : ℕ) (p : List ℕ) where
  pub offer-closed : is_open v s ≡ false → refuse s NotApplicable ≡ offered v s source sequence timestamp p
  unfolding offered
  offer-closed e = simp e

  pub offer-open : is_open v s ≡ true → received v s source sequence timestamp p ≡ offered v s source sequence timestamp p
  unfolding offered
  offer-open e = simp e

  pub other-source : (source ≡ s.source → ⊥) → refuse s AnotherSource ≡ received v s source sequence timestamp p
  unfolding received
  other-source n = simp (ne_eqb _ _ n)

  module _ (q : source ≡ s.source) where
    by-reading : judged v.shape s sequence timestamp (read_as v.table s.form p) ≡ received v s source sequence timestamp p
    unfolding received
    by-reading = simp (eq-eqb _ _ q)

    pub not-read : (r : Refusal) → Err r ≡ contents_of (read_as v.table s.form p)
        → refuse s r ≡ received v s source sequence timestamp p
    not-read r e = judge-refused v.shape s sequence timestamp (read_as v.table s.form p) r e ∙ by-reading

    pub was_read : (a : Arrival) → Came v.shape sequence timestamp (read_as v.table s.form p) a
        → placed v.shape s a ≡ received v s source sequence timestamp p
    was_read a c = judge-placed v.shape s sequence timestamp (read_as v.table s.form p) a c ∙ by-reading

-- what another call made and answered is handed on
pub handed-on : (m m' : Made) (before : List ℕ) (r r' : Result ℕ Refusal) (after : List ℕ) → m ≡ m' → r ≡ r' → Writes m' before r after → Writes m before r' after
handed-on m m' before r r' after e f x = rw (e, ← f) x
