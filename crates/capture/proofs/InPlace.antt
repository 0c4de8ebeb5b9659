-- The run in place, function by function: each law is a need of one. Assumes nothing.
use Rattle.std.proofs.Common.{Result, Ok, Err}
use Prim.Native.Nat.{ℕ, ◌+◌, ◌-◌, ◌≤◌, ◌<◌}
use mathlib.Core.Bool.{Bool, true, false}
use mathlib.Core.Path.{◌≡◌, refl, sym, ap, subst, ◌∙◌}
use mathlib.Core.List.{List, []}
use native.Mathlib.Omega.{arith}
use lib.ListN.{length, replicate, length-replicate}
use lib.Dec.{T}
use Rattle.octets.specs.Octets.{over}
use native.Mathlib.Nat.{add-zero}
use Rattle.octets.proofs.OctetsLaws.{over-whole, over_nothing}
use Rattle.frame.specs.FrameTable.{FrameTable, Frame, single, erasure}
use Rattle.frame.proofs.FrameTableLaws.{rows-single}
use Rattle.frame.specs.Shape.{holding_shape, voice_with}
use Rattle.form.specs.Agreed.{voice_for}
use Rattle.entries.specs.Kind.{Kind}
use Rattle.entries.specs.Entries.{entries_of}
use Rattle.answers.specs.declared.Refusal.{Refusal}
use Rattle.holding.specs.Group.{nothing, begun}
use Rattle.holding.proofs.GroupLaws.{Sound, sound-has, holds-sound}
use Rattle.knowledge.proofs.PutLaws.{begun-shaped}
use Rattle.pouring.specs.Pouring.{rows, rows_size}
use Rattle.pouring.proofs.PouringLaws.{length-rows}
use Rattle.session.specs.Session.{Offered, vacant, fresh, form_right, ended}
use Rattle.session.specs.Standing.{whole, Stands, Fits, frames_of, decided_as}
use Rattle.session.specs.declared.Session.{Session}
use Rattle.session.specs.declared.Standing.{Standing}
use Rattle.session.specs.declared.Decision.{Decision}
use Rattle.session.proofs.Ends.{refused-keeps, fresh-open}
use Rattle.session.proofs.SessionLaws.{group-holds, pour-vacant, pour-group}
use Rattle.session.proofs.StandingLaws.{offered-of, Decides, decides-as}
use Rattle.capture.specs.Capture.{Heard, count_of, heard_at, packets_in}
use Rattle.capture.specs.Run.{Run, capture_form, capture_vocoder, capture_kind, first_session, still, offered_to, taken_of, lost_in, offering, poured_of, pouring, is_twelve, readied, step_of, Put}
use Rattle.capture.specs.Run.{Does}
use Rattle.capture.specs.declared.Going.{Going}
use Rattle.capture.specs.Going.{run_in, DecidesOf}
use Rattle.capture.proofs.RunLaws.{table_fits, table-erases, first_some, once-ready, later-ready}
use Rattle.capture.proofs.Staying.{Stays, pour-stays, step_stays}

-- ---- types and bodies emptied
pub all-erased : (d e : List ℕ) → length d ≡ 80 → e ≡ over d 0 (replicate 80 erasure) → e ≡ (nothing holding_shape).marks
unfolding nothing begun
all-erased d e l q = q ∙ over-whole d (replicate 80 erasure) (l ∙ sym (length-replicate {A = ℕ} 80 erasure))

pub all-zero : (d e : List ℕ) → length d ≡ 1760 → e ≡ over d 0 (replicate 1760 0) → e ≡ (nothing holding_shape).room
unfolding nothing begun
all-zero d e l q = q ∙ over-whole d (replicate 1760 0) (l ∙ sym (length-replicate {A = ℕ} 1760 0))

-- ---- rows put where they fit
module _ (ms rs : List ℕ) (m b size : ℕ) (long : length rs ≡ 1760) (few : m ≤ 8) (b-few : b ≤ 10) (e : size ≡ rows_size capture_kind.table ms m b) where
  abbrev entries : List ℕ
  entries = entries_of (rows (voice_with capture_kind.table) ms rs m b)

  pub size_is : size ≡ length entries
  size_is = e ∙ sym (length-rows (voice_with capture_kind.table) table_fits ms rs long m b few b-few)

  pub no-room-at : (d : List ℕ) (at : ℕ) → length d < at → Put d at entries d
  no-room-at d at h q = absurd (omega arith)

  pub no-room-behind : (d : List ℕ) (at : ℕ) → at ≤ length d → length d - at < size → Put d at entries d
  no-room-behind d at h k q = let z = size_is in absurd (omega arith)

-- ---- an open session that holds a group
module _ (t : Standing) (ms rs : List ℕ) (h : Stands t ms rs) where
  pub held-sound : (t.numbers.b ≡ 0 → ⊥) → Sound (voice_for t.form) (whole t ms rs).group
  held-sound n =
      let v = voice_for t.form in
      let s = whole t ms rs in
      sound-has v s.group (holds-sound v s.group (group-holds v s h.opened n)).0

  -- nothing is poured where none is held
  pub pours-nothing : t.numbers.b ≡ 0 → pouring capture_kind.table (whole t ms rs) ≡ still (whole t ms rs) []
  unfolding pouring poured_of
  pours-nothing z = rw (pour-vacant (voice_for t.form) (whole t ms rs) h.opened z)

  -- and else its rows are, and the session is as after pouring
  pub pours-rows : (n : t.numbers.b ≡ 0 → ⊥) (u : Standing) (ms' rs' : List ℕ) (at size : ℕ) (d e : List ℕ)
      → ((ms rs : List ℕ) → whole u (nothing holding_shape).marks (nothing holding_shape).room ≡ ended holding_shape (whole t ms rs))
      → ms' ≡ (nothing holding_shape).marks → rs' ≡ (nothing holding_shape).room
      → size ≡ rows_size capture_kind.table ms (t.numbers.l + 1) t.numbers.b
      → Put d at (entries_of (rows (voice_with capture_kind.table) ms rs (t.numbers.l + 1) t.numbers.b)) e
      → Does (pouring capture_kind.table (whole t ms rs)) at d (run_in (record { standing = u; octets = at + size }) ms' rs') e
  unfolding pouring poured_of
  pours-rows n u ms' rs' at size d e x m r q p =
      let s = held-sound n in
      let k = size_is ms rs (t.numbers.l + 1) t.numbers.b size h.spans.long_room (omega (arith, s.low)) s.few q in
      rw (pour-group (voice_for t.form) (whole t ms rs) h.opened n)
      (record { session = rw (m, r) (x ms rs); counted = ap (λ (i : ℕ). at + i) k; written = p })

-- ---- an open session, in parts and whole
pub stays_of : (t : Standing) (ms rs : List ℕ) → Stands t ms rs → Stays capture_kind.table (whole t ms rs)
stays_of t ms rs h = record { opened = h.opened; shaped = h.spans }

pub stands_from : (t : Standing) (ms rs : List ℕ) (s : Session) → whole t ms rs ≡ s → Stays capture_kind.table s → Stands t ms rs
stands_from t ms rs s e x = let y = subst (Stays capture_kind.table) (sym e) x in record { opened = y.opened; spans = y.shaped }

-- ---- a packet taken as it was decided
module _ (t : Standing) (ms rs : List ℕ) (h : Stands t ms rs) (k : Heard) (d : Result Decision Refusal) (x : DecidesOf t k d) where
  worth : Decides t k.source k.sequence k.timestamp k.payload d
  worth = decides-as t k.source k.sequence k.timestamp k.payload d x

  -- what it means for the session put together
  pub decided-is : decided_as (whole t ms rs) (frames_of t.form k.payload) d ≡ offered_to capture_kind.table (whole t ms rs) k
  unfolding offered_to
  decided-is = offered-of (whole t ms rs) t ms rs refl h.opened h.spans k.source k.sequence k.timestamp k.payload d x _ refl

  pub fits-as : (p : List ℕ) → p ≡ k.payload → Fits t (frames_of t.form p) d
  fits-as p e = subst (λ (q : List ℕ). Fits t (frames_of t.form q) d) (sym e) (worth.fits ms rs h)

  pub taken_as_lem : (p : List ℕ) → p ≡ k.payload → (o : Offered) → o ≡ decided_as (whole t ms rs) (frames_of t.form p) d → o ≡ offered_to capture_kind.table (whole t ms rs) k
  taken_as_lem p e o q = q ∙ ap (λ (y : List ℕ). decided_as (whole t ms rs) (frames_of t.form y) d) e ∙ decided-is

  pub later-is : (b : Bool) → ((s : Session) (fs : List Frame) → b ≡ is_twelve (decided_as s fs d).answer) → b ≡ is_twelve (offered_to capture_kind.table (whole t ms rs) k).answer
  later-is b q = q (whole t ms rs) (frames_of t.form k.payload) ∙ ap (λ (o : Offered). is_twelve o.answer) decided-is

-- a refused offer leaves the session as it was
kept : (v : FrameTable) (s : Session) (h : Heard) (r : Refusal) → (offered_to v s h).answer ≡ Err r → (offered_to v s h).session ≡ s
unfolding offered_to
kept v s h r = refused-keeps (voice_with v) s h.source h.sequence h.timestamp h.payload r

-- the run after it
pub took-does : (kind : Kind) (s : Session) (h : Heard) (o : Offered) (lost at : ℕ) (d e : List ℕ) → o ≡ offered_to kind.table s h → lost ≡ lost_in o.answer
    → Put d at (replicate lost kind.erasure) e → Does (offering kind s h) at d (record { session = o.session; octets = at + lost }) e
unfolding offering taken_of lost_in
took-does kind s h o lost at d e q l p = go (offered_to kind.table s h).answer refl
  where
    z : lost ≡ lost_in (offered_to kind.table s h).answer
    z = l ∙ ap (λ (x : Offered). lost_in x.answer) q

    go : (w : Result ℕ Refusal) → (offered_to kind.table s h).answer ≡ w
        → Does (taken_of kind s (offered_to kind.table s h).session w) at d (record { session = o.session; octets = at + lost }) e
    go (Ok n) f =
        let m : lost ≡ n = z ∙ ap lost_in f in
        record {
          session = ap (λ (x : Offered). x.session) q;
          counted = ap (λ (i : ℕ). at + i) (m ∙ sym (length-replicate n kind.erasure));
          written = rw (← m) p;
        }
    go (Err r) f =
        let m : lost ≡ 0 = z ∙ ap lost_in f in
        record {
          session = ap (λ (x : Offered). x.session) q ∙ kept kind.table s h r f;
          counted = ap (λ (i : ℕ). at + i) m;
          written = rw m at p;
        }

-- and after one that was refused
pub took-nothing : (kind : Kind) (s : Session) (h : Heard) (o : Offered) (r : Refusal) (at : ℕ) (d : List ℕ) → o ≡ offered_to kind.table s h → o.answer ≡ Err r
    → Does (offering kind s h) at d (record { session = o.session; octets = at }) d
unfolding lost_in
took-nothing kind s h o r at d q e =
    subst (λ (n : ℕ). Does (offering kind s h) at d (record { session = o.session; octets = n }) d) (add-zero at)
    (took-does kind s h o 0 at d d q (sym (ap lost_in e)) (λ x. over_nothing d at))

-- ---- a step of the run in place: on 12 it pours, else it is ready
module _ (g : Going) (ms rs : List ℕ) (h : Stands g.standing ms rs) (k : Heard) (d : Result Decision Refusal) (x : DecidesOf g.standing k d) (b : Bool)
    (twelve : (s : Session) (fs : List Frame) → b ≡ is_twelve (decided_as s fs d).answer) (out : List ℕ) where
  pub ready-once : b ≡ false → Does (readied capture_kind (whole g.standing ms rs) k) g.octets out (run_in g ms rs) out
  ready-once q =
      once-ready capture_kind k out (run_in g ms rs) (offered_to capture_kind.table (whole g.standing ms rs) k) b refl (later-is g.standing ms rs h k d x b twelve) q

  pub ready-later : b ≡ true → (p : Run) (e : List ℕ) → Does (pouring capture_kind.table (whole g.standing ms rs)) g.octets out p e
      → Does (readied capture_kind (whole g.standing ms rs) k) g.octets out p e
  ready-later q p e y =
      later-ready capture_kind k out (run_in g ms rs) (offered_to capture_kind.table (whole g.standing ms rs) k) b refl (later-is g.standing ms rs h k d x b twelve) p e q y

-- the session stays open
table-single : T (single capture_kind.table capture_kind.table)
table-single = rows-single capture_vocoder

module _ (t u : Standing) (ms rs ms' rs' : List ℕ) (h : Stands t ms rs) where
  pub stands-poured : whole u ms' rs' ≡ (pouring capture_kind.table (whole t ms rs)).session → Stands u ms' rs'
  stands-poured e = stands_from u ms' rs' _ e (pour-stays capture_kind.table table_fits table-erases table-single (whole t ms rs) (stays_of t ms rs h))

  pub stands-stepped : (k : Heard) → whole u ms' rs' ≡ (step_of capture_kind (whole t ms rs) k).session → Stands u ms' rs'
  stands-stepped k e = stands_from u ms' rs' _ e (step_stays capture_kind table_fits table-erases table-single (whole t ms rs) (stays_of t ms rs h) k)

-- ---- the first session, of a capture that has a packet
module _ (c : List ℕ) (n : ℕ) (e : n ≡ count_of c) (z : n ≡ 0 → ⊥) (u : Standing)
    (q : whole u (nothing holding_shape).marks (nothing holding_shape).room ≡ fresh holding_shape (heard_at c 0).source capture_form) where
  pub first-whole : whole u (replicate 80 erasure) (replicate 1760 0) ≡ first_session (packets_in c)
  unfolding nothing begun
  first-whole = q ∙ first_some c n e z

  pub first-stands : Stands u (replicate 80 erasure) (replicate 1760 0)
  unfolding nothing begun fresh vacant form_right capture_form
  first-stands =
      stands_from u (replicate 80 erasure) (replicate 1760 0) _ q
      (record {
        opened = fresh-open (voice_with capture_kind.table) (heard_at c 0).source capture_form refl;
        shaped = begun-shaped (voice_with capture_kind.table) 0 (record { sequence = 0; timestamp = 0; l = 0; b = 0 });
      })
