-- A session that is open stays open: an offer leaves it so, and so does pouring. Assumes nothing.
use Rattle.std.proofs.Common.{Result, Ok, Err}
use Prim.Native.Nat.{ℕ, ◌≤◌}
use mathlib.Core.Bool.{Bool, true, false, cond}
use mathlib.Core.Path.{◌≡◌, refl}
use mathlib.Core.List.{List, []}
use native.Mathlib.Omega.{arith}
use lib.ListN.{length}
use lib.Dec.{T}
use borrow.Author.Tests.{eq-eqb}
use Rattle.answers.specs.declared.Refusal.{Refusal}
use Rattle.frame.specs.FrameTable.{FrameTable, Frame, within, single, erases}
use Rattle.frame.specs.Shape.{Voice, holding_shape, voice_with}
use Rattle.payload.proofs.Readings.{IsPacket, read_is}
use Rattle.bundle.specs.LaidOut.{laid}
use Rattle.holding.specs.Group.{Shaped, nothing, begun, with_packet, holds}
use Rattle.holding.specs.declared.Holding.{Holding}
use Rattle.holding.proofs.GroupLaws.{holds-sound, sound-something}
use Rattle.pouring.specs.Pouring.{poured}
use Rattle.knowledge.specs.Knowledge.{Box}
use Rattle.knowledge.proofs.JoinLaws.{box-sound}
use Rattle.knowledge.proofs.PutLaws.{Keeps, put-box, begun-shaped, begun-keeps}
use Rattle.session.specs.Session.{Arrival, Offered, last_right, group_right, is_open, refuse, accept, with_group, begins, arrival, offered, pour_made, ended}
use Rattle.session.specs.declared.Session.{Session}
use Rattle.session.proofs.Ends.{open-has, group-has, ended-open, Placed, no, again, put, first, next, Ends, refuses, places, offer-ends}
use Rattle.entries.specs.Kind.{Kind}
use Rattle.capture.specs.Capture.{Heard}
use Rattle.capture.specs.Run.{still, and_then, offered_to, taken_of, offering, poured_of, pouring, is_twelve, readied, step_of}

-- a session with another group held stays open
pub open-with : (v : Voice) (s : Session) (h : Holding) → is_open v s ≡ true → Box v h → h.source ≡ s.source → is_open v (with_group s h) ≡ true
unfolding is_open with_group group_right last_right
open-with v s h o x e =
    let p = open-has v s o in
    simp (p.opened, p.form, p.last, sound-something v h (box-sound v h x), x.some, eq-eqb h.source s.source e)

-- open, with arrays of a holding's length
pub record Stays (v : FrameTable) (s : Session) : Type 0 where
  pub opened : is_open (voice_with v) s ≡ true
  pub shaped : Shaped holding_shape s.group

module _ (v : FrameTable) (w : T (within 22 v)) (z : T (erases v)) (one : T (single v v)) where
  -- ---- an offer
  module _ (s : Session) (x : Stays v s) (sequence timestamp l n : ℕ) (fs : List Frame) (i : IsPacket v l n fs) where
    abbrev a : Arrival
    a = arrival holding_shape sequence timestamp l n fs

    -- a group that holds packet n too, of a group that keeps the rule
    with-stays : (h : Holding) → Keeps (voice_with v) h → h.source ≡ s.source → n ≤ h.numbers.l → length fs ≡ h.numbers.b
        → Stays v (with_group s (with_packet holding_shape h n (laid holding_shape fs)))
    unfolding with_group with_packet
    with-stays h k e q m =
        let b = put-box (voice_with v) w z h k n q fs m i.listed in
        record {
          opened = open-with (voice_with v) s (with_packet holding_shape h n (laid holding_shape fs)) x.opened b e;
          shaped = b.shaped;
        }

    begins-stays : (lost : ℕ) → Stays v (begins holding_shape s a lost).session
    unfolding begins accept arrival begun
    begins-stays lost =
        with-stays (begun holding_shape s.source a.numbers) (begun-keeps (voice_with v) s.source a.numbers i.length_small i.some i.few) refl i.index_in refl

    placed-stays : (o : Offered) → Placed holding_shape s a o → Stays v o.session
    unfolding refuse accept arrival
    placed-stays o (no r q e) = rw e x
    placed-stays o (again q e) = rw e x
    placed-stays o (put q c f g e) =
        let h = group-has (voice_with v) s (open-has (voice_with v) s x.opened).group q in
        let k : Keeps (voice_with v) s.group = record { shaped = x.shaped; rule = (holds-sound (voice_with v) s.group h.0).0 } in
        rw e (with-stays s.group k h.1 (omega (arith, i.index_in, f)) g)
    placed-stays o (first q p e) = rw e (begins-stays 0)
    placed-stays o (next q gp p lost f h e) = rw e (begins-stays lost)

  pub offer-stays : (s : Session) → Stays v s → (h : Heard) → Stays v (offered_to v s h).session
  unfolding offered_to refuse
  offer-stays s x h = go (offered (voice_with v) s h.source h.sequence h.timestamp h.payload) (offer-ends (voice_with v) s h.source h.sequence h.timestamp h.payload)
    where
      go : (o : Offered) → Ends (voice_with v) s h.source h.sequence h.timestamp h.payload o → Stays v o.session
      go o (refuses r n e) = rw e x
      go o (places c d l n q fs r y) = placed-stays s x h.sequence h.timestamp l n fs (read_is v one s.form h.payload l n q fs r) o y

  -- ---- pouring
  pub pour-stays : (s : Session) → Stays v s → Stays v (pouring v s).session
  unfolding pouring poured_of pour_made poured ended nothing
  pour-stays s x = go (holds (voice_with v) s.group) refl
    where
      go : (b : Bool) → holds (voice_with v) s.group ≡ b → Stays v (pouring v s).session
      go true e = rw (x.opened, e) (record { opened = ended-open (voice_with v) s x.opened e; shaped = begun-shaped (voice_with v) 0 (record { sequence = 0; timestamp = 0; l = 0; b = 0 }) })
      go false e = rw (x.opened, e) x

-- ---- a step of the run
module _ (kind : Kind) (w : T (within 22 kind.table)) (z : T (erases kind.table)) (one : T (single kind.table kind.table)) where
  offering-stays : (s : Session) → Stays kind.table s → (h : Heard) → Stays kind.table (offering kind s h).session
  unfolding offering taken_of
  offering-stays s x h = go (offered_to kind.table s h).answer
    where
      go : (a : Result ℕ Refusal) → Stays kind.table (taken_of kind s (offered_to kind.table s h).session a).session
      go (Ok lost) = offer-stays kind.table w z one s x h
      go (Err r) = x

  readied-stays : (s : Session) → Stays kind.table s → (h : Heard) → Stays kind.table (readied kind s h).session
  unfolding readied
  readied-stays s x h = go (is_twelve (offered_to kind.table s h).answer)
    where
      go : (b : Bool) → Stays kind.table (cond b (pouring kind.table s) (still s [])).session
      go true = pour-stays kind.table w z one s x
      go false = x

  pub step_stays : (s : Session) → Stays kind.table s → (h : Heard) → Stays kind.table (step_of kind s h).session
  unfolding step_of and_then
  step_stays s x h = offering-stays (readied kind s h).session (readied-stays s x h) h
