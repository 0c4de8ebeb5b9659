-- The run that measures: each packet brings its lost frames, its bodies, and an octet for each place of a group that it begins. Assumes nothing.
use Rattle.std.proofs.Common.{Result, Err, Ok}
use Prim.Native.Nat.{ℕ, ◌+◌, ◌-◌, ◌*◌, ◌≤◌, ◌<◌}
use mathlib.Core.Bool.{Bool, true, false, cond}
use mathlib.Core.Path.{◌≡◌, refl, sym, ap, ap₂, subst, ◌∙◌}
use mathlib.Core.List.{List}
use native.Mathlib.Nat.{add_assoc, mul_comm, mul-le-mul}
use native.Mathlib.Omega.{arith}
use lib.ListN.{length, replicate, length-append, length-replicate}
use Rattle.octets.proofs.Logic.{apart}
use Rattle.frame.specs.FrameTable.{Frame, erasure, AllListed}
use Rattle.frame.specs.Shape.{Voice, holding_shape, voice_with}
use Rattle.frame.specs.Places.{taken, up_to}
use Rattle.frame.proofs.PlacesLaws.{length-upTo}
use Rattle.frame.proofs.FrameTableLaws.{rows-single}
use Rattle.answers.specs.Outputs.{Made}
use Rattle.answers.specs.declared.Refusal.{Refusal}
use Rattle.answers.specs.declared.Refusal.TheVariants.{PacketDiffers}
use Rattle.form.specs.declared.Form.{Form}
use Rattle.payload.specs.Payload.{packet, read_as}
use Rattle.payload.specs.Shown.{frames_read}
use Rattle.payload.proofs.Readings.{IsPacket, read_is}
use Rattle.payload.proofs.LayingOut.{read-fills}
use Rattle.entries.specs.Entries.{entries_of}
use Rattle.numbers.specs.Place.{minute}
use Rattle.numbers.specs.declared.GroupNumbers.{GroupNumbers}
use Rattle.bundle.specs.Bundles.{same_bundles}
use Rattle.bundle.specs.LaidOut.{laid}
use Rattle.holding.specs.Group.{nothing, begun, is_nothing, held_at, bundle_at, with_packet}
use Rattle.holding.specs.declared.Holding.{Holding}
use Rattle.holding.proofs.GroupLaws.{holds-sound}
use Rattle.pouring.specs.Pouring.{in_time}
use Rattle.knowledge.proofs.PutLaws.{Keeps, begun-keeps, begun-lost}
use Rattle.knowledge.proofs.PouredLaws.{begun-pours, put-pours}
use Rattle.session.specs.Session.{Offered, vacant, fresh, is_open, refuse, accept, with_group, begins, arrival, offered, ended}
use Rattle.session.specs.Standing.{whole, Stands, frames_of, decided_as, begun_with, holding_also}
use Rattle.session.specs.declared.Session.{Session}
use Rattle.session.specs.declared.Standing.{Standing}
use Rattle.session.specs.declared.Decision.{Decision}
use Rattle.session.specs.declared.Decision.TheVariants as decision
use Rattle.session.proofs.Ends.{open-has, group-has, ended-open, Placed, no, again, put, first, next, Ends, refuses, places, offer-ends}
use Rattle.session.proofs.SessionLaws.{group-holds, pour-vacant, pour-group}
use Rattle.session.proofs.StandingLaws.{is-vacant}
use Rattle.session.proofs.StandingLaws.{Decides, decides-as, PutsIn, puts-in}
use Rattle.capture.specs.Capture.{Heard, count_of, heard_at, packets_in, good}
use Rattle.capture.specs.Run.{capture_vocoder, capture_form, capture_kind, and_then, offered_to, lost_in, taken_of, offering, poured_of, pouring, is_twelve, readied, step_of, run_of}
use Rattle.capture.specs.Run.{Step, first_session, whole_run, entries_recorded, capture_recording, largest}
use Rattle.capture.specs.Going.{DecidesOf}
use Rattle.capture.specs.Weighing.{held_octets, Measured, Measures, Weighs}
use Rattle.capture.specs.declared.Going.{Going}
use Rattle.capture.proofs.Largest.{lost-few, all-few}
use Rattle.capture.proofs.RunLaws.{table_fits, table-erases, run_more}
use Rattle.capture.proofs.CaptureLaws.{good-is}
use Rattle.capture.proofs.Answering.{twelve-held, pouring-ends}
use Rattle.capture.proofs.Staying.{Stays, offer-stays}
use Rattle.capture.proofs.InPlace.{decided-is, later-is, stays_of, first-whole, first-stands}

abbrev voice : Voice
voice = voice_with capture_kind.table

-- ---- what a held group records when it is poured
module _ (s : Session) (o : is_open voice s ≡ true) where
  held_none : s.group.numbers.b ≡ 0 → held_octets s ≡ 0
  unfolding held_octets pouring poured_of
  held_none z = ap (λ (m : Made). length (poured_of s m).octets) (pour-vacant voice s o z)

  held-some : (s.group.numbers.b ≡ 0 → ⊥) → held_octets s ≡ length (entries_of (in_time voice s.group))
  unfolding held_octets pouring poured_of
  held-some n = ap (λ (m : Made). length (poured_of s m).octets) (pour-group voice s o n)

  held_keeps : Stays capture_kind.table s → (s.group.numbers.b ≡ 0 → ⊥) → Keeps voice s.group
  held_keeps x n = record { shaped = x.shaped; rule = (holds-sound voice s.group (group-holds voice s o n)).0 }

-- ---- the step that an offer is, by what it answers
offering-as : (s : Session) (h : Heard) (o : Offered) → o ≡ offered_to capture_kind.table s h → offering capture_kind s h ≡ taken_of capture_kind s o.session o.answer
unfolding offering
offering-as s h o e = ap (λ (x : Offered). taken_of capture_kind s x.session x.answer) (sym e)

accepted-group : (s : Session) (y : Holding) (t : Session) (lost more : ℕ) → accept (with_group s y) lost ≡ accept t more → y ≡ t.group
unfolding accept with_group
accepted-group s y t lost more e = ap (λ (o : Offered). o.session.group) e

-- a packet that was read and begins a group
record Begun (f : Form) (p : List ℕ) (source : ℕ) (after : Holding) : Type 0 where
  numbers : GroupNumbers
  m : ℕ
  d : ℕ
  fs : List Frame
  read : read_as capture_kind.table f p ≡ packet numbers.l m d fs
  many : length fs ≡ numbers.b
  is : after ≡ with_packet holding_shape (begun holding_shape source numbers) m (laid holding_shape fs)

-- its group is one just begun, and the packet put in
put_first : (source : ℕ) (k : GroupNumbers) → Keeps voice (begun holding_shape source k) → (n : ℕ) → n ≤ k.l → (fs : List Frame) → length fs ≡ k.b → AllListed capture_kind.table fs
    → held_at (begun holding_shape source k) n ≡ false
    → length (entries_of (in_time voice (with_packet holding_shape (begun holding_shape source k) n (laid holding_shape fs))))
    ≡ length (entries_of (in_time voice (begun holding_shape source k))) + taken 0 fs
unfolding begun
put_first source k keeps n le fs many a u = put-pours voice table_fits table-erases (begun holding_shape source k) keeps n le fs many a u

-- an accepted offer is not refused
not-refused : {A : Type 0} (s t : Session) (lost : ℕ) (r : Refusal) → accept t lost ≡ refuse s r → A
unfolding accept refuse
not-refused s t lost r e = let z = ap (λ (o : Offered). o.answer) e in apart (cc)

-- ---- a packet, as it was decided
module _ (g : Going) (ms rs : List ℕ) (st : Stands g.standing ms rs) (f : g.standing.form ≡ capture_form) (h : Heard) (d : Result Decision Refusal) (x : DecidesOf g.standing h d) where
  abbrev s : Session
  s = whole g.standing ms rs

  abbrev fs : List Frame
  fs = frames_of g.standing.form h.payload

  worth : Decides g.standing h.source h.sequence h.timestamp h.payload d
  worth = decides-as g.standing h.source h.sequence h.timestamp h.payload d x

  offer-is : decided_as s fs d ≡ offered_to capture_kind.table s h
  offer-is = decided-is g.standing ms rs st h d x

  stays : Stays capture_kind.table s
  stays = stays_of g.standing ms rs st

  after-stays : Stays capture_kind.table (decided_as s fs d).session
  after-stays = rw offer-is (offer-stays capture_kind.table table_fits table-erases (rows-single capture_vocoder) s stays h)

  -- a payload that was read is filled by its bodies
  filled-by : (l n i : ℕ) (gs : List Frame) → read_as capture_kind.table g.standing.form h.payload ≡ packet l n i gs → 1 + length gs + taken 0 gs ≡ length h.payload
  unfolding capture_form
  filled-by l n i gs e = read-fills capture_kind.table _ h.payload l n i gs (rw f at e)

  -- ---- nothing changes: it is refused, or held already
  module _ (at : ℕ) (counted : g.octets ≡ at + held_octets s) where
    quiet : (o : Offered) (b : Bool) (r : Refusal) → o ≡ offered_to capture_kind.table s h → o ≡ cond b (accept s 0) (refuse s r)
        → Measured (offering capture_kind s h).session (at + length (offering capture_kind s h).octets) g
    unfolding taken_of accept refuse
    quiet o b r e q = rw (offering-as s h _ (sym q ∙ e)) (go b)
      where
        go : (b : Bool) → let a = taken_of capture_kind s (cond b (accept s 0) (refuse s r)).session (cond b (accept s 0) (refuse s r)).answer in Measured a.session (at + length a.octets) g
        go true = record { marks = ms; room = rs; session = refl; stands = st; form = f; counted = omega arith }
        go false = record { marks = ms; room = rs; session = refl; stands = st; form = f; counted = omega arith }

    refused-measured : (r : Refusal) → d ≡ Err r → Measured (offering capture_kind s h).session (at + length (offering capture_kind s h).octets) g
    unfolding decided_as
    refused-measured r e = quiet (decided_as s fs d) false r offer-is (rw e)

    again-measured : (n : ℕ) → d ≡ Ok (decision.Again n) → Measured (offering capture_kind s h).session (at + length (offering capture_kind s h).octets) g
    unfolding decided_as
    again-measured n e = quiet (decided_as s fs d) (same_bundles (bundle_at holding_shape s.group n) (laid holding_shape fs)) PacketDiffers offer-is (rw e)

  -- ---- it is put into the held group
  module _ (n : ℕ) (e : d ≡ Ok (decision.PutIn n)) where
    abbrev put-session : Session
    put-session = with_group s (with_packet holding_shape s.group n (laid holding_shape fs))

    put_is : decided_as s fs d ≡ accept put-session 0
    unfolding decided_as
    put_is = rw e

    anew : PutsIn g.standing h.payload n
    anew = puts-in g.standing ms rs st h.source h.sequence h.timestamp h.payload n (sym e ∙ x)

    put-fs : fs ≡ anew.fs
    unfolding frames_read
    put-fs = ap frames_read anew.read

    put-packet : IsPacket capture_kind.table anew.l n anew.fs
    put-packet = read_is capture_kind.table (rows-single capture_vocoder) g.standing.form h.payload anew.l n anew.d anew.fs anew.read

    put_full : 1 + length anew.fs + taken 0 anew.fs ≡ length h.payload
    put_full = filled-by anew.l n anew.d anew.fs anew.read

    put_some : s.group.numbers.b ≡ 0 → ⊥
    put_some z = absurd (omega (arith, put-packet.some, anew.many))

    -- octet 0 and the entries are there, and packet n is one of eight
    pub put-fits : (n < 8) × (1 + g.standing.numbers.b ≤ length h.payload)
    put-fits = let y = rw e at (worth.fits ms rs st) in (y.0, omega (arith, put_full, anew.many))

    put-stays : Stays capture_kind.table put-session
    unfolding accept
    put-stays = subst (λ (o : Offered). Stays capture_kind.table o.session) put_is after-stays

    put-held : held_octets put-session ≡ held_octets s + taken 0 anew.fs
    unfolding with_group with_packet held_at
    put-held =
        let after = with_packet holding_shape s.group n (laid holding_shape fs) in
        held-some put-session put-stays.opened put_some
        ∙ ap (λ (y : Holding). length (entries_of (in_time voice y))) (ap (λ (y : List Frame). with_packet holding_shape s.group n (laid holding_shape y)) put-fs)
        ∙ put-pours voice table_fits table-erases s.group (held_keeps s st.opened stays put_some) n
        (omega (arith, put-packet.index_in, anew.length_is)) anew.fs anew.many put-packet.listed anew.unheld
        ∙ ap (λ (i : ℕ). i + taken 0 anew.fs) (sym (held-some s st.opened put_some))

    put-measured : (at size : ℕ) (u : Standing) → g.octets ≡ at + held_octets s → size ≡ length h.payload → u ≡ holding_also g.standing n
        → Measured (offering capture_kind s h).session (at + length (offering capture_kind s h).octets) (record { standing = u; octets = g.octets + (size - 1 - g.standing.numbers.b) })
    unfolding taken_of accept holding_also with_group with_packet
    put-measured at size u c q k =
        rw (offering-as s h (accept put-session 0) (sym put_is ∙ offer-is), k)
        (record {
          marks = put-session.group.marks;
          room = put-session.group.room;
          session = refl;
          stands = record { opened = put-stays.opened; spans = put-stays.shaped };
          form = f;
          counted = omega (arith, put-held, put_full, anew.many);
        })

  -- ---- it begins a group
  module _ (k : GroupNumbers) (n lost : ℕ) (e : d ≡ Ok (decision.Begins k n lost)) where
    abbrev group : Holding
    group = with_packet holding_shape (begun holding_shape s.source k) n (laid holding_shape fs)

    begin-is : decided_as s fs d ≡ accept (with_group s group) lost
    unfolding decided_as begins
    begin-is = rw e

    none-held : s.group.numbers.b ≡ 0
    none-held = let y = rw e at (worth.fits ms rs st) in y.2

    begun-so : Begun g.standing.form h.payload s.source group
    unfolding begins arrival offered_to with_group
    begun-so = go (offered voice s h.source h.sequence h.timestamp h.payload) (offer-ends voice s h.source h.sequence h.timestamp h.payload) (sym begin-is ∙ offer-is)
      where
        group-is : (t : Session) (more : ℕ) → accept (with_group s group) lost ≡ accept t more → group ≡ t.group
        group-is t more q = accepted-group s group t lost more q

        never : {A : Type 0} → is_nothing holding_shape s.group ≡ false → A
        never q = let y = sym (is-vacant g.standing ms rs st none-held) ∙ q in apart (cc)

        by_place : (l m i : ℕ) (gs : List Frame) → read_as capture_kind.table g.standing.form h.payload ≡ packet l m i gs → (o : Offered)
            → Placed holding_shape s (arrival holding_shape h.sequence h.timestamp l m gs) o → accept (with_group s group) lost ≡ o
            → Begun g.standing.form h.payload s.source group
        by_place l m i gs r o (no y c q) j = not-refused s _ lost y (j ∙ q)
        by_place l m i gs r o (again c q) j = never c
        by_place l m i gs r o (put c y a b q) j = never c
        by_place l m i gs r o (first c y q) j =
            record { d = i; numbers = _; m = m; fs = gs; read = r; many = refl; is = group-is _ 0 (j ∙ q) }
        by_place l m i gs r o (next c gy y more a b q) j =
            record { d = i; numbers = _; m = m; fs = gs; read = r; many = refl; is = group-is _ more (j ∙ q) }

        go : (o : Offered) → Ends voice s h.source h.sequence h.timestamp h.payload o → accept (with_group s group) lost ≡ o
            → Begun g.standing.form h.payload s.source group
        go o (refuses r c q) j = not-refused s _ lost r (j ∙ q)
        go o (places a b l m i gs r y) j = by_place l m i gs r o y j

    begin-packet : IsPacket capture_kind.table begun-so.numbers.l begun-so.m begun-so.fs
    begin-packet =
        read_is capture_kind.table (rows-single capture_vocoder) g.standing.form h.payload begun-so.numbers.l begun-so.m begun-so.d begun-so.fs begun-so.read

    begin-full : 1 + length begun-so.fs + taken 0 begun-so.fs ≡ length h.payload
    begin-full = filled-by begun-so.numbers.l begun-so.m begun-so.d begun-so.fs begun-so.read

    same_length : k.l ≡ begun-so.numbers.l
    unfolding with_packet begun
    same_length = ap (λ (y : Holding). y.numbers.l) begun-so.is

    same-many : k.b ≡ begun-so.numbers.b
    unfolding with_packet begun
    same-many = ap (λ (y : Holding). y.numbers.b) begun-so.is

    -- octet 0 and the entries are there, packet n is one of eight, and the lost frames and the places are few
    pub begin-fits : (n < 8) × (1 + k.b ≤ length h.payload) × (lost ≤ minute) × ((k.l + 1) * k.b ≤ 80)
    unfolding lost_in accept
    begin-fits =
        let y = rw e at (worth.fits ms rs st) in
        let c : lost_in (offered_to capture_kind.table s h).answer ≡ lost = ap (λ (o : Offered). lost_in o.answer) (sym offer-is ∙ begin-is) in
        let low : k.l + 1 ≤ 8 = omega (arith, begin-packet.length_small, same_length) in
        let few : k.b ≤ 10 = omega (arith, begin-packet.few, same-many, begun-so.many) in
        (y.0, omega (arith, begin-full, same-many, begun-so.many), omega (arith, lost-few capture_kind.table s h, c), mul-le-mul {n₁ = k.l + 1} {m₁ = k.b} {n₂ = 8} {m₂ = 10} low few)

    begin-stays : Stays capture_kind.table (with_group s group)
    unfolding accept
    begin-stays = subst (λ (o : Offered). Stays capture_kind.table o.session) begin-is after-stays

    begin-some : group.numbers.b ≡ 0 → ⊥
    unfolding with_packet begun
    begin-some z = absurd (omega (arith, begin-packet.some, begun-so.many, same-many))

    begin-held : held_octets (with_group s group) ≡ (k.l + 1) * k.b + taken 0 begun-so.fs
    unfolding with_group
    begin-held =
        let b = begun-so in
        let i = begin-packet in
        let c : b.numbers.b ≡ length b.fs = sym b.many in
        let some : 1 ≤ b.numbers.b = omega (arith, i.some) in
        let few : b.numbers.b ≤ 10 = omega (arith, i.few) in
        let keeps = begun-keeps voice s.source b.numbers i.length_small some few in
        held-some (with_group s group) begin-stays.opened begin-some
        ∙ ap (λ (y : Holding). length (entries_of (in_time voice y))) b.is
        ∙ put_first s.source b.numbers keeps b.m i.index_in b.fs b.many i.listed (begun-lost voice s.source b.numbers b.m (omega (arith, i.index_in, i.length_small)))
        ∙ ap (λ (j : ℕ). j + taken 0 b.fs) (begun-pours voice table_fits table-erases s.source b.numbers i.length_small some few
        ∙ mul_comm b.numbers.b (b.numbers.l + 1)
        ∙ sym (ap₂ (λ (l m : ℕ). (l + 1) * m) same_length same-many))

    begin-measured : (at size : ℕ) (u : Standing) → g.octets ≡ at + held_octets s → size ≡ length h.payload → u ≡ begun_with g.standing k n
        → Measured (offering capture_kind s h).session (at + length (offering capture_kind s h).octets)
        (record { standing = u; octets = g.octets + lost + (k.l + 1) * k.b + (size - 1 - k.b) })
    unfolding taken_of accept begun_with with_group with_packet begun
    begin-measured at size u c q j =
        let none = held_none s st.opened none-held in
        let gone = length-replicate lost capture_kind.erasure in
        rw (offering-as s h (accept (with_group s group) lost) (sym begin-is ∙ offer-is), j)
        (record {
          marks = group.marks;
          room = group.room;
          session = refl;
          stands = record { opened = begin-stays.opened; spans = begin-stays.shaped };
          form = f;
          counted = omega (arith, begin-held, begin-full, same-many, begun-so.many, none, gone);
        })

-- the standing after its group is ended, whatever was held
abbrev EndedAs : Standing → Standing → Type 0
EndedAs t u = (ms rs : List ℕ) → whole u (nothing holding_shape).marks (nothing holding_shape).room ≡ ended holding_shape (whole t ms rs)

-- ---- the same, of a measuring run
counted-so : (g : Going) (s : Session) (at : ℕ) (m : Measured s at g) → g.octets ≡ at + held_octets (whole g.standing m.marks m.room)
counted-so g s at m = m.counted ∙ ap (λ (y : Session). at + held_octets y) (sym m.session)

module _ (g : Going) (h : Heard) (d : Result Decision Refusal) (x : DecidesOf g.standing h d) where
  -- octet 0 and the entries are there, packet n is one of eight, and the lost frames and the places are few
  pub weigh-begun : (k : GroupNumbers) (n lost : ℕ) → d ≡ Ok (decision.Begins k n lost) → Measures g
      → (n < 8) × (1 + k.b ≤ length h.payload) × (lost ≤ minute) × ((k.l + 1) * k.b ≤ 80)
  weigh-begun k n lost e m = begin-fits g m.so.marks m.so.room m.so.stands m.so.form h d x k n lost e

  pub weigh-put : (n : ℕ) → d ≡ Ok (decision.PutIn n) → Measures g → (n < 8) × (1 + g.standing.numbers.b ≤ length h.payload)
  weigh-put n e m = put-fits g m.so.marks m.so.room m.so.stands m.so.form h d x n e

  abbrev After : Going → ℕ → Session → Type 0
  After r at s = Measured (offering capture_kind s h).session (at + length (offering capture_kind s h).octets) r

  pub weighs-refused : (r : Refusal) → d ≡ Err r → Weighs (λ s. offering capture_kind s h) g g
  weighs-refused r e s at m = subst (After g at) m.session (refused-measured g m.marks m.room m.stands m.form h d x at (counted-so g s at m) r e)

  pub weighs-again : (n : ℕ) → d ≡ Ok (decision.Again n) → Weighs (λ s. offering capture_kind s h) g g
  weighs-again n e s at m = subst (After g at) m.session (again-measured g m.marks m.room m.stands m.form h d x at (counted-so g s at m) n e)

  pub weighs-put : (n size : ℕ) (u : Standing) → d ≡ Ok (decision.PutIn n) → size ≡ length h.payload → u ≡ holding_also g.standing n
      → Weighs (λ s. offering capture_kind s h) g (record { standing = u; octets = g.octets + (size - 1 - g.standing.numbers.b) })
  weighs-put n size u e q j s at m =
      subst (After _ at) m.session (put-measured g m.marks m.room m.stands m.form h d x n e at size u (counted-so g s at m) q j)

  pub weighs-begun : (k : GroupNumbers) (n lost size : ℕ) (u : Standing) → d ≡ Ok (decision.Begins k n lost) → size ≡ length h.payload → u ≡ begun_with g.standing k n
      → Weighs (λ s. offering capture_kind s h) g (record { standing = u; octets = g.octets + lost + (k.l + 1) * k.b + (size - 1 - k.b) })
  weighs-begun k n lost size u e q j s at m =
      subst (After _ at) m.session (begin-measured g m.marks m.room m.stands m.form h d x k n lost e at size u (counted-so g s at m) q j)

  -- ---- its group is ended: what it pours was counted
  pour-measured : (s : Session) (at : ℕ) → Measured s at g → (u : Standing) → EndedAs g.standing u
      → is_nothing holding_shape s.group ≡ false
      → Measured (pouring capture_kind.table s).session (at + length (pouring capture_kind.table s).octets) (record { standing = u; octets = g.octets })
  unfolding ended held_octets nothing begun
  pour-measured s at m u e q =
      let o : is_open voice s ≡ true = rw (← m.session) m.stands.opened in
      let k : (pouring capture_kind.table s).session ≡ ended holding_shape s = pouring-ends capture_kind.table h s o q in
      let c : whole u (nothing holding_shape).marks (nothing holding_shape).room ≡ ended holding_shape s = e m.marks m.room ∙ ap (ended holding_shape) m.session in
      let y = ended-open voice s o (group-has voice s (open-has voice s o).group q).0 in
      let none = held_none (ended holding_shape s) y refl in
      let flags : u.held ≡ replicate 8 false = ap (λ (z : Session). z.group.held) c in
      rw k
      (record {
        marks = (nothing holding_shape).marks;
        room = (nothing holding_shape).room;
        session = c;
        stands =
            record {
              opened = rw (c) y;
              spans = record { long_held = ap length flags ∙ length-replicate 8 false; long_marks = length-replicate {A = ℕ} 80 erasure; long_room = length-replicate {A = ℕ} 1760 0 };
            };
        form = ap (λ (z : Session). z.form) (e m.marks m.room) ∙ m.form;
        counted = m.counted ∙ omega (arith, none);
      })

  -- ---- whether it is 12, and what is done then
  module _ (b : Bool) (asked : (y : Session) (fs : List Frame) → b ≡ is_twelve (decided_as y fs d).answer) where
    twelve : (s : Session) (at : ℕ) → Measured s at g → b ≡ is_twelve (offered_to capture_kind.table s h).answer
    twelve s at m =
        later-is g.standing m.marks m.room m.stands h d x b asked ∙ ap (λ (y : Session). is_twelve (offered_to capture_kind.table y h).answer) m.session

    once-ready : b ≡ false → Weighs (λ s. readied capture_kind s h) g g
    unfolding readied
    once-ready q s at m =
        let z : is_twelve (offered_to capture_kind.table s h).answer ≡ false = sym (twelve s at m) ∙ q in
        rw z (record { marks = m.marks; room = m.room; session = m.session; stands = m.stands; form = m.form; counted = omega (arith, m.counted) })

    later-ready : (u : Standing) → EndedAs g.standing u → b ≡ true
        → Weighs (λ s. readied capture_kind s h) g (record { standing = u; octets = g.octets })
    unfolding readied
    later-ready u e q s at m =
        let z : is_twelve (offered_to capture_kind.table s h).answer ≡ true = sym (twelve s at m) ∙ q in
        rw z (pour-measured s at m u e (twelve-held capture_kind.table h s z).1)

    -- the step: what is done before, and then the offer
    step_then : (p r : Going) → Weighs (λ s. readied capture_kind s h) g p → Weighs (λ s. offering capture_kind s h) p r → Weighs (λ s. step_of capture_kind s h) g r
    unfolding step_of and_then
    step_then p r y z s at m =
        let a = readied capture_kind s h in
        let o = offering capture_kind a.session h in
        rw (length-append a.octets o.octets, ← add_assoc) (z a.session (at + length a.octets) (y s at m))

    pub step-once : (r : Going) → b ≡ false → Weighs (λ s. offering capture_kind s h) g r → Weighs (λ s. step_of capture_kind s h) g r
    step-once r q z = step_then g r (once-ready q) z

    module _ (u : Standing) (e : EndedAs g.standing u) (q : b ≡ true) where
      pub later-measures : Measures g → Measures (record { standing = u; octets = g.octets })
      later-measures m = record { session = _; recorded = _; so = later-ready u e q m.session m.recorded m.so }

      pub step-later : (r : Going) → Weighs (λ s. offering capture_kind s h) (record { standing = u; octets = g.octets }) r → Weighs (λ s. step_of capture_kind s h) g r
      step-later r z = step_then (record { standing = u; octets = g.octets }) r (later-ready u e q) z

-- ---- the run over the packets, one after the other
abbrev pub run_to : List ℕ → ℕ → Step
run_to c i = run_of capture_kind (first_session (packets_in c)) (up_to (heard_at c) i)

-- after i packets
abbrev pub Ran : List ℕ → ℕ → Going → Type 0
Ran c i g = Measured (run_to c i).session (7 + length (run_to c i).octets) g

module _ (c : List ℕ) where
  pub run-begun : (g : Going) → Measured (first_session (packets_in c)) 7 g → Ran c 0 g
  unfolding run_of up_to
  run-begun g m = m

  pub run-further : (i : ℕ) (g r : Going) → Ran c i g → Weighs (λ s. step_of capture_kind s (heard_at c i)) g r → Ran c (i + 1) r
  unfolding and_then
  run-further i g r m w =
      let a = run_to c i in
      let b = step_of capture_kind a.session (heard_at c i) in
      rw (run_more capture_kind (first_session (packets_in c)) (heard_at c) i, length-append a.octets b.octets, ← add_assoc) (w a.session (7 + length a.octets) m)

  pub ran-measures : (i : ℕ) (g : Going) → Ran c i g → Measures g
  ran-measures i g m = record { session = _; recorded = _; so = m }

  -- what is counted is what is recorded, and what the held group pours
  counted-all : (i : ℕ) (g : Going) → Ran c i g → g.octets ≡ 7 + length (and_then (run_to c i) (pouring capture_kind.table)).octets
  unfolding and_then held_octets
  counted-all i g m =
      let a = run_to c i in
      m.counted ∙ omega (arith, length-append a.octets (pouring capture_kind.table a.session).octets)

  pub ran-few : good c ≡ true → (i n : ℕ) (g : Going) → n ≡ count_of c → i ≤ n → Ran c i g → g.octets ≤ largest
  ran-few e i n g q h m =
      let few : length (up_to (heard_at c) i) ≤ 256 = omega (arith, length-upTo (heard_at c) i, (good-is c e).few) in
      omega (arith, counted-all i g m, all-few capture_kind table_fits table-erases (packets_in c) (up_to (heard_at c) i) few)

  pub ran-all : (i n : ℕ) (g : Going) → n ≡ count_of c → i ≡ n → Ran c i g → g.octets ≡ length (capture_recording capture_kind c)
  unfolding capture_recording entries_recorded whole_run packets_in
  ran-all i n g q h m =
      let ys = (and_then (run_to c (count_of c)) (pouring capture_kind.table)).octets in
      let e : i ≡ count_of c = h ∙ q in
      counted-all i g m
      ∙ ap (λ (j : ℕ). 7 + length (and_then (run_to c j) (pouring capture_kind.table)).octets) e
      ∙ sym (length-append capture_kind.opening ys)

  -- the first session
  pub begun-measured : (n : ℕ) → n ≡ count_of c → (n ≡ 0 → ⊥) → (u : Standing)
      → whole u (nothing holding_shape).marks (nothing holding_shape).room ≡ fresh holding_shape (heard_at c 0).source capture_form
      → Measured (first_session (packets_in c)) 7 (record { standing = u; octets = 7 })
  unfolding fresh vacant nothing begun
  begun-measured n e z u q =
      let st = first-stands c n e z u q in
      let w = first-whole c n e z u q in
      let none = held_none (whole u (replicate 80 erasure) (replicate 1760 0)) st.opened (ap (λ (s : Session). s.group.numbers.b) q) in
      record {
        marks = replicate 80 erasure;
        room = replicate 1760 0;
        session = w;
        stands = st;
        form = ap (λ (s : Session). s.form) q;
        counted = omega (arith, none, ap held_octets w);
      }
