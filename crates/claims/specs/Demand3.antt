-- Demand 3, from end to end: "Take one interleave group written by our writer, numbered and stamped as document 01 says, and a session
-- ready for it, of the form it was written in, under limits that admit it. Offer at least one of its packets, any of them, in any order,
-- repeats allowed. Poured into a buffer with room, each place has the original frame if its packet was offered and an erasure if not."
-- Over any builds of the calls that meet their contracts: whatever is written, offered and poured goes through these.
use Rattle.std.specs.Prelude.{ℕ, ◌+◌, ◌*◌, ◌≤◌, ◌<◌, ◌≡◌, List, [], ◌∷◌, ◌++◌, length, take, drop, Result, Ok}
use Rattle.answers.specs.declared.Refusal.{Refusal}
use Rattle.form.specs.declared.Form.{Form}
use Rattle.form.specs.declared.Form.TheVariants.{HeaderFree, Interleaved}
use Rattle.form.specs.declared.Limits.{Limits}
use Rattle.form.specs.Agreed.{vocoder_of, voice_for}
use Rattle.frame.specs.FrameTable.{Frame}
use Rattle.entries.specs.Kind.{kind_of}
use Rattle.entries.specs.Entries.{entries_of}
use Rattle.numbers.specs.declared.GroupNumbers.{GroupNumbers}
use Rattle.packet.specs.Packet.{group_in}
use Rattle.session.specs.Session.{Offered}
use Rattle.session.specs.declared.Session.{Session}
use Rattle.landing.specs.Host.{named_form}
use Rattle.lending.specs.Laid.{session_in}
use Rattle.claims.specs.Call.{Outcome, Build, WithPlace}
use Rattle.claims.specs.Calls.Lent.{LentOut, LentSession, LentSessionLost}
use Rattle.claims.specs.Calls.Landing as landing
use Rattle.claims.specs.Calls.Packet as packet
use Rattle.claims.specs.Calls.Session as session
use Rattle.claims.specs.Sessions.{lost_before, body_octets}
use Rattle.claims.specs.Offering.{numbered, stamped, Ready, Within, PouredPlaces}
use Rattle.claims.specs.Sending.{AdmitsIn}
use Rattle.claims.specs.Missing.{OneMissing, Spread}

-- a writer answered the count of these octets, and they stand first in its buffer
pub record Wrote (x : (Result ℕ Refusal) × LentOut) (w : List ℕ) : Type 0 where
  pub count : x.0 ≡ Ok (length w)
  pub front : take (length w) x.1.out ≡ w

-- "our writer": a build of each of its two calls
pub record Writers : Type 0 where
  pub write : Build packet.write
  pub write_header_free : Build packet.write_header_free

-- "written by our writer": how the packets of a group of these numbers and frames came to be
pub data ByWriter (writers : Writers) (g : GroupNumbers) (frames : List Frame) (payload : ℕ → List ℕ) : Type 0 where
  -- each as `packet::write` wrote it, of the same entries, into some buffer
  interleaved :
      (limits : Limits) (entries : List ℕ) (d : ℕ → ℕ) (buffer : ℕ → List ℕ) →
      group_in (kind_of (vocoder_of (Interleaved limits))) entries ≡ frames →
      ((n : ℕ) → n ≤ g.l →
      Wrote (writers.write.run (Interleaved limits, (g.l, (n, (g.b, (d n, entries))))) (record { out = buffer n })) (payload n)) →
      ByWriter writers g frames payload
  -- or the one packet of one frame, as `packet::write_header_free` wrote it
  headerFree :
      (entries buffer w : List ℕ) → group_in (kind_of (vocoder_of HeaderFree)) entries ≡ frames → g.l ≡ 0 → g.b ≡ 1 →
      Wrote (writers.write_header_free.run (HeaderFree, entries) (record { out = buffer })) w → ((n : ℕ) → payload n ≡ w) →
      ByWriter writers g frames payload

-- "of the form it was written in, under limits that admit it"
unfoldable pub forms_of : {writers : Writers} {g : GroupNumbers} {frames : List Frame} {payload : ℕ → List ℕ} →
    ByWriter writers g frames payload → Form → Type 0
forms_of {g = g} (interleaved limits entries d buffer e w) form = AdmitsIn g.l g.b form
forms_of (headerFree entries buffer w e l b x p) form = form ≡ HeaderFree

-- "one interleave group written by our writer", with its original frames in time order
pub record WrittenGroup (writers : Writers) : Type 0 where
  pub source : ℕ
  pub numbers : GroupNumbers
  pub frames : List Frame
  pub payload : ℕ → List ℕ
  pub sequence_fits : numbers.sequence < 65536
  pub timestamp_fits : numbers.timestamp < 4294967296
  pub written : ByWriter writers numbers frames payload

-- its packet n, offered through `session::offer`: the answer, and the session that was lent
abbrev pub offer_through : {writers : Writers} → Build session.offer → WrittenGroup writers → Session → ℕ → Offered
offer_through offer g s n =
    let r = offer.run (g.source, (numbered g.numbers n, (stamped g.numbers n, g.payload n))) (record { session = s }) in
    record { answer = r.0; session = r.1.session }

-- its packets of these numbers, one after the other
unfoldable pub offer_all_through : {writers : Writers} → Build session.offer → WrittenGroup writers → Session → List ℕ → Session
offer_all_through offer g s [] = s
offer_all_through offer g s (n ∷ ns) = offer_all_through offer g (offer_through offer g s n).session ns

-- every offer is accepted; the first reports these lost frames, the others none
unfoldable pub AcceptedThrough : {writers : Writers} → Build session.offer → WrittenGroup writers → Session → ℕ → List ℕ → Type 0
AcceptedThrough offer g s lost [] = Unit {0}
AcceptedThrough offer g s lost (n ∷ ns) =
    ((offer_through offer g s n).answer ≡ Ok lost) × AcceptedThrough offer g (offer_through offer g s n).session 0 ns

-- the frames of every place, where these packets were offered
pub record Restored {writers : Writers} (g : WrittenGroup writers) (ns : List ℕ) (frames : List Frame) : Type 0 where
  pub places : PouredPlaces frames g.frames g.numbers.l g.numbers.b ns
  pub octet_count : length (entries_of frames) ≡ (g.numbers.l + 1) * g.numbers.b + body_octets frames
  -- "If exactly one packet of two or more is missing, exactly as many erasures stand there as a packet has frames, and no two are
  -- neighbours."
  pub one_missing : (x : ℕ) → OneMissing g.numbers.l ns x → Spread frames g.numbers.b

-- "a buffer with room" then has these frames as recording entries, and octets past them as they were
abbrev pub poured_into : List ℕ → List Frame → List ℕ
poured_into out frames = entries_of frames ++ drop (length (entries_of frames)) out

-- what `session::pour` answers and leaves
pub record PouredThrough {writers : Writers} (pour : Build session.pour) (g : WrittenGroup writers) (s : Session) (ns : List ℕ)
    : Type 0 where
  pub frames : List Frame
  pub restored : Restored g ns frames
  pub answered : (out : List ℕ) → length (entries_of frames) ≤ length out →
      (pour.run tt (record { session = s; out = out })).0 ≡ Ok (length (entries_of frames))
  pub poured : (out : List ℕ) → length (entries_of frames) ≤ length out →
      (pour.run tt (record { session = s; out = out })).1.out ≡ poured_into out frames

-- the third demand of the order, of one group
unfoldable pub Demand3 : Type 0
Demand3 =
    (writers : Writers) (offer : Build session.offer) (pour : Build session.pour) →
    (g : WrittenGroup writers) (form : Form) → forms_of g.written form →
    (s : Session) → Ready (voice_for form) form s g.source g.numbers →
    (n : ℕ) (ns : List ℕ) → Within g.numbers.l (n ∷ ns) →
    AcceptedThrough offer g s (lost_before (voice_for form).shape s g.numbers) (n ∷ ns)
    × PouredThrough pour g (offer_all_through offer g s (n ∷ ns)) (n ∷ ns)

-- ---- the same through the C calls, on octets that a host lends

-- what is lent to `lv_session_offer`: the place of a fault; the session, and the lost frames
abbrev pub LentOffer : Type 0
LentOffer = WithPlace LentSessionLost

-- its packet n, offered through `lv_session_offer`
abbrev pub host_offer :
    {writers : Writers} → Build landing.lv_session_offer → WrittenGroup writers → LentOffer → ℕ → ℕ × LentOffer
host_offer offer g o n = offer.run (g.source, (numbered g.numbers n, (stamped g.numbers n, g.payload n))) o

-- its packets of these numbers, one after the other
unfoldable pub host_offer_all :
    {writers : Writers} → Build landing.lv_session_offer → WrittenGroup writers → LentOffer → List ℕ → LentOffer
host_offer_all offer g o [] = o
host_offer_all offer g o (n ∷ ns) = host_offer_all offer g (host_offer offer g o n).1 ns

-- every answer is 0; the first tells these lost frames, the others none
unfoldable pub HostAccepted :
    {writers : Writers} → Build landing.lv_session_offer → WrittenGroup writers → LentOffer → ℕ → List ℕ → Type 0
HostAccepted offer g o lost [] = Unit {0}
HostAccepted offer g o lost (n ∷ ns) =
    ((host_offer offer g o n).0 ≡ 0)
    × (((host_offer offer g o n).1.rest.lost ≡ lost) × HostAccepted offer g (host_offer offer g o n).1 0 ns)

-- what `lv_session_pour` answers and leaves
pub record HostPoured {writers : Writers} (pour : Build landing.lv_session_pour) (g : WrittenGroup writers) (o : List ℕ) (ns : List ℕ)
    : Type 0 where
  pub frames : List Frame
  pub restored : Restored g ns frames
  pub told : (out : List ℕ) (written : ℕ) → length (entries_of frames) ≤ length out →
      let r = pour.run tt (record { session = o; out = out; written = written }) in
      (r.0 ≡ 0) × ((r.1.written ≡ length (entries_of frames)) × (r.1.out ≡ poured_into out frames))

-- the third demand, as a host sees it
unfoldable pub HostDemand3 : Type 0
HostDemand3 =
    (writers : Writers) (offer : Build landing.lv_session_offer) (pour : Build landing.lv_session_pour) →
    (g : WrittenGroup writers) (form : Form) → forms_of g.written form → (o : LentOffer) →
    Ready (voice_for form) form (session_in o.rest.session) g.source g.numbers →
    (n : ℕ) (ns : List ℕ) → Within g.numbers.l (n ∷ ns) →
    HostAccepted offer g o (lost_before (voice_for form).shape (session_in o.rest.session) g.numbers) (n ∷ ns)
    × HostPoured pour g (host_offer_all offer g o (n ∷ ns)).rest.session (n ∷ ns)

-- ---- "a session ready for it": one that was just opened, through `session::open` or `lv_session_open`, for every group of its source
pub record OpenedIsReady : Type 0 where
  pub opened : (s after : Session) (source : ℕ) (form : Form) →
      Outcome session.«open» (source, form) (record { session = s }) (Ok tt) (record { session = after }) →
      (g : GroupNumbers) → Ready (voice_for form) form after source g
  pub host : (source named l b : ℕ) (form : Form) → named_form named l b ≡ Ok form → (o after : LentSession) →
      Outcome landing.lv_session_open (source, (named, (l, b))) o 0 after →
      (g : GroupNumbers) → Ready (voice_for form) form (session_in after.session) source g
