-- Demand 1 and document 01, "Session": what holds of every session. Over any shape and frame table.
use Rattle.std.specs.Prelude.{ℕ, ◌+◌, ◌≡◌, List, [], ◌∷◌, true, false, cond, length, Ok, Err}
use denote.Triple.Clauses.{AtExit}
use contract.Lifetimes.{Lfts}
use borrow.Fn.Kinds.{Dens, res_t, ended_of}
use Rattle.session.proofs.end.Kinds as session-end-kinds
use Rattle.session.proofs.end.Reads as session-end
use Rattle.frame.specs.FrameTable.{Frame}
use Rattle.frame.specs.Shape.{Shape, Voice, holding_shape}
use Rattle.answers.specs.Outputs.{octets}
use Rattle.form.specs.declared.Form.{Form}
use Rattle.answers.specs.declared.Refusal.{Refusal}
use Rattle.answers.specs.declared.Refusal.TheVariants.{AnotherSource, NotApplicable}
use Rattle.payload.specs.Payload.{packet, read_as}
use Rattle.numbers.specs.Bases.{minus, base_sequence, base_timestamp}
use Rattle.numbers.specs.declared.GroupNumbers.{GroupNumbers}
use Rattle.holding.specs.Group.{is_nothing, held_at, bundle_at}
use Rattle.bundle.specs.LaidOut.{laid}
use Rattle.pouring.specs.Pouring.{in_time, poured}
use Rattle.holding.specs.declared.Holding.{Holding}
use Rattle.session.specs.Session.{never_opened, fresh, form_right, opened_for, is_open, refuse, accept, lost_after, begins, arrival}
use Rattle.session.specs.Session.{offered}
use Rattle.session.specs.declared.Session.{Session}

-- "Every refused offer leaves the session as it was."
unfoldable pub RefusedOfferChangesNothing : Type 0
RefusedOfferChangesNothing =
    (v : Voice) (s : Session) (source sequence timestamp : ℕ) (p : List ℕ) (r : Refusal) →
    (offered v s source sequence timestamp p).answer ≡ Err r → (offered v s source sequence timestamp p).session ≡ s

-- a packet from another source is answered 10, whatever its payload holds
unfoldable pub AnotherSourceIs10 : Type 0
AnotherSourceIs10 =
    (v : Voice) (s : Session) → is_open v s ≡ true → (source sequence timestamp : ℕ) → (source ≡ s.source → ⊥) →
    (p : List ℕ) → offered v s source sequence timestamp p ≡ refuse s AnotherSource

-- its payload is not looked at: two such offers that differ in it alone are answered alike
unfoldable pub AnotherSourcesWordsAreNotHeard : Type 0
AnotherSourcesWordsAreNotHeard =
    (v : Voice) (s : Session) (source sequence timestamp : ℕ) → (source ≡ s.source → ⊥) →
    (p q : List ℕ) → offered v s source sequence timestamp p ≡ offered v s source sequence timestamp q

-- an opening forgets: what the session was before it does not matter
unfoldable pub OpeningForgets : Type 0
OpeningForgets =
    (shape : Shape) (s t : Session) (source : ℕ) (form : Form) → form_right form ≡ true →
    (opened_for shape s source form ≡ opened_for shape t source form) × ((opened_for shape s source form).session ≡ fresh shape source form)

-- an ending forgets: whatever the session was, it is one never opened (over the contract of `session::end` itself)
unfoldable pub EndingForgets : Type 0
EndingForgets =
    (κs : Lfts 1) (a : Dens κs session-end-kinds.ps) (x : (res_t session-end-kinds.r κs).Denot)
    (s : AtExit (ended_of 1 session-end-kinds.ps session-end-kinds.r) κs) → session-end.Post κs a x s → s.0.now ≡ never_opened holding_shape

-- a session never opened, or ended, takes nothing: 21 whatever is offered
unfoldable pub EndedTakesNothing : Type 0
EndedTakesNothing =
    (v : Voice) (source sequence timestamp : ℕ) (p : List ℕ) →
    offered v (never_opened v.shape) source sequence timestamp p ≡ refuse (never_opened v.shape) NotApplicable

-- so the next skipper's words meet no old group: the first packet that is read begins a group of its own, and nothing is lost before it
unfoldable pub FirstPacketBeginsAlone : Type 0
FirstPacketBeginsAlone =
    (v : Voice) (source : ℕ) (form : Form) → form_right form ≡ true →
    (sequence timestamp : ℕ) (p : List ℕ) (l n d : ℕ) (fs : List Frame) →
    read_as v.table form p ≡ packet l n d fs →
    offered v (fresh v.shape source form) source sequence timestamp p
    ≡ begins v.shape (fresh v.shape source form) (arrival v.shape sequence timestamp l n fs) 0

-- a packet that the session holds already: of the held group, its numbers the same, its frames those that are held
pub record Repeat (v : Voice) (s : Session) (sequence timestamp l n : ℕ) (fs : List Frame) : Type 0 where
  pub some : is_nothing v.shape s.group ≡ false
  pub base : minus 16 (base_sequence sequence n) s.group.numbers.sequence ≡ 0
  pub time : base_timestamp timestamp n ≡ s.group.numbers.timestamp
  pub same_length : l ≡ s.group.numbers.l
  pub same_bundle : length fs ≡ s.group.numbers.b
  pub held : held_at s.group n ≡ true
  pub frames : bundle_at v.shape s.group n ≡ laid v.shape fs

-- a repeat is accepted and changes nothing, whatever the D and RR of its payload
unfoldable pub RepeatChangesNothing : Type 0
RepeatChangesNothing =
    (v : Voice) (s : Session) → is_open v s ≡ true →
    (sequence timestamp l n d : ℕ) (fs : List Frame) → Repeat v s sequence timestamp l n fs →
    (p : List ℕ) → read_as v.table s.form p ≡ packet l n d fs → offered v s s.source sequence timestamp p ≡ accept s 0

-- the lost frames that an accepted packet of these numbers reports, if it begins a group after a poured one: (02, ii) "(new base
-- timestamp - (old base timestamp + 160 x (L + 1) x B)) modulo 4,294,967,296, divided by 160"
abbrev pub lost_before : Shape → Session → GroupNumbers → ℕ
lost_before shape s new = cond (is_nothing shape s.group) (lost_after s.last new) 0

-- "the answer reports .. lost frames before it": no other number is ever reported
unfoldable pub LostFramesByFormula : Type 0
LostFramesByFormula =
    (v : Voice) (s : Session) (source sequence timestamp : ℕ) (p : List ℕ) (l n d : ℕ) (fs : List Frame) →
    read_as v.table s.form p ≡ packet l n d fs → (lost : ℕ) → (offered v s source sequence timestamp p).answer ≡ Ok lost →
    lost ≡ lost_before v.shape s (arrival v.shape sequence timestamp l n fs).numbers

-- the octets of the bodies of frames
abbrev pub body_octets : List Frame → ℕ
body_octets [] = 0
body_octets (f ∷ fs) = length f.body + body_octets fs

-- the octet count of a poured holding: an octet for each place, and the bodies
unfoldable pub OctetCountByFormula : Type 0
OctetCountByFormula =
    (v : Voice) (h : Holding) (w : List ℕ) → poured v h ≡ octets w → length w ≡ length (in_time v h) + body_octets (in_time v h)
