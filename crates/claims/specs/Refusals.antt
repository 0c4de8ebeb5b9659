-- Demand 1, of the calls in Rattle: "Each call answers, or refuses by a number in document 01. A refusal changes no session and no octet of
-- a lent buffer. A packet from another source is refused before its payload is looked at." Over the contracts' own reading.
use Rattle.std.specs.Prelude.{ℕ, ◌≤◌, ◌≡◌, List, true, ◌⊎◌, Option, Some, None, Result, Ok, Err}
use contract.Lifetimes.{Lfts}
use Rattle.answers.specs.Answers.{number_of}
use Rattle.answers.specs.declared.Refusal.{Refusal}
use Rattle.answers.specs.declared.Refusal.TheVariants as refusal
use Rattle.form.specs.Agreed.{voice_for}
use Rattle.holding.specs.declared.Holding.{Holding}
use Rattle.session.specs.Session.{is_open}
use Rattle.session.specs.declared.Session.{Session}
use Rattle.lending.specs.Laid.{session_in, session_voice}
use Rattle.claims.specs.Call.{Call, WithPlace, Passed, Returned, Ended, Outcome}
use Rattle.claims.specs.Calls.Lent.{LentSessionLost}
use Rattle.claims.specs.Calls.Recording as recording
use Rattle.claims.specs.Calls.Packet as packet
use Rattle.claims.specs.Calls.Pouring as pouring
use Rattle.claims.specs.Calls.Joining as joining
use Rattle.claims.specs.Calls.Session as session
use Rattle.claims.specs.Calls.Capture as capture
use Rattle.claims.specs.Calls.Lending as lending
use Rattle.claims.specs.Calls.Landing as landing

-- "a number in document 01": 1 to 21; or one of document 02: 24, of (ii)
unfoldable pub RefusalsAreNumbered : Type 0
RefusalsAreNumbered = (r : Refusal) → ((1 ≤ number_of r) × (number_of r ≤ 21)) ⊎ (number_of r ≡ 24)

-- the answers that are refusals
abbrev pub Refused : {A E : Type 0} → Result A E → Type 0
Refused (Ok x) = ⊥
Refused (Err e) = Unit {0}

-- whatever is passed, and whatever the contract allows: where the answer is a refusal, all that was lent is as it was
pub record Kept (call : Call) (IsRefused : call.Answer → Type 0) : Type 0 where
  pub so : {κs : Lfts call.lifetimes} {a : Passed call κs} {x : Returned call κs} {s : Ended call κs} →
      call.allows κs a x s → IsRefused (call.answer κs x) → call.left κs s ≡ call.lent κs a

-- the holding that an answer gives, if it gives one
abbrev pub given_in : Result Holding Refusal → Option Holding
given_in (Ok h) = Some h
given_in (Err r) = None

-- the same of a call that gives a holding: a refused one gives none
pub record GivesNone (call : Call) (IsRefused : call.Answer → Type 0) (given : call.Answer → Option Holding) : Type 0 where
  pub so : {κs : Lfts call.lifetimes} {a : Passed call κs} {x : Returned call κs} {s : Ended call κs} →
      call.allows κs a x s → IsRefused (call.answer κs x) →
      (call.left κs s ≡ call.lent κs a) × (given (call.answer κs x) ≡ None)

-- every call that can refuse and is lent something, or gives a holding
pub record RattleDemand1 : Type 0 where
  pub recording_write : Kept recording.write Refused
  pub packet_write : Kept packet.write Refused
  pub packet_write_agreed : Kept packet.write_agreed Refused
  pub packet_write_header_free : Kept packet.write_header_free Refused
  pub pouring_pour : Kept pouring.pour Refused
  pub pouring_pour_held : Kept pouring.pour_held Refused
  pub pouring_pour_held_in : Kept pouring.pour_held_in Refused
  pub capture_record : Kept capture.record Refused
  pub joining_join : GivesNone joining.join Refused given_in
  pub session_open : Kept session.«open» Refused
  pub session_open_agreed : Kept session.open_agreed Refused
  pub session_offer : Kept session.offer Refused
  pub session_take : Kept session.take Refused
  pub session_pour : Kept session.pour Refused
  pub session_drop_group : Kept session.drop_group Refused
  pub session_copy_out : GivesNone session.copy_out Refused given_in
  pub lending_open : Kept lending.«open» Refused
  pub lending_offer : Kept lending.offer Refused
  pub lending_pour : Kept lending.pour Refused
  pub lending_drop_group : Kept lending.drop_group Refused
  pub lending_copy_out : Kept lending.copy_out Refused
  pub lending_end : Kept lending.end Refused
  pub lending_join : Kept lending.join Refused
  pub lending_pour_holding : Kept lending.pour_holding Refused

-- ---- "A packet from another source is refused before its payload is looked at."

-- of `session::offer`: an open session answers 10; and whatever the session is, two offers that differ in the payload alone end alike
pub record AnotherSource : Type 0 where
  pub is_10 : (s after : Session) (source sequence timestamp : ℕ) (p : List ℕ) (x : Result ℕ Refusal) → (source ≡ s.source → ⊥) →
      is_open (voice_for s.form) s ≡ true →
      Outcome session.offer (source, (sequence, (timestamp, p))) (record { session = s }) x (record { session = after }) →
      (x ≡ Err refusal.AnotherSource) × (after ≡ s)
  pub unread : (s a b : Session) (source sequence timestamp : ℕ) (p q : List ℕ) (x y : Result ℕ Refusal) → (source ≡ s.source → ⊥) →
      Outcome session.offer (source, (sequence, (timestamp, p))) (record { session = s }) x (record { session = a }) →
      Outcome session.offer (source, (sequence, (timestamp, q))) (record { session = s }) y (record { session = b }) → (x ≡ y) × (a ≡ b)
  -- and of `lv_session_offer`, on lent octets
  pub host_is_10 : (o after : WithPlace LentSessionLost) (source sequence timestamp : ℕ) (p : List ℕ) (x : ℕ) →
      (source ≡ (session_in o.rest.session).source → ⊥) → is_open (session_voice o.rest.session) (session_in o.rest.session) ≡ true →
      Outcome landing.lv_session_offer (source, (sequence, (timestamp, p))) o x after → (x ≡ 10) × (after ≡ o)
  pub host_unread : (o a b : WithPlace LentSessionLost) (source sequence timestamp : ℕ) (p q : List ℕ) (x y : ℕ) →
      (source ≡ (session_in o.rest.session).source → ⊥) →
      Outcome landing.lv_session_offer (source, (sequence, (timestamp, p))) o x a →
      Outcome landing.lv_session_offer (source, (sequence, (timestamp, q))) o y b → (x ≡ y) × (a ≡ b)
