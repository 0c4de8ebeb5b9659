-- Demand 1: "Any octets may come in. Each call answers, or refuses by a number in document 01. A refusal changes no session and no octet
-- of a lent buffer." Of every C call, over its contract's own reading, whatever a host passes. A refusal may set its place (02, i).
use Rattle.std.specs.Prelude.{ℕ, ◌≡◌}
use contract.Lifetimes.{Lfts}
use Rattle.answers.specs.Answers.{number_of, place_of}
use Rattle.answers.specs.declared.Refusal.{Refusal}
use Rattle.landing.specs.Host.{place_after}
use Rattle.claims.specs.Call.{Call, WithPlace, Passed, Returned, Ended}
use Rattle.claims.specs.Calls.Landing as landing

-- an answer in numbers: 0, or the number of a refusal
pub data Numbered (x : ℕ) : Type 0 where
  done : x ≡ 0 → Numbered x
  refusal : (r : Refusal) → x ≡ number_of r → Numbered x

-- of a capture also 255, which stands for the line "bad capture"
pub data NumberedOrBad (x : ℕ) : Type 0 where
  numbered : Numbered x → NumberedOrBad x
  bad : x ≡ 255 → NumberedOrBad x

-- a call's answer is such a number, and where it is not 0, all that was lent is as it was
pub record Refuses (Number : ℕ → Type 0) {X : Type 0} (x : ℕ) (before after : X) : Type 0 where
  pub number : Number x
  pub kept : (x ≡ 0 → ⊥) → after ≡ before

-- (02, i) the answer of a call that tells where a fault is, with the place before and after: 0, and it is as it was; or the number of a
-- refusal, and it is that refusal's, or as it was if the refusal has none
pub data NumberedAt (x before after : ℕ) : Type 0 where
  done_at : x ≡ 0 → after ≡ before → NumberedAt x before after
  refusal_at : (r : Refusal) → x ≡ number_of r → after ≡ place_after (place_of r) before → NumberedAt x before after

-- of a packet of a capture also 255, and it is as it was
pub data NumberedAtOrBad (x before after : ℕ) : Type 0 where
  numbered_at : NumberedAt x before after → NumberedAtOrBad x before after
  bad_at : x ≡ 255 → after ≡ before → NumberedAtOrBad x before after

-- a call's answer and its place are such, and where it is not 0, all else that was lent is as it was
pub record RefusesAt (Number : ℕ → ℕ → ℕ → Type 0) {X : Type 0} (x : ℕ) (before after : WithPlace X) : Type 0 where
  pub number : Number x before.place after.place
  pub kept : (x ≡ 0 → ⊥) → after.rest ≡ before.rest

-- whatever is passed, and whatever the contract allows: so it is with the answer, and with what was lent as the call begins and as it ends
pub record Always (call : Call) (So : call.Answer → call.Lent → call.Lent → Type 0) : Type 0 where
  pub so : {κs : Lfts call.lifetimes} {a : Passed call κs} {x : Returned call κs} {s : Ended call κs} →
      call.allows κs a x s → So (call.answer κs x) (call.lent κs a) (call.left κs s)

-- every C call
pub record Demand1 : Type 0 where
  pub lv_payload_read : Always landing.lv_payload_read (RefusesAt NumberedAt)
  pub lv_payload_frame : Always landing.lv_payload_frame (RefusesAt NumberedAt)
  pub lv_recording_read : Always landing.lv_recording_read (RefusesAt NumberedAt)
  pub lv_recording_frame : Always landing.lv_recording_frame (RefusesAt NumberedAt)
  pub lv_recording_write : Always landing.lv_recording_write (RefusesAt NumberedAt)
  pub lv_packet_write : Always landing.lv_packet_write (RefusesAt NumberedAt)
  pub lv_packet_write_header_free : Always landing.lv_packet_write_header_free (RefusesAt NumberedAt)
  pub lv_capture_record : Always landing.lv_capture_record (Refuses NumberedOrBad)
  pub lv_capture_answer : Always landing.lv_capture_answer (RefusesAt NumberedAtOrBad)
  pub lv_session_open : Always landing.lv_session_open (Refuses Numbered)
  pub lv_session_offer : Always landing.lv_session_offer (RefusesAt NumberedAt)
  pub lv_session_pour : Always landing.lv_session_pour (Refuses Numbered)
  pub lv_session_copy : Always landing.lv_session_copy (Refuses Numbered)
  pub lv_session_end : Always landing.lv_session_end (Refuses Numbered)
  pub lv_holding_join : Always landing.lv_holding_join (Refuses Numbered)
  pub lv_holding_pour : Always landing.lv_holding_pour (Refuses Numbered)
  pub lv_session_drop : Always landing.lv_session_drop (Refuses Numbered)
  pub lv_holding_read : Always landing.lv_holding_read (Refuses Numbered)
  pub lv_holding_lost : Always landing.lv_holding_lost (Refuses Numbered)
