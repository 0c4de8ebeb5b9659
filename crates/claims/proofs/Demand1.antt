-- Demand 1 of every C call, read off its contract. Assumes nothing.
use Rattle.std.proofs.Common.{Result, Ok, Err}
use Prim.Native.Nat.{ℕ}
use mathlib.Core.Bool.{Bool, true, false, cond}
use mathlib.Core.Path.{◌≡◌, refl, ap, ap₂, ◌∙◌}
use mathlib.Core.List.{List, [], ◌++◌}
use lib.Dec.{leb}
use lib.ListN.{length, drop}
use Rattle.octets.proofs.Logic.{apart}
use Rattle.entries.specs.Kind.{Kind}
use Rattle.answers.specs.Answers.{number_of, place_of}
use Rattle.answers.specs.Outputs.{Made, octets, refused_output, written_of, out_after}
use Rattle.answers.specs.declared.Refusal.{Refusal}
use Rattle.answers.specs.declared.Refusal.TheVariants.{NoRoom}
use Rattle.form.specs.declared.Form.{Form}
use Rattle.frame.specs.declared.Located.{Located}
use Rattle.payload.specs.declared.Contents.{Contents}
use Rattle.holding.specs.declared.Described.{Described}
use Rattle.capture.specs.Capture.{good}
use Rattle.capture.specs.Run.{of_good, record_answer, record_output, capture_recording}
use Rattle.capture.specs.declared.CaptureError.{CaptureError}
use Rattle.capture.specs.declared.CaptureError.TheVariants.{BadCapture, Refused}
use Rattle.lending.specs.Calls.{lay_if, open_answer, open_octets, offer_octets, pour_octets, copy_octets}
use Rattle.lending.specs.Calls.{end_octets, join_octets, drop_octets}
use Rattle.landing.specs.Host.{packet_told, packet_after, frame_told, frame_after, CountTold, count_told, count_after, write_told, with_output}
use Rattle.landing.specs.Host.{write_after, capture_after, record_after, answer_number, open_named, opened_named}
use Rattle.landing.specs.Host.{holding_told, holding_after, capture_place}
use Rattle.landing.specs.Host.{fault_place, place_after}
use Rattle.claims.specs.Calls.Lent.{LentLNBD, LentKindStartSize, LentCount, LentOutWritten, LentSession, LentSessionLost}
use Rattle.claims.specs.Calls.Lent.{LentSessionOutWritten}
use Rattle.claims.specs.Calls.Lent.{LentSourceSequenceTimestampLBHeld, LentLost}
use Rattle.claims.specs.Call.{WithPlace}
use Rattle.claims.specs.Demand1.{Numbered, done, refusal, NumberedOrBad, numbered, bad, Refuses, Demand1}
use Rattle.claims.specs.Demand1.{NumberedAt, done_at, refusal_at, NumberedAtOrBad, numbered_at, bad_at, RefusesAt}
use Rattle.claims.proofs.Seen.{out-lent, session-lent, holding-lent, answer-with, packet-seen, frame-seen, count-seen, write-seen}
use Rattle.claims.proofs.Seen.{offer-seen}
use Rattle.claims.proofs.Seen.{holding-seen, lost-seen}

-- ---- the two ways to answer, over all that is seen: 0; or the refusal's number, and what was lent as it was
did : {X : Type 0} {x : ℕ} {before after made : X} → ◌≡◌ {A = ℕ × X} (x, after) (0, made) → Refuses Numbered x before after
did e = record { number = done (ap (λ w. w.0) e); kept = λ h. absurd (h (ap (λ w. w.0) e)) }

refused-by : {X : Type 0} (r : Refusal) {x : ℕ} {before after : X} → ◌≡◌ {A = ℕ × X} (x, after) (number_of r, before) → Refuses Numbered x before after
refused-by r e = record { number = refusal r (ap (λ w. w.0) e); kept = λ h. ap (λ w. w.1) e }

-- ---- the same of a call that tells the place
did_at : {X : Type 0} {x : ℕ} {b a : WithPlace X} {made : X} → ◌≡◌ {A = ℕ × X} (x, a.rest) (0, made) → a.place ≡ b.place → RefusesAt NumberedAt x b a
did_at e q = record { number = done_at (ap (λ w. w.0) e) q; kept = λ h. absurd (h (ap (λ w. w.0) e)) }

refused-at : {X : Type 0} (r : Refusal) {x : ℕ} {b a : WithPlace X} → ◌≡◌ {A = ℕ × X} (x, a.rest) (number_of r, b.rest) →
    a.place ≡ place_after (place_of r) b.place → RefusesAt NumberedAt x b a
refused-at r e q = record { number = refusal_at r (ap (λ w. w.0) e) q; kept = λ h. ap (λ w. w.1) e }

-- ---- what a host is told of a payload, of a frame, and of a count
packet-refuses : (c : Result Contents Refusal) {x : ℕ} {b a : WithPlace LentLNBD} →
    (packet_told x a.rest.l a.rest.n a.rest.b a.rest.d ≡ packet_after c b.rest.l b.rest.n b.rest.b b.rest.d)
    × (a.place ≡ place_after (fault_place c) b.place) → RefusesAt NumberedAt x b a
unfolding packet_after fault_place place_after
packet-refuses (Ok c) p = did_at (ap packet-seen p.0) p.1
packet-refuses (Err r) p = refused-at r (ap packet-seen p.0) p.1

frame-refuses : (c : Result Located Refusal) {x : ℕ} {b a : WithPlace LentKindStartSize} →
    (frame_told x a.rest.kind a.rest.start a.rest.size ≡ frame_after c b.rest.kind b.rest.start b.rest.size)
    × (a.place ≡ place_after (fault_place c) b.place) → RefusesAt NumberedAt x b a
unfolding frame_after fault_place place_after
frame-refuses (Ok c) p = did_at (ap frame-seen p.0) p.1
frame-refuses (Err r) p = refused-at r (ap frame-seen p.0) p.1

count-refuses : (c : Result ℕ Refusal) {x : ℕ} {b a : WithPlace LentCount} →
    (count_told x a.rest.count ≡ count_after c b.rest.count) × (a.place ≡ place_after (fault_place c) b.place) → RefusesAt NumberedAt x b a
unfolding count_after fault_place place_after
count-refuses (Ok n) p = did_at (ap count-seen p.0) p.1
count-refuses (Err r) p = refused-at r (ap count-seen p.0) p.1

-- ---- of a call that writes: an answer, with the output that goes with it
written-refuses : (w : Result ℕ Refusal) {x : ℕ} {b a : LentOutWritten} (out : List ℕ) → ((r : Refusal) → w ≡ Err r → out ≡ b.out) →
    write_told x a.written a.out ≡ with_output (count_after w b.written) out → Refuses Numbered x b a
unfolding count_after
written-refuses (Ok m) out k p = did (ap write-seen p)
written-refuses (Err r) {b = b} out k p = refused-by r (ap write-seen (p ∙ ap (write_told (number_of r) b.written) (k r refl)))

-- a refused writer leaves its output
pub kept-output : (made : Made) (out : List ℕ) (r : Refusal) → written_of made out ≡ Err r → out_after made out ≡ out
unfolding written_of out_after
kept-output (refused_output s) out r e = refl
kept-output (octets w) out r e = go (leb (length w) (length out)) e
  where
    go : (b : Bool) → cond b (Ok (length w)) (Err NoRoom) ≡ Err r → cond b (w ++ drop (length w) out) out ≡ out
    go true e = apart (cc)
    go false e = refl

write-refuses : (made : Made) {x : ℕ} {b a : LentOutWritten} → write_told x a.written a.out ≡ write_after made b.written b.out →
    Refuses Numbered x b a
unfolding write_after
write-refuses made {b = b} p = written-refuses (written_of made b.out) (out_after made b.out) (kept-output made b.out) p

-- and of one that is given entries
write-refuses-at : (made : Made) {x : ℕ} {b a : WithPlace LentOutWritten} →
    (write_told x a.rest.written a.rest.out ≡ write_after made b.rest.written b.rest.out)
    × (a.place ≡ place_after (fault_place (written_of made b.rest.out)) b.place) → RefusesAt NumberedAt x b a
unfolding write_after count_after fault_place place_after
write-refuses-at made {x = x} {b = b} {a = a} p =
    record { number = go (written_of made b.rest.out) p.0 p.1; kept = (write-refuses made p.0).kept }
  where
    go : (w : Result ℕ Refusal) → write_told x a.rest.written a.rest.out ≡ with_output (count_after w b.rest.written) (out_after made b.rest.out) →
        a.place ≡ place_after (fault_place w) b.place → NumberedAt x b.place a.place
    go (Ok m) e q = done_at (ap (λ t. (write-seen t).0) e) q
    go (Err r) e q = refusal_at r (ap (λ t. (write-seen t).0) e) q

-- ---- of a capture, which may be bad
as-counted : (w : Result ℕ Refusal) (n : ℕ) → capture_after (of_good w) n ≡ count_after w n
unfolding capture_after count_after
as-counted (Ok m) n = refl
as-counted (Err r) n = refl

capture-refuses : (good : Bool) (made : Made) {x : ℕ} {b a : LentOutWritten} →
    write_told x a.written a.out ≡ with_output
    (capture_after (cond good (of_good (written_of made b.out)) (Err BadCapture)) b.written)
    (cond good (out_after made b.out) b.out) →
    Refuses NumberedOrBad x b a
unfolding capture_after
capture-refuses true made {b = b} p =
    let i = written-refuses (written_of made b.out) (out_after made b.out) (kept-output made b.out)
    (p ∙ ap (λ (c : CountTold). with_output c (out_after made b.out)) (as-counted (written_of made b.out) b.written)) in
    record { number = numbered i.number; kept = i.kept }
capture-refuses false made p = record { number = bad (ap (λ w. (write-seen w).0) p); kept = λ h. ap (λ w. (write-seen w).1) p }

record-refuses : (kind : Kind) (c : List ℕ) {x : ℕ} {b a : LentOutWritten} →
    write_told x a.written a.out ≡ record_after kind c b.written b.out → Refuses NumberedOrBad x b a
unfolding record_after record_answer record_output
record-refuses kind c p = capture-refuses (good c) (octets (capture_recording kind c)) p

-- and of a packet of one
lost-told-refuses : (y : Result ℕ Refusal) {x : ℕ} {b a : WithPlace LentLost} →
    (count_told x a.rest.lost ≡ count_after y b.rest.lost) × (a.place ≡ place_after (fault_place y) b.place) → RefusesAt NumberedAt x b a
unfolding count_after fault_place place_after
lost-told-refuses (Ok m) p = did_at (ap lost-seen p.0) p.1
lost-told-refuses (Err r) p = refused-at r (ap lost-seen p.0) p.1

answer-of-refuses : (w : Result ℕ CaptureError) {x : ℕ} {b a : WithPlace LentLost} →
    (count_told x a.rest.lost ≡ capture_after w b.rest.lost) × (a.place ≡ place_after (capture_place w) b.place) → RefusesAt NumberedAtOrBad x b a
unfolding capture_after count_after fault_place capture_place place_after
answer-of-refuses (Ok m) p = let i = lost-told-refuses (Ok m) p in record { number = numbered_at i.number; kept = i.kept }
answer-of-refuses (Err BadCapture) p = record { number = bad_at (ap (λ t. (lost-seen t).0) p.0) p.1; kept = λ h. ap (λ t. (lost-seen t).1) p.0 }
answer-of-refuses (Err (Refused r)) p = let i = lost-told-refuses (Err r) p in record { number = numbered_at i.number; kept = i.kept }

-- ---- of sessions and holdings in lent octets
answer-refuses : {X : Type 0} (lent : List ℕ → X) (y : Result Unit Refusal) {x : ℕ} (b a w : List ℕ) → (x ≡ answer_number y) × (a ≡ lay_if y b w) →
    Refuses Numbered x (lent b) (lent a)
unfolding answer_number lay_if
answer-refuses lent (Ok tt) b a w p = did (ap₂ (answer-with lent) p.0 p.1)
answer-refuses lent (Err r) b a w p = refused-by r (ap₂ (answer-with lent) p.0 p.1)

open-refuses : (f : Result Form Refusal) (source : ℕ) {x : ℕ} {b a : LentSession} →
    (x ≡ answer_number (open_named f source b.session)) × (a.session ≡ opened_named f source b.session) → Refuses Numbered x b a
unfolding open_named opened_named open_octets lay_if
open-refuses (Ok f) source {b = b} p = answer-refuses session-lent (open_answer b.session source f) _ _ _ p
open-refuses (Err r) source p = answer-refuses session-lent (Err r) _ _ [] p

offer-refuses : (y : Result ℕ Refusal) {x : ℕ} {b a : WithPlace LentSessionLost} (w : List ℕ) →
    (count_told x a.rest.lost ≡ count_after y b.rest.lost) × (a.place ≡ place_after (fault_place y) b.place)
    × (a.rest.session ≡ lay_if y b.rest.session w) → RefusesAt NumberedAt x b a
unfolding count_after fault_place place_after lay_if
offer-refuses (Ok m) w p = did_at (ap₂ offer-seen p.0 p.2) p.1
offer-refuses (Err r) w p = refused-at r (ap₂ offer-seen p.0 p.2) p.1

-- a refused pouring leaves the session
kept-session : (y : Result ℕ Refusal) {x n : ℕ} {out : List ℕ} (n₀ : ℕ) (o b a w : List ℕ) → write_told x n out ≡ with_output (count_after y n₀) o →
    a ≡ lay_if y b w → (x ≡ 0 → ⊥) → a ≡ b
unfolding count_after lay_if
kept-session (Ok m) n₀ o b a w e k h = absurd (h (ap (λ t. (write-seen t).0) e))
kept-session (Err r) n₀ o b a w e k h = k

pour-refuses : (made : Made) {x : ℕ} {b a : LentSessionOutWritten} (w : List ℕ) →
    (write_told x a.written a.out ≡ write_after made b.written b.out) × (a.session ≡ lay_if (written_of made b.out) b.session w) →
    Refuses Numbered x b a
unfolding write_after
pour-refuses made {b = b} w p =
    let i = write-refuses made p.0 in
    record {
      number = i.number;
      kept = λ h. ap₂ (λ (o : LentOutWritten) (s : List ℕ). record { session = s; out = o.out; written = o.written }) (i.kept h)
          (kept-session (written_of made b.out) b.written (out_after made b.out) _ _ w p.0 p.1 h);
    }

-- ---- what a host of two boxes asks
holding-refuses : (c : Result Described Refusal) {x : ℕ} {b a : LentSourceSequenceTimestampLBHeld} →
    holding_told x a.source a.sequence a.timestamp a.l a.b a.held
    ≡ holding_after c b.source b.sequence b.timestamp b.l b.b b.held →
    Refuses Numbered x b a
unfolding holding_after
holding-refuses (Ok c) p = did (ap holding-seen p)
holding-refuses (Err r) p = refused-by r (ap holding-seen p)

lost-refuses : (c : Result ℕ Refusal) {x : ℕ} {b a : LentLost} → count_told x a.lost ≡ count_after c b.lost → Refuses Numbered x b a
unfolding count_after
lost-refuses (Ok n) p = did (ap lost-seen p)
lost-refuses (Err r) p = refused-by r (ap lost-seen p)

-- ---- every C call
pub demand_1 : Demand1
unfolding offer_octets pour_octets copy_octets end_octets join_octets drop_octets
demand_1 = record {
  lv_payload_read = record { so = packet-refuses _ };
  lv_payload_frame = record { so = frame-refuses _ };
  lv_recording_read = record { so = count-refuses _ };
  lv_recording_frame = record { so = frame-refuses _ };
  lv_recording_write = record { so = write-refuses-at _ };
  lv_packet_write = record { so = write-refuses-at _ };
  lv_packet_write_header_free = record { so = write-refuses-at _ };
  lv_capture_record = record { so = record-refuses _ _ };
  lv_capture_answer = record { so = answer-of-refuses _ };
  lv_session_open = record { so = open-refuses _ _ };
  lv_session_offer = record { so = offer-refuses _ _ };
  lv_session_pour = record { so = pour-refuses _ _ };
  lv_session_copy = record { so = answer-refuses holding-lent _ _ _ _ };
  lv_session_end = record { so = answer-refuses session-lent _ _ _ _ };
  lv_holding_join = record { so = answer-refuses out-lent _ _ _ _ };
  lv_holding_pour = record { so = write-refuses _ };
  lv_session_drop = record { so = answer-refuses session-lent _ _ _ _ };
  lv_holding_read = record { so = holding-refuses _ };
  lv_holding_lost = record { so = lost-refuses _ };
}
