-- Any two outcomes that a call's contract allows are equal: each is what the contract says of the same arguments. Assumes nothing.
use Rattle.std.proofs.Common.{Result}
use Prim.Native.Nat.{ℕ}
use mathlib.Core.Path.{◌≡◌, sym, ap, ap₂, ◌∙◌}
use mathlib.Core.Bool.{Bool}
use mathlib.Core.List.{List, []}
use denote.Ref.{Bor}
use Rattle.answers.specs.declared.Refusal.{Refusal}
use Rattle.answers.specs.Outputs.{Made, Writes}
use Rattle.frame.specs.Places.{VeryPart}
use Rattle.bundle.specs.declared.Bundle.{Bundle}
use Rattle.session.specs.Session.{Offered, Started, Dropped, after_pour}
use Rattle.session.specs.declared.Session.{Session}
use Rattle.lending.specs.Calls.{pour_octets}
use Rattle.claims.specs.Calls.Lent.{LentMarksRoom, LentWholeSession, LentWholeStandingMarksRoom}
use Rattle.claims.specs.Determined.{Determined}
use Rattle.claims.proofs.Seen.{standing-in, parts-lent, whole-lent, dst-lent, out-lent, session-lent, holding-lent, alone, reference, only, answer-with, poured}
use Rattle.claims.proofs.Seen.{lent-poured, packet-seen, frame-seen, count-seen, write-seen, pour-seen}
use Rattle.claims.proofs.Seen.{holding-seen, lost-seen, at_place, offer-seen-at}

-- ---- one equation fixes all that is seen of it; and two do
by : {A B : Type 0} (seen : A → B) {x y m : A} → x ≡ m → y ≡ m → seen x ≡ seen y
by seen p q = ap seen (p ∙ sym q)

by_both : {A B C : Type 0} (seen : A → B → C) {x y m : A} {s t n : B} → (x ≡ m) × (s ≡ n) → (y ≡ m) × (t ≡ n) → seen x s ≡ seen y t
by_both seen p q = ap₂ seen (p.0 ∙ sym q.0) (p.1 ∙ sym q.1)

by_three : {A B C D : Type 0} (seen : A → B → C → D) {x y m : A} {s t n : B} {u w o : C} → (x ≡ m) × (s ≡ n) × (u ≡ o) →
    (y ≡ m) × (t ≡ n) × (w ≡ o) → seen x s u ≡ seen y t w
by_three seen p q = rw (p.0, p.1, p.2, q.0, q.1, q.2)

-- ---- the very part of the caller's octets
lies : {octets : Bor (List ℕ)} {start : ℕ} {content : List ℕ} {x y : Bor (List ℕ)} →
    VeryPart octets start content x → VeryPart octets start content y → reference x ≡ reference y
lies p q = by_both (λ (o : List ℕ) (b : ℕ × ℕ). ((o, b), tt)) (p.holds, p.lies) (q.holds, q.lies)

-- ---- of a call that writes; and of one that pours, with the session after such an answer
writes : {made : Made} {before o w : List ℕ} {x y : (Result ℕ Refusal)} → Writes made before x o → Writes made before y w →
    answer-with out-lent x o ≡ answer-with out-lent y w
writes p q = by_both (answer-with out-lent) (p.answer, p.output) (q.answer, q.output)

pours : {S B : Type 0} (after : Result ℕ Refusal → S) (seen : Result ℕ Refusal → List ℕ → S → B) {made : Made} {before o w : List ℕ} {x y : (Result ℕ Refusal)} {s t : S} →
    Writes made before x o × (s ≡ after x) → Writes made before y w × (t ≡ after y) → seen x o s ≡ seen y w t
pours after seen p q =
    let e = writes p.0 q.0 in
    ap₂ (λ w s. seen w.0 w.1.out s) e (p.1 ∙ ap (λ w. after w.0) e ∙ sym q.1)

-- ---- of a session in parts: what it is put together from, and what is seen of a packet that was laid out or taken
abbrev bundle-seen : Bundle → Unit {0} × LentMarksRoom
bundle-seen p = (tt, record { marks = p.marks; room = p.room })

abbrev taken-seen : Offered → (Result ℕ Refusal) × LentWholeStandingMarksRoom
taken-seen o = (o.answer, parts-lent o.session)

-- ---- of a session that is lent whole
abbrev offered-seen : Offered → (Result ℕ Refusal) × LentWholeSession
offered-seen o = (o.answer, whole-lent o.session)

abbrev opened-seen : Started → (Result Unit Refusal) × LentWholeSession
opened-seen o = (o.answer, whole-lent o.session)

abbrev dropped-seen : Dropped → (Result Unit Refusal) × LentWholeSession
dropped-seen o = (o.answer, whole-lent o.session)

-- ---- of the parts of a holding, by what they are
abbrev parts-seen : List Bool → List ℕ → List ℕ → (List Bool × Bundle) × Unit {0}
parts-seen h m r = ((h, record { marks = m; room = r }), tt)

-- ---- every public call
pub determined : Determined
determined = record {
  octets_copy = record { equal = by (only dst-lent) };
  octets_fill = record { equal = by (only dst-lent) };
  octets_copy_shifted = record { equal = by (only dst-lent) };
  octets_same = record { equal = by alone };
  octets_zeros = record { equal = by alone };
  octets_any = record { equal = by alone };
  octets_two = record { equal = by alone };
  octets_four = record { equal = by alone };
  octets_put_two = record { equal = by (only dst-lent) };
  octets_put_four = record { equal = by (only dst-lent) };
  refusal_number = record { equal = by alone };
  frame_row_of = record { equal = by alone };
  frame_cell_of = record { equal = by alone };
  frame_packets_of = record { equal = by alone };
  frame_body_size = record { equal = by alone };
  frame_row_of_size = record { equal = by alone };
  frame_low_bits = record { equal = by alone };
  frame_is_sendable = record { equal = by alone };
  frame_part = record { equal = lies };
  limits_agreed = record { equal = by alone };
  limits_open = record { equal = by alone };
  entries_count = record { equal = by alone };
  entries_seek = record { equal = by alone };
  entries_write_cleared = record { equal = by (only out-lent) };
  recording_read = record { equal = by alone };
  recording_locate = record { equal = by alone };
  recording_body = record { equal = lies };
  recording_write = record { equal = writes };
  numbers_base_sequence = record { equal = by alone };
  numbers_base_timestamp = record { equal = by alone };
  numbers_with_held = record { equal = by alone };
  numbers_after_poured = record { equal = by alone };
  numbers_decide = record { equal = by alone };
  bundle_not_held = record { equal = by alone };
  bundle_same_bundles = record { equal = by alone };
  bundle_is_not_held = record { equal = by alone };
  bundle_frames_right = record { equal = by alone };
  payload_read = record { equal = by alone };
  payload_locate = record { equal = by alone };
  payload_body = record { equal = lies };
  payload_lay_out = record { equal = by alone };
  packet_write = record { equal = writes };
  packet_write_header_free = record { equal = writes };
  holding_begin = record { equal = by alone };
  holding_numbers_of = record { equal = by alone };
  holding_nothing = record { equal = by alone };
  holding_is_nothing = record { equal = by alone };
  holding_with_packet = record { equal = by alone };
  holding_is_held = record { equal = by alone };
  holding_same_packet = record { equal = by alone };
  holding_is_sound = record { equal = by alone };
  holding_holds_packet = record { equal = by alone };
  joining_join = record { equal = by alone };
  pouring_pour = record { equal = writes };
  session_never_opened = record { equal = by alone };
  session_open = record { equal = by opened-seen };
  session_is_open = record { equal = by alone };
  session_offer = record { equal = by offered-seen };
  session_pour = record { equal = pours (after_pour _ _) poured };
  session_copy_out = record { equal = by alone };
  session_end = record { equal = by (only whole-lent) };
  capture_room = record { equal = by alone };
  capture_judge = record { equal = by alone };
  capture_record = record { equal = by_both (answer-with out-lent) };
  lending_open = record { equal = by_both (answer-with session-lent) };
  lending_offer = record { equal = by_both (answer-with session-lent) };
  lending_pour = record { equal = pours (pour_octets _) lent-poured };
  lending_copy_out = record { equal = by_both (answer-with out-lent) };
  lending_end = record { equal = by_both (answer-with session-lent) };
  lending_join = record { equal = by_both (answer-with out-lent) };
  lending_pour_holding = record { equal = writes };
  lv_payload_read = record { equal = by_both (at_place packet-seen) };
  lv_payload_frame = record { equal = by_both (at_place frame-seen) };
  lv_recording_read = record { equal = by_both (at_place count-seen) };
  lv_recording_frame = record { equal = by_both (at_place frame-seen) };
  lv_recording_write = record { equal = by_both (at_place write-seen) };
  lv_packet_write = record { equal = by_both (at_place write-seen) };
  lv_packet_write_header_free = record { equal = by_both (at_place write-seen) };
  lv_capture_record = record { equal = by write-seen };
  lv_session_open = record { equal = by_both (answer-with session-lent) };
  lv_session_offer = record { equal = by_three offer-seen-at };
  lv_session_pour = record { equal = by_both pour-seen };
  lv_session_copy = record { equal = by_both (answer-with holding-lent) };
  lv_session_end = record { equal = by_both (answer-with session-lent) };
  lv_holding_join = record { equal = by_both (answer-with out-lent) };
  lv_holding_pour = record { equal = by write-seen };
  payload_read_agreed = record { equal = by alone };
  packet_write_agreed = record { equal = writes };
  holding_read = record { equal = by alone };
  holding_lost_between = record { equal = by alone };
  session_open_agreed = record { equal = by opened-seen };
  session_drop_group = record { equal = by dropped-seen };
  lending_drop_group = record { equal = by_both (answer-with session-lent) };
  lending_read_holding = record { equal = by alone };
  lending_lost_between = record { equal = by alone };
  lv_session_drop = record { equal = by_both (answer-with session-lent) };
  lv_holding_read = record { equal = by holding-seen };
  lv_holding_lost = record { equal = by lost-seen };
  refusal_place = record { equal = by alone };
  capture_answer = record { equal = by alone };
  lv_capture_answer = record { equal = by_both (at_place lost-seen) };
  payload_lay_frames = record { equal = by bundle-seen };
  pouring_pour_size = record { equal = λ p q. by alone p.0 q.0 };
  pouring_pour_rows = record { equal = by (only out-lent) };
  pouring_pour_held = record { equal = writes };
  session_decide = record { equal = by alone };
  session_begin_group = record { equal = by alone };
  session_hold_packet = record { equal = by alone };
  session_take = record { equal = by taken-seen };
  session_end_group = record { equal = λ p q. by (λ (s : Session). alone (standing-in s)) (p [] []) (q [] []) };
  session_fresh = record { equal = by (λ (s : Session). alone (standing-in s)) };
  holding_is_nothing_in = record { equal = by alone };
  holding_holds_packet_in = record { equal = λ p q. by alone (p 0) (q 0) };
  holding_same_packet_in = record { equal = by alone };
  pouring_pour_held_in = record { equal = writes };
  session_is_open_in = record { equal = by alone };
  bundle_cells = record { equal = by alone };
  holding_parts = record { equal = λ p q. by_three parts-seen (p.0, p.1, p.2) (q.0, q.1, q.2) };
  holding_packet_of = record { equal = λ p q. by alone p.0 q.0 };
}
