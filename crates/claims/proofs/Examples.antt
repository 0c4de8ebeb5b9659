-- The marked examples hold, by computation. Assumes nothing.
use Prim.Native.Nat.{ℕ, ◌<◌, ◌≤◌}
use mathlib.Core.Path.{◌≡◌, refl, sym, ap, ◌∙◌}
use mathlib.Core.List.{List, [], ◌∷◌, map}
use native.Mathlib.Omega.{arith}
use native.Mathlib.Nat.{mod-eq_of_lt, mod-one}
use lib.ListN.{take, replicate}
use Rattle.frame.specs.Shape.{Voice}
use Rattle.answers.specs.Answers.{number_of}
use Rattle.answers.specs.declared.Refusal.{Refusal}
use Rattle.answers.specs.declared.Refusal.TheVariants.{LaterGroup, ContradictsGroup, EarlierGroup}
use Rattle.session.specs.declared.Session.{Session}
use Rattle.frame.specs.FrameTable.{rows_of, row_of, row_with, Frame}
use Rattle.frame.specs.Places.{located_of, body_of, up_to}
use Rattle.payload.specs.Payload.{packet, toc, first_cut, bodies, interleaved, one_body, read_as}
use Rattle.entries.specs.Entries.{entries, allowed, frames_in}
use Rattle.recording.specs.Recording.{opens_with, recording_read}
use Rattle.payload.specs.Shown.{given_of, given_as}
use Rattle.numbers.specs.Place.{differ, at_distance, with_held, after_pause, after_poured, decided}
use Rattle.octets.specs.Octets.{two_at, four_at, over, any_set, same_octets, all_zero, all_below, region}
use Rattle.holding.specs.Group.{nothing, begun, is_nothing, bare, with_packet, held_at, bundle_of, packet_right, right_in, sound}
use Rattle.holding.specs.Group.{holds}
use Rattle.bundle.specs.Bundles.{same_bundles, not_held, mark_at, frame_of, may_stand, frame_right, frames_right}
use Rattle.bundle.specs.LaidOut.{laid, filled, rooms}
use Rattle.pouring.specs.Pouring.{row, rows, poured}
use Rattle.session.specs.Session.{Offered, vacant, fresh, form_right, last_right, group_right, is_open, refuse, accept, with_group, poured_before}
use Rattle.session.specs.Session.{group_before, begins, belongs, placed_by, placed, arrival, judged, received, offered, pour_made, ended}
use Rattle.capture.specs.Capture.{end_fault, table_fault, count_fault, fault_of, good, start_at, lengths, heard_at, packets_in}
use Rattle.capture.specs.Run.{capture_kind, capture_form, first_session, offered_to, taken_of, offering, poured_of, pouring, is_twelve, readied, step_of, run_of}
use Rattle.capture.specs.Run.{whole_run, entries_recorded, capture_recording, and_then, packet_answered, answer_of}
use Rattle.packet.specs.Packet.{group_in, packet_frames}
use Rattle.packet.specs.Writing.{packet_made, packet_within, packet_of_group}
use Rattle.answers.specs.Outputs.{Made, octets, written_of, out_after}
use Rattle.claims.specs.Examples.{four_packets, four_answers, silent_talk, spoken_one, MarkedExamples, HoldsP15, RefusedBy, NewBase, P15, WholeCase}
use Rattle.claims.specs.Demand3.{Writers, Wrote, forms_of}
use Rattle.claims.specs.Demand3 as demand
use Rattle.claims.specs.Sending.{AdmitsIn}
use Rattle.claims.specs.Pauses.{Talk, WrittenAs}
use Rattle.claims.proofs.Builds.{writes-so}
use Rattle.claims.proofs.Offering.{offer-read}

-- a packet whose numbers are refused, offered to such a session
refused-by :
    (v : Voice) (s : Session) → HoldsP15 v s →
    (sequence timestamp : ℕ) (p : List ℕ) (l n d : ℕ) (fs : List Frame) → read_as v.table s.form p ≡ packet l n d fs →
    (r : Refusal) → placed v.shape s (arrival v.shape sequence timestamp l n fs) ≡ refuse s r →
    RefusedBy (number_of r) s (offered v s s.source sequence timestamp p)
unfolding refuse
refused-by v s h q t p l n d fs e r z =
    let o = offer-read v s s.source q t l n d fs p h.opened refl e ∙ z in
    record { refusal = r; answered = ap (λ (y : Offered). y.answer) o; by_number = refl; unchanged = ap (λ (y : Offered). y.session) o }

p15 : P15
unfolding NewBase placed group_before decided with_held at_distance placed_by arrival
p15 = record {
  later = λ v s h q t p l n d fs e b. refused-by v s h q t p l n d fs e LaterGroup (rw (h.some, h.base, b) (simp h.length_one));
  inside = λ v s h q t p l n d fs e b. refused-by v s h q t p l n d fs e ContradictsGroup (rw (h.some, h.base, b) (simp h.length_one));
  earlier = λ v s h q t p l n d fs e b. refused-by v s h q t p l n d fs e EarlierGroup (rw (h.some, h.base, b) (simp h.length_one));
}

-- ---- a talk of two groups, each of one frame that our writer wrote
module _ (writers : Writers) (octet : ℕ) where
  abbrev entry : List ℕ
  entry = 0x01 ∷ octet ∷ octet ∷ []

  made : packet_made capture_kind capture_form 0 0 1 0 entry ≡ octets (0x00 ∷ entry)
  unfolding packet_made packet_within packet_of_group packet_frames capture_form rows_of row_of entries allowed up_to
  made = rw (mod-one octet) refl

  group : group_in capture_kind entry ≡ record { type = 1; body = octet ∷ octet ∷ [] } ∷ []
  unfolding frames_in rows_of row_of entries allowed
  group = refl

  wrote : (n : ℕ) → n ≤ 0 → Wrote (writers.write.run (capture_form, (0, (n, (1, (0, entry))))) (record { out = replicate 4 0 })) (0x00 ∷ entry)
  unfolding written_of out_after
  wrote n h =
      let z : n ≡ 0 = omega arith in
      let w = writes-so writers.write capture_form 0 0 1 0 entry (replicate 4 0) in
      rw z (record { count = w.answer ∙ ap (λ (m : Made). written_of m (replicate 4 0)) made; front = ap (take 4) (w.output ∙ ap (λ (m : Made). out_after m (replicate 4 0)) made) })

  written_one : (sequence start silence : ℕ) → sequence < 65536 → start < 4294967296 → WrittenAs writers (spoken_one sequence start silence octet)
  unfolding forms_of AdmitsIn capture_form
  written_one sequence start silence h k =
      record {
        sequence_fits = h;
        written = demand.interleaved (record { max_l = 7; max_b = 10 }) entry (λ n. 0) (λ n. replicate 4 0) group wrote;
        admitted = record { in_range = refl; long_enough = omega arith; wide_enough = omega arith };
        by_the_clock = sym (mod-eq_of_lt k);
      }

a-talk : (writers : Writers) → Talk writers (spoken_one 1 0 0 0x11) (spoken_one 2 480 2 0x22 ∷ []) silent_talk
unfolding two_at four_at start_at lengths heard_at packets_in up_to
a-talk writers = record {
  written = (written_one writers 0x11 1 0 0 (omega arith) (omega arith), (written_one writers 0x22 2 480 2 (omega arith) (omega arith), tt));
  in_turn = (record { same_source = refl; later = record { behind = omega arith; near = omega arith }; short = omega arith; in_time = refl }, tt);
  heard = refl;
}

whole-case : WholeCase
unfolding rows_of row_of toc bodies interleaved read_as differ at_distance with_held after_pause after_poured decided two_at four_at over
    any_set same_octets all_zero up_to nothing begun is_nothing bare with_packet same_bundles not_held mark_at
    may_stand frame_right frames_right held_at bundle_of packet_right right_in sound holds all_below region laid filled
    rooms frame_of row rows poured vacant fresh form_right last_right group_right is_open refuse accept with_group
    poured_before group_before begins belongs placed_by placed arrival judged received offered pour_made ended end_fault
    table_fault count_fault fault_of good start_at lengths heard_at packets_in capture_form first_session offered_to taken_of
    offering poured_of pouring is_twelve readied step_of run_of whole_run entries_recorded capture_recording and_then
whole-case = record {
  heard = record { whole = refl; recording = refl };
  lost = record { whole = refl; recording = refl };
  talk = a-talk;
  silence = record { whole = refl; recording = refl };
}

-- the packets of a capture are told apart: one is held, one is refused with its place, one is another's, one is held when it is offered
-- again, and one is not there
four-answers : map (answer_of capture_kind four_packets) (0 ∷ 1 ∷ 2 ∷ 3 ∷ 4 ∷ []) ≡ four_answers
unfolding rows_of row_of toc first_cut bodies interleaved read_as differ at_distance with_held after_pause after_poured decided two_at four_at over
    any_set same_octets all_zero up_to nothing begun is_nothing bare with_packet same_bundles not_held mark_at
    may_stand frame_right frames_right held_at bundle_of packet_right right_in sound holds all_below region laid filled
    rooms frame_of row rows poured vacant fresh form_right last_right group_right is_open refuse accept with_group
    poured_before group_before begins belongs placed_by placed arrival judged received offered pour_made ended end_fault
    table_fault count_fault fault_of good start_at lengths heard_at packets_in capture_form first_session offered_to taken_of
    offering poured_of pouring is_twelve readied step_of run_of whole_run and_then packet_answered answer_of
four-answers = refl

pub marked_examples : MarkedExamples
unfolding same_octets rows_of row_of row_with located_of body_of entries allowed opens_with recording_read toc first_cut bodies interleaved one_body
    read_as given_of given_as after_pause after_poured
marked_examples = record {
  as_said = refl;
  places = refl;
  answers = four-answers;
  any_rate1 = λ p h. rw h;
  bases = (refl, refl);
  distances = p15;
  pauses = refl;
  captures = whole-case;
}
