-- Document 01, "What the promises have to say": any two outcomes that a call's contract allows are equal, the answer and all that was lent.
-- A call (`Call`) has its contract's own reading, so a contract that is weakened breaks its claim here.
use Rattle.std.specs.Prelude.{◌≡◌}
use contract.Lifetimes.{Lfts}
use Rattle.claims.specs.Call.{Call, Passed, Returned, Ended}
use Rattle.claims.specs.Calls.Octets as octets
use Rattle.claims.specs.Calls.Answers as answers
use Rattle.claims.specs.Calls.Frame as frame
use Rattle.claims.specs.Calls.Form as form
use Rattle.claims.specs.Calls.Entries as entries
use Rattle.claims.specs.Calls.Recording as recording
use Rattle.claims.specs.Calls.Numbers as numbers
use Rattle.claims.specs.Calls.Bundle as bundle
use Rattle.claims.specs.Calls.Payload as payload
use Rattle.claims.specs.Calls.Packet as packet
use Rattle.claims.specs.Calls.Holding as holding
use Rattle.claims.specs.Calls.Joining as joining
use Rattle.claims.specs.Calls.Pouring as pouring
use Rattle.claims.specs.Calls.Session as session
use Rattle.claims.specs.Calls.Capture as capture
use Rattle.claims.specs.Calls.Lending as lending
use Rattle.claims.specs.Calls.Landing as landing

-- what is seen of an outcome: the answer, and all that was lent as the call ends
abbrev pub seen : (call : Call) (κs : Lfts call.lifetimes) → Returned call κs → Ended call κs → call.Answer × call.Lent
seen call κs x s = (call.answer κs x, call.left κs s)

-- whatever is passed, "any two outcomes allowed are equal"
pub record Fixed (call : Call) : Type 0 where
  pub equal : {κs : Lfts call.lifetimes} {a : Passed call κs} {x y : Returned call κs} {s t : Ended call κs} →
      call.allows κs a x s → call.allows κs a y t → seen call κs x s ≡ seen call κs y t

-- every public call of the house
pub record Determined : Type 0 where
  pub octets_copy : Fixed octets.copy
  pub octets_fill : Fixed octets.fill
  pub octets_copy_shifted : Fixed octets.copy_shifted
  pub octets_same : Fixed octets.same
  pub octets_zeros : Fixed octets.zeros
  pub octets_any : Fixed octets.any
  pub octets_two : Fixed octets.two
  pub octets_four : Fixed octets.four
  pub octets_put_two : Fixed octets.put_two
  pub octets_put_four : Fixed octets.put_four
  pub refusal_number : Fixed answers.refusal_number
  pub frame_row_of : Fixed frame.row_of
  pub frame_cell_of : Fixed frame.cell_of
  pub frame_packets_of : Fixed frame.packets_of
  pub frame_body_size : Fixed frame.body_size
  pub frame_row_of_size : Fixed frame.row_of_size
  pub frame_low_bits : Fixed frame.low_bits
  pub frame_is_sendable : Fixed frame.is_sendable
  pub frame_part : Fixed frame.part
  pub limits_agreed : Fixed form.limits_agreed
  pub limits_open : Fixed form.limits_open
  pub entries_count : Fixed entries.count
  pub entries_seek : Fixed entries.seek
  pub entries_write_cleared : Fixed entries.write_cleared
  pub recording_read : Fixed recording.read
  pub recording_locate : Fixed recording.locate
  pub recording_body : Fixed recording.body
  pub recording_write : Fixed recording.write
  pub numbers_base_sequence : Fixed numbers.base_sequence
  pub numbers_base_timestamp : Fixed numbers.base_timestamp
  pub numbers_with_held : Fixed numbers.with_held
  pub numbers_after_poured : Fixed numbers.after_poured
  pub numbers_decide : Fixed numbers.decide
  pub bundle_not_held : Fixed bundle.not_held
  pub bundle_same_bundles : Fixed bundle.same_bundles
  pub bundle_is_not_held : Fixed bundle.is_not_held
  pub bundle_frames_right : Fixed bundle.frames_right
  pub payload_read : Fixed payload.read
  pub payload_locate : Fixed payload.locate
  pub payload_body : Fixed payload.body
  pub payload_lay_out : Fixed payload.lay_out
  pub packet_write : Fixed packet.write
  pub packet_write_header_free : Fixed packet.write_header_free
  pub holding_begin : Fixed holding.begin
  pub holding_numbers_of : Fixed holding.numbers_of
  pub holding_nothing : Fixed holding.nothing
  pub holding_is_nothing : Fixed holding.is_nothing
  pub holding_with_packet : Fixed holding.with_packet
  pub holding_is_held : Fixed holding.is_held
  pub holding_same_packet : Fixed holding.same_packet
  pub holding_is_sound : Fixed holding.is_sound
  pub holding_holds_packet : Fixed holding.holds_packet
  pub joining_join : Fixed joining.join
  pub pouring_pour : Fixed pouring.pour
  pub session_never_opened : Fixed session.never_opened
  pub session_open : Fixed session.«open»
  pub session_is_open : Fixed session.is_open
  pub session_offer : Fixed session.offer
  pub session_pour : Fixed session.pour
  pub session_copy_out : Fixed session.copy_out
  pub session_end : Fixed session.end
  pub capture_room : Fixed capture.room
  pub capture_judge : Fixed capture.judge
  pub capture_record : Fixed capture.«record»
  pub lending_open : Fixed lending.«open»
  pub lending_offer : Fixed lending.offer
  pub lending_pour : Fixed lending.pour
  pub lending_copy_out : Fixed lending.copy_out
  pub lending_end : Fixed lending.end
  pub lending_join : Fixed lending.join
  pub lending_pour_holding : Fixed lending.pour_holding
  pub lv_payload_read : Fixed landing.lv_payload_read
  pub lv_payload_frame : Fixed landing.lv_payload_frame
  pub lv_recording_read : Fixed landing.lv_recording_read
  pub lv_recording_frame : Fixed landing.lv_recording_frame
  pub lv_recording_write : Fixed landing.lv_recording_write
  pub lv_packet_write : Fixed landing.lv_packet_write
  pub lv_packet_write_header_free : Fixed landing.lv_packet_write_header_free
  pub lv_capture_record : Fixed landing.lv_capture_record
  pub lv_session_open : Fixed landing.lv_session_open
  pub lv_session_offer : Fixed landing.lv_session_offer
  pub lv_session_pour : Fixed landing.lv_session_pour
  pub lv_session_copy : Fixed landing.lv_session_copy
  pub lv_session_end : Fixed landing.lv_session_end
  pub lv_holding_join : Fixed landing.lv_holding_join
  pub lv_holding_pour : Fixed landing.lv_holding_pour
  pub payload_read_agreed : Fixed payload.read_agreed
  pub packet_write_agreed : Fixed packet.write_agreed
  pub holding_read : Fixed holding.read
  pub holding_lost_between : Fixed holding.lost_between
  pub session_open_agreed : Fixed session.open_agreed
  pub session_drop_group : Fixed session.drop_group
  pub lending_drop_group : Fixed lending.drop_group
  pub lending_read_holding : Fixed lending.read_holding
  pub lending_lost_between : Fixed lending.lost_between
  pub lv_session_drop : Fixed landing.lv_session_drop
  pub lv_holding_read : Fixed landing.lv_holding_read
  pub lv_holding_lost : Fixed landing.lv_holding_lost
  pub refusal_place : Fixed answers.refusal_place
  pub capture_answer : Fixed capture.answer
  pub lv_capture_answer : Fixed landing.lv_capture_answer
  pub payload_lay_frames : Fixed payload.lay_frames
  pub pouring_pour_size : Fixed pouring.pour_size
  pub pouring_pour_rows : Fixed pouring.pour_rows
  pub pouring_pour_held : Fixed pouring.pour_held
  pub session_decide : Fixed session.decide
  pub session_begin_group : Fixed session.begin_group
  pub session_hold_packet : Fixed session.hold_packet
  pub session_take : Fixed session.take
  pub session_end_group : Fixed session.end_group
  pub session_fresh : Fixed session.fresh
  pub holding_is_nothing_in : Fixed holding.is_nothing_in
  pub holding_holds_packet_in : Fixed holding.holds_packet_in
  pub holding_same_packet_in : Fixed holding.same_packet_in
  pub pouring_pour_held_in : Fixed pouring.pour_held_in
  pub session_is_open_in : Fixed session.is_open_in
  pub bundle_cells : Fixed bundle.bundle_cells
  pub holding_parts : Fixed holding.holding_parts
  pub holding_packet_of : Fixed holding.packet_of
