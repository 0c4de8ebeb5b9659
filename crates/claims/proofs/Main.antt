-- The house keeps its promises: one value, with a proof for each claim. Assumes nothing.
use Rattle.claims.specs.Main.{Promised}
use Rattle.claims.proofs.Demand1.{demand_1}
use Rattle.claims.proofs.Refusals.{refusals_are_numbered, rattle_demand_1, another_source}
use Rattle.claims.proofs.Sessions.{refused_offer_changes_nothing, another_source_is_10, another_sources_words_are_not_heard}
use Rattle.claims.proofs.Sessions.{opening_forgets, ending_forgets, ended_takes_nothing, first_packet_begins_alone}
use Rattle.claims.proofs.Sessions.{repeat_changes_nothing, lost_frames_by_formula, octet_count_by_formula}
use Rattle.claims.proofs.Payloads.{refusals_part_empty, rr_ignored}
use Rattle.claims.proofs.Lent.{zero_is_never_opened, no_session_takes_nothing, no_holding_holds_nothing}
use Rattle.claims.proofs.Lent.{short_is_none, session_lays_back, holding_lays_back, equal_is_equal_octets}
use Rattle.claims.proofs.Lent.{lent_is_shaped}
use Rattle.claims.proofs.LentJoinings.{lent_joinings}
use Rattle.claims.proofs.Lent.{repeat_changes_no_octet, equal_knowledge_equal_octets}
use Rattle.claims.proofs.LentBack.{holding_reads_back, nothing_poured_nothing_remembered, session_reads_back}
use Rattle.claims.proofs.Packets.{packet_read_after_write}
use Rattle.claims.proofs.PacketsBack.{packet_write_after_read, header_free_read_after_write, header_free_write_after_read}
use Rattle.claims.proofs.PacketsBack.{kinds_pass, sendable_is_written, writer_writes, header_free_writer_writes}
use Rattle.claims.proofs.Recordings.{recording_read_after_write, recording_write_after_read, recording_same_octets, opening_alone}
use Rattle.claims.proofs.Recordings.{recording_refusals_part_empty}
use Rattle.claims.proofs.Buildable.{buildable}
use Rattle.claims.proofs.Demand3.{demand_3}
use Rattle.claims.proofs.Opened.{opened_is_ready}
use Rattle.claims.proofs.HostDemand3.{host_demand_3}
use Rattle.claims.proofs.Offering.{fresh_is_ready, offers_deliver, copied_out}
use Rattle.claims.proofs.Sending.{writer_sends, header_free_writer_sends, writer_sends_no_erasure, header_free_sends_no_erasure, tables_never_send_erasures}
use Rattle.claims.proofs.Missing.{one_missing_packet}
use Rattle.claims.proofs.Joinings.{every_order_and_grouping, every_permutation, with_itself, difference_ends_in_14, else_they_join}
use Rattle.claims.proofs.Joinings.{nothing_lost, nothing_invented, equal_knowledge, every_place_in_time, voices_have_room}
use Rattle.claims.proofs.Boxes.{boxes_join}
use Rattle.claims.proofs.Captures.{group_is_recorded, first_source_alone, others_are_not_heard, no_packet_gives_opening}
use Rattle.claims.proofs.Captures.{nothing_is_larger, capture_exactly_if}
use Rattle.claims.proofs.CapturesRead.{gives_a_recording}
use Rattle.claims.proofs.CapturesAnswered.{each_packet_answered, answered_by_its_step, recorded_by_its_answers, twelve_is_never_told}
use Rattle.claims.proofs.CapturesAnswered.{no_packet_answers_21, bad_capture_is_told}
use Rattle.claims.proofs.Talk.{talk_is_recorded}
use Rattle.claims.proofs.Pauses.{clock_decides, as_long_as_the_clock}
use Rattle.claims.proofs.Examples.{marked_examples}
use Rattle.claims.proofs.Places.{place_inside, table_is_cut, type_is_reserved, entry_is_past_maximum, bodies_are_cut, octets_are_left}
use Rattle.claims.proofs.Places.{recording_faults, entries_faults}
use Rattle.claims.proofs.Idle.{refuses_everything, pours_erasures, stores_nothing, nods_at_later, invents_lost_frames}
use Rattle.claims.proofs.Idle.{invents_octet_counts}
use Rattle.claims.proofs.Determined.{determined}
use Rattle.claims.proofs.TwoBoxes.{pour_and_drop_alike, lost_between_is_reported}

pub promised : Promised
promised = record {
  opening_forgets = opening_forgets;
  ending_forgets = ending_forgets;
  ended_takes_nothing = ended_takes_nothing;
  first_packet_begins_alone = first_packet_begins_alone;
  capture_exactly_if = capture_exactly_if;
  group_is_recorded = group_is_recorded;
  first_source_alone = first_source_alone;
  others_are_not_heard = others_are_not_heard;
  gives_a_recording = gives_a_recording;
  no_packet_gives_opening = no_packet_gives_opening;
  nothing_is_larger = nothing_is_larger;
  demand_1 = demand_1;
  refusals_are_numbered = refusals_are_numbered;
  rattle_demand_1 = rattle_demand_1;
  refused_offer_changes_nothing = refused_offer_changes_nothing;
  refusals_part_empty = refusals_part_empty;
  recording_refusals_part_empty = recording_refusals_part_empty;
  another_source = another_source;
  another_source_is_10 = another_source_is_10;
  another_sources_words_are_not_heard = another_sources_words_are_not_heard;
  marked_examples = marked_examples;
  rr_ignored = rr_ignored;
  opening_alone = opening_alone;
  kinds_pass = kinds_pass;
  packet_read_after_write = packet_read_after_write;
  header_free_read_after_write = header_free_read_after_write;
  recording_read_after_write = recording_read_after_write;
  writer_writes = writer_writes;
  header_free_writer_writes = header_free_writer_writes;
  sendable_is_written = sendable_is_written;
  packet_write_after_read = packet_write_after_read;
  header_free_write_after_read = header_free_write_after_read;
  recording_write_after_read = recording_write_after_read;
  recording_same_octets = recording_same_octets;
  demand_3 = demand_3;
  host_demand_3 = host_demand_3;
  opened_is_ready = opened_is_ready;
  fresh_is_ready = fresh_is_ready;
  offers_deliver = offers_deliver;
  writer_sends = writer_sends;
  header_free_writer_sends = header_free_writer_sends;
  repeat_changes_nothing = repeat_changes_nothing;
  lost_frames_by_formula = lost_frames_by_formula;
  octet_count_by_formula = octet_count_by_formula;
  every_place_in_time = every_place_in_time;
  one_missing_packet = one_missing_packet;
  writer_sends_no_erasure = writer_sends_no_erasure;
  header_free_sends_no_erasure = header_free_sends_no_erasure;
  tables_never_send_erasures = tables_never_send_erasures;
  every_order_and_grouping = every_order_and_grouping;
  every_permutation = every_permutation;
  difference_ends_in_14 = difference_ends_in_14;
  else_they_join = else_they_join;
  nothing_lost = nothing_lost;
  nothing_invented = nothing_invented;
  equal_knowledge = equal_knowledge;
  voices_have_room = voices_have_room;
  lent_joinings = lent_joinings;
  with_itself = with_itself;
  boxes_join = boxes_join;
  copied_out = copied_out;
  pour_and_drop_alike = pour_and_drop_alike;
  lost_between_is_reported = lost_between_is_reported;
  zero_is_never_opened = zero_is_never_opened;
  short_is_none = short_is_none;
  no_session_takes_nothing = no_session_takes_nothing;
  no_holding_holds_nothing = no_holding_holds_nothing;
  lent_is_shaped = lent_is_shaped;
  holding_reads_back = holding_reads_back;
  nothing_poured_nothing_remembered = nothing_poured_nothing_remembered;
  session_reads_back = session_reads_back;
  session_lays_back = session_lays_back;
  holding_lays_back = holding_lays_back;
  equal_is_equal_octets = equal_is_equal_octets;
  repeat_changes_no_octet = repeat_changes_no_octet;
  equal_knowledge_equal_octets = equal_knowledge_equal_octets;
  determined = determined;
  buildable = buildable;
  refuses_everything = refuses_everything;
  pours_erasures = pours_erasures;
  stores_nothing = stores_nothing;
  nods_at_later = nods_at_later;
  invents_lost_frames = invents_lost_frames;
  invents_octet_counts = invents_octet_counts;
  place_inside = place_inside;
  table_is_cut = table_is_cut;
  type_is_reserved = type_is_reserved;
  entry_is_past_maximum = entry_is_past_maximum;
  bodies_are_cut = bodies_are_cut;
  octets_are_left = octets_are_left;
  recording_faults = recording_faults;
  entries_faults = entries_faults;
  each_packet_answered = each_packet_answered;
  answered_by_its_step = answered_by_its_step;
  recorded_by_its_answers = recorded_by_its_answers;
  twelve_is_never_told = twelve_is_never_told;
  no_packet_answers_21 = no_packet_answers_21;
  bad_capture_is_told = bad_capture_is_told;
  clock_decides = clock_decides;
  talk_is_recorded = talk_is_recorded;
  as_long_as_the_clock = as_long_as_the_clock;
}
