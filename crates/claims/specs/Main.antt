-- The face of the house: all that it promises, in one record. Each field is a claim of a page beside this one, under the sentence of the
-- order that it carries; proofs/Main.antt has its one value. A claim that is no field here, and no part of one, is refused by the gate
-- (tools/claims), and so is a sentence of the three demands that does not stand here.
use Rattle.claims.specs.Demand1.{Demand1}
use Rattle.claims.specs.Refusals.{RefusalsAreNumbered, RattleDemand1, AnotherSource}
use Rattle.claims.specs.Payloads.{RRIgnored, RefusalsPartEmpty}
use Rattle.claims.specs.Sessions.{RefusedOfferChangesNothing, AnotherSourceIs10, AnotherSourcesWordsAreNotHeard, OpeningForgets}
use Rattle.claims.specs.Sessions.{EndingForgets, EndedTakesNothing, FirstPacketBeginsAlone, RepeatChangesNothing}
use Rattle.claims.specs.Sessions.{LostFramesByFormula, OctetCountByFormula}
use Rattle.claims.specs.Lent.{ZeroIsNeverOpened, NoSessionTakesNothing, NoHoldingHoldsNothing, HoldingReadsBack, SessionReadsBack}
use Rattle.claims.specs.Lent.{ShortIsNone, NothingPouredNothingRemembered, SessionLaysBack, HoldingLaysBack}
use Rattle.claims.specs.Lent.{LentIsShaped}
use Rattle.claims.specs.LentJoinings.{LentJoinings}
use Rattle.claims.specs.Lent.{EqualIsEqualOctets, RepeatChangesNoOctet, EqualKnowledgeEqualOctets}
use Rattle.claims.specs.Packets.{PacketReadAfterWrite, PacketWriteAfterRead, KindsPass, HeaderFreeReadAfterWrite}
use Rattle.claims.specs.Packets.{HeaderFreeWriteAfterRead, SendableIsWritten, WriterWrites, HeaderFreeWriterWrites}
use Rattle.claims.specs.Recordings.{RecordingReadAfterWrite, RecordingWriteAfterRead, RecordingSameOctets, OpeningAlone}
use Rattle.claims.specs.Recordings.{RecordingRefusalsPartEmpty}
use Rattle.claims.specs.Demand3.{Demand3, HostDemand3, OpenedIsReady}
use Rattle.claims.specs.Offering.{FreshIsReady, OffersDeliver}
use Rattle.claims.specs.Sending.{WriterSends, HeaderFreeWriterSends, WriterSendsNoErasure, TablesNeverSendErasures}
use Rattle.claims.specs.Sending.{HeaderFreeSendsNoErasure}
use Rattle.claims.specs.Missing.{OneMissingPacket}
use Rattle.claims.specs.Boxes.{CopiedOut, BoxesJoin}
use Rattle.claims.specs.Joinings.{EveryOrderAndGrouping, EveryPermutation, WithItself, DifferenceEndsIn14, ElseTheyJoin}
use Rattle.claims.specs.Joinings.{NothingLost, NothingInvented, EqualKnowledge, EveryPlaceInTime, VoicesHaveRoom}
use Rattle.claims.specs.Captures.{GroupIsRecorded, FirstSourceAlone, OthersAreNotHeard, GivesARecording, NoPacketGivesOpening}
use Rattle.claims.specs.Captures.{NothingIsLarger, CaptureExactlyIf, EachPacketAnswered, AnsweredByItsStep, RecordedByItsAnswers}
use Rattle.claims.specs.Captures.{TwelveIsNeverTold, NoPacketAnswers21, BadCaptureIsTold}
use Rattle.claims.specs.Pauses.{ClockDecides, TalkIsRecorded, AsLongAsTheClock}
use Rattle.claims.specs.Examples.{MarkedExamples}
use Rattle.claims.specs.Places.{PlaceInside, TableIsCut, TypeIsReserved, EntryIsPastMaximum, BodiesAreCut, OctetsAreLeft}
use Rattle.claims.specs.Places.{RecordingFaults, EntriesFaults}
use Rattle.claims.specs.Idle.{Buildable, RefusesEverything, PoursErasures, StoresNothing, NodsAtLater, InventsLostFrames}
use Rattle.claims.specs.Idle.{InventsOctetCounts}
use Rattle.claims.specs.Determined.{Determined}
use Rattle.claims.specs.TwoBoxes.{PourAndDropAlike, LostBetweenIsReported}

-- every claim of the pages beside this one
pub record Promised : Type 0 where
  -- the order, "Purpose": "A session left open must never take the next skipper's words."
  pub opening_forgets : OpeningForgets
  pub ending_forgets : EndingForgets
  pub ended_takes_nothing : EndedTakesNothing
  pub first_packet_begins_alone : FirstPacketBeginsAlone
  -- "a small program that turns a capture into a recording"
  pub capture_exactly_if : CaptureExactlyIf
  pub group_is_recorded : GroupIsRecorded
  pub first_source_alone : FirstSourceAlone
  pub others_are_not_heard : OthersAreNotHeard
  pub gives_a_recording : GivesARecording
  pub no_packet_gives_opening : NoPacketGivesOpening
  pub nothing_is_larger : NothingIsLarger
  -- 1: "Any octets may come in. Each call answers, or refuses by a number in document 01."
  pub demand_1 : Demand1
  pub refusals_are_numbered : RefusalsAreNumbered
  -- "A refusal changes no session and no octet of a lent buffer."
  pub rattle_demand_1 : RattleDemand1
  pub refused_offer_changes_nothing : RefusedOfferChangesNothing
  pub refusals_part_empty : RefusalsPartEmpty
  pub recording_refusals_part_empty : RecordingRefusalsPartEmpty
  -- "A packet from another source is refused before its payload is looked at."
  pub another_source : AnotherSource
  pub another_source_is_10 : AnotherSourceIs10
  pub another_sources_words_are_not_heard : AnotherSourcesWordsAreNotHeard
  -- 2: "Packets and recordings mean what the payload format says, as document 01 sets it out."
  pub marked_examples : MarkedExamples
  pub rr_ignored : RRIgnored
  pub opening_alone : OpeningAlone
  pub kinds_pass : KindsPass
  -- "Writing and then reading gives back the frames;"
  pub packet_read_after_write : PacketReadAfterWrite
  pub header_free_read_after_write : HeaderFreeReadAfterWrite
  pub recording_read_after_write : RecordingReadAfterWrite
  pub writer_writes : WriterWrites
  pub header_free_writer_writes : HeaderFreeWriterWrites
  pub sendable_is_written : SendableIsWritten
  -- "reading and then writing gives back the octets, under the conditions stated there."
  pub packet_write_after_read : PacketWriteAfterRead
  pub header_free_write_after_read : HeaderFreeWriteAfterRead
  pub recording_write_after_read : RecordingWriteAfterRead
  pub recording_same_octets : RecordingSameOctets
  -- 3: "Take one interleave group written by our writer, numbered and stamped as document 01 says, and a session ready for it, of the form
  -- it was written in, under limits that admit it. Offer at least one of its packets, any of them, in any order, repeats allowed. Poured
  -- into a buffer with room, each place has the original frame if its packet was offered and an erasure if not." From end to end, in Rattle
  -- and through the C calls; behind these what they are chained of
  pub demand_3 : Demand3
  pub host_demand_3 : HostDemand3
  pub opened_is_ready : OpenedIsReady
  pub fresh_is_ready : FreshIsReady
  pub offers_deliver : OffersDeliver
  pub writer_sends : WriterSends
  pub header_free_writer_sends : HeaderFreeWriterSends
  pub repeat_changes_nothing : RepeatChangesNothing
  pub lost_frames_by_formula : LostFramesByFormula
  pub octet_count_by_formula : OctetCountByFormula
  pub every_place_in_time : EveryPlaceInTime
  -- "If exactly one packet of two or more is missing, exactly as many erasures stand there as a packet has frames, and no two are
  -- neighbours."
  pub one_missing_packet : OneMissingPacket
  pub writer_sends_no_erasure : WriterSendsNoErasure
  pub header_free_sends_no_erasure : HeaderFreeSendsNoErasure
  pub tables_never_send_erasures : TablesNeverSendErasures
  -- "Holdings of that same group from several boxes join to the same holding in every order and grouping,"
  pub every_order_and_grouping : EveryOrderAndGrouping
  pub every_permutation : EveryPermutation
  pub difference_ends_in_14 : DifferenceEndsIn14
  pub else_they_join : ElseTheyJoin
  pub nothing_lost : NothingLost
  pub nothing_invented : NothingInvented
  pub equal_knowledge : EqualKnowledge
  pub voices_have_room : VoicesHaveRoom
  pub lent_joinings : LentJoinings
  -- "a holding joined with itself is unchanged,"
  pub with_itself : WithItself
  -- "and the outcome is what one box would hold had it heard all those packets."
  pub boxes_join : BoxesJoin
  pub copied_out : CopiedOut
  -- what a host of two boxes asks: document 01, "ends the group", and "the answer reports .. lost frames before it"
  pub pour_and_drop_alike : PourAndDropAlike
  pub lost_between_is_reported : LostBetweenIsReported
  -- the octets that a host lends for sessions and holdings
  pub zero_is_never_opened : ZeroIsNeverOpened
  pub short_is_none : ShortIsNone
  pub no_session_takes_nothing : NoSessionTakesNothing
  pub no_holding_holds_nothing : NoHoldingHoldsNothing
  pub lent_is_shaped : LentIsShaped
  pub holding_reads_back : HoldingReadsBack
  pub nothing_poured_nothing_remembered : NothingPouredNothingRemembered
  pub session_reads_back : SessionReadsBack
  pub session_lays_back : SessionLaysBack
  pub holding_lays_back : HoldingLaysBack
  pub equal_is_equal_octets : EqualIsEqualOctets
  pub repeat_changes_no_octet : RepeatChangesNoOctet
  pub equal_knowledge_equal_octets : EqualKnowledgeEqualOctets
  -- document 01, "What the promises have to say": any two outcomes allowed are equal; and the idle builds
  pub determined : Determined
  pub buildable : Buildable
  pub refuses_everything : RefusesEverything
  pub pours_erasures : PoursErasures
  pub stores_nothing : StoresNothing
  pub nods_at_later : NodsAtLater
  pub invents_lost_frames : InventsLostFrames
  pub invents_octet_counts : InventsOctetCounts
  -- document 02, (i): "Refusals 4 to 8 of a payload must carry the octet place of the fault: for 4 the payload's length, for 5 and 6 the
  -- entry's place, for 7 the place of the first body that doesn't fit whole, for 8 the first octet left over."
  pub place_inside : PlaceInside
  pub table_is_cut : TableIsCut
  pub type_is_reserved : TypeIsReserved
  pub entry_is_past_maximum : EntryIsPastMaximum
  pub bodies_are_cut : BodiesAreCut
  pub octets_are_left : OctetsAreLeft
  -- "Recordings do the same for 5 and 19, with the place of the entry octet." Writers "pass the place on"
  pub recording_faults : RecordingFaults
  pub entries_faults : EntriesFaults
  -- "the capture library pass the place on": what each packet of a capture is answered
  pub each_packet_answered : EachPacketAnswered
  pub answered_by_its_step : AnsweredByItsStep
  pub recorded_by_its_answers : RecordedByItsAnswers
  pub twelve_is_never_told : TwelveIsNeverTold
  pub no_packet_answers_21 : NoPacketAnswers21
  pub bad_capture_is_told : BadCaptureIsTold
  -- document 02, (ii): "Document 003, section 7, lets the timestamp clock decide, exactly 160 a frame." A recording does not come out short
  pub clock_decides : ClockDecides
  pub talk_is_recorded : TalkIsRecorded
  pub as_long_as_the_clock : AsLongAsTheClock
