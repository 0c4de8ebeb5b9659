-- Made by tools/calls --write from the sources: the public calls of crates/landing.
use Rattle.std.specs.Prelude.{ℕ, List}
use Rattle.landing.proofs as contracts
use Rattle.claims.specs.Call.{Call, WithPlace}
use Rattle.claims.specs.Calls.Lent.{LentCount, LentHolding, LentKindStartSize, LentLNBD, LentLost, LentOut, LentOutWritten, LentSession}
use Rattle.claims.specs.Calls.Lent.{LentSessionLost, LentSessionOutWritten, LentSourceSequenceTimestampLBHeld}

-- lv_payload_read(form: u8, max_l: u8, max_b: u8, payload: &[u8], l: &mut u8, n: &mut u8, b: &mut u8, d: &mut u8, place: &mut usize) -> u8
abbrev pub lv_payload_read : Call
lv_payload_read = record {
  lifetimes = 6;
  parameters = contracts.lv_payload_read.Kinds.ps;
  result = contracts.lv_payload_read.Kinds.r;
  allows = contracts.lv_payload_read.Reads.Post;
  Answer = ℕ;
  answer = λ κs x. x;
  Given = ℕ × (ℕ × (ℕ × List ℕ));
  given = λ κs a. (a.0, (a.1.0, (a.1.1.0, a.1.1.1.0.now)));
  Lent = WithPlace LentLNBD;
  lent = λ κs a. record {
    place = a.1.1.1.1.1.1.1.1.0.now;
    rest = record { l = a.1.1.1.1.0.now; n = a.1.1.1.1.1.0.now; b = a.1.1.1.1.1.1.0.now; d = a.1.1.1.1.1.1.1.0.now };
  };
  left = λ κs s. record {
    place = s.1.1.1.1.1.1.1.1.0.now;
    rest = record { l = s.1.1.1.1.0.now; n = s.1.1.1.1.1.0.now; b = s.1.1.1.1.1.1.0.now; d = s.1.1.1.1.1.1.1.0.now };
  };
}

-- lv_payload_frame(form: u8, max_l: u8, max_b: u8, payload: &[u8], k: usize, kind: &mut u8, start: &mut usize, size: &mut usize, place:
-- &mut usize) -> u8
abbrev pub lv_payload_frame : Call
lv_payload_frame = record {
  lifetimes = 5;
  parameters = contracts.lv_payload_frame.Kinds.ps;
  result = contracts.lv_payload_frame.Kinds.r;
  allows = contracts.lv_payload_frame.Reads.Post;
  Answer = ℕ;
  answer = λ κs x. x;
  Given = ℕ × (ℕ × (ℕ × (List ℕ × ℕ)));
  given = λ κs a. (a.0, (a.1.0, (a.1.1.0, (a.1.1.1.0.now, a.1.1.1.1.0))));
  Lent = WithPlace LentKindStartSize;
  lent = λ κs a. record {
    place = a.1.1.1.1.1.1.1.1.0.now;
    rest = record { kind = a.1.1.1.1.1.0.now; start = a.1.1.1.1.1.1.0.now; size = a.1.1.1.1.1.1.1.0.now };
  };
  left = λ κs s. record {
    place = s.1.1.1.1.1.1.1.1.0.now;
    rest = record { kind = s.1.1.1.1.1.0.now; start = s.1.1.1.1.1.1.0.now; size = s.1.1.1.1.1.1.1.0.now };
  };
}

-- lv_recording_read(recording: &[u8], count: &mut usize, place: &mut usize) -> u8
abbrev pub lv_recording_read : Call
lv_recording_read = record {
  lifetimes = 3;
  parameters = contracts.lv_recording_read.Kinds.ps;
  result = contracts.lv_recording_read.Kinds.r;
  allows = contracts.lv_recording_read.Reads.Post;
  Answer = ℕ;
  answer = λ κs x. x;
  Given = List ℕ;
  given = λ κs a. a.0.now;
  Lent = WithPlace LentCount;
  lent = λ κs a. record {
    place = a.1.1.0.now;
    rest = record { count = a.1.0.now };
  };
  left = λ κs s. record {
    place = s.1.1.0.now;
    rest = record { count = s.1.0.now };
  };
}

-- lv_recording_frame(recording: &[u8], k: usize, kind: &mut u8, start: &mut usize, size: &mut usize, place: &mut usize) -> u8
abbrev pub lv_recording_frame : Call
lv_recording_frame = record {
  lifetimes = 5;
  parameters = contracts.lv_recording_frame.Kinds.ps;
  result = contracts.lv_recording_frame.Kinds.r;
  allows = contracts.lv_recording_frame.Reads.Post;
  Answer = ℕ;
  answer = λ κs x. x;
  Given = List ℕ × ℕ;
  given = λ κs a. (a.0.now, a.1.0);
  Lent = WithPlace LentKindStartSize;
  lent = λ κs a. record {
    place = a.1.1.1.1.1.0.now;
    rest = record { kind = a.1.1.0.now; start = a.1.1.1.0.now; size = a.1.1.1.1.0.now };
  };
  left = λ κs s. record {
    place = s.1.1.1.1.1.0.now;
    rest = record { kind = s.1.1.0.now; start = s.1.1.1.0.now; size = s.1.1.1.1.0.now };
  };
}

-- lv_recording_write(entries: &[u8], out: &mut [u8], written: &mut usize, place: &mut usize) -> u8
abbrev pub lv_recording_write : Call
lv_recording_write = record {
  lifetimes = 4;
  parameters = contracts.lv_recording_write.Kinds.ps;
  result = contracts.lv_recording_write.Kinds.r;
  allows = contracts.lv_recording_write.Reads.Post;
  Answer = ℕ;
  answer = λ κs x. x;
  Given = List ℕ;
  given = λ κs a. a.0.now;
  Lent = WithPlace LentOutWritten;
  lent = λ κs a. record {
    place = a.1.1.1.0.now;
    rest = record { out = a.1.0.now; written = a.1.1.0.now };
  };
  left = λ κs s. record {
    place = s.1.1.1.0.now;
    rest = record { out = s.1.0.now; written = s.1.1.0.now };
  };
}

-- lv_packet_write(form: u8, max_l: u8, max_b: u8, l: u8, n: u8, b: u8, d: u8, entries: &[u8], out: &mut [u8], written: &mut usize, place:
-- &mut usize) -> u8
abbrev pub lv_packet_write : Call
lv_packet_write = record {
  lifetimes = 4;
  parameters = contracts.lv_packet_write.Kinds.ps;
  result = contracts.lv_packet_write.Kinds.r;
  allows = contracts.lv_packet_write.Reads.Post;
  Answer = ℕ;
  answer = λ κs x. x;
  Given = ℕ × (ℕ × (ℕ × (ℕ × (ℕ × (ℕ × (ℕ × List ℕ))))));
  given = λ κs a. (a.0, (a.1.0, (a.1.1.0, (a.1.1.1.0, (a.1.1.1.1.0, (a.1.1.1.1.1.0, (a.1.1.1.1.1.1.0, a.1.1.1.1.1.1.1.0.now)))))));
  Lent = WithPlace LentOutWritten;
  lent = λ κs a. record {
    place = a.1.1.1.1.1.1.1.1.1.1.0.now;
    rest = record { out = a.1.1.1.1.1.1.1.1.0.now; written = a.1.1.1.1.1.1.1.1.1.0.now };
  };
  left = λ κs s. record {
    place = s.1.1.1.1.1.1.1.1.1.1.0.now;
    rest = record { out = s.1.1.1.1.1.1.1.1.0.now; written = s.1.1.1.1.1.1.1.1.1.0.now };
  };
}

-- lv_packet_write_header_free(form: u8, max_l: u8, max_b: u8, entries: &[u8], out: &mut [u8], written: &mut usize, place: &mut usize) -> u8
abbrev pub lv_packet_write_header_free : Call
lv_packet_write_header_free = record {
  lifetimes = 4;
  parameters = contracts.lv_packet_write_header_free.Kinds.ps;
  result = contracts.lv_packet_write_header_free.Kinds.r;
  allows = contracts.lv_packet_write_header_free.Reads.Post;
  Answer = ℕ;
  answer = λ κs x. x;
  Given = ℕ × (ℕ × (ℕ × List ℕ));
  given = λ κs a. (a.0, (a.1.0, (a.1.1.0, a.1.1.1.0.now)));
  Lent = WithPlace LentOutWritten;
  lent = λ κs a. record {
    place = a.1.1.1.1.1.1.0.now;
    rest = record { out = a.1.1.1.1.0.now; written = a.1.1.1.1.1.0.now };
  };
  left = λ κs s. record {
    place = s.1.1.1.1.1.1.0.now;
    rest = record { out = s.1.1.1.1.0.now; written = s.1.1.1.1.1.0.now };
  };
}

-- lv_capture_record(capture: &[u8], out: &mut [u8], written: &mut usize) -> u8
abbrev pub lv_capture_record : Call
lv_capture_record = record {
  lifetimes = 3;
  parameters = contracts.lv_capture_record.Kinds.ps;
  result = contracts.lv_capture_record.Kinds.r;
  allows = contracts.lv_capture_record.Reads.Post;
  Answer = ℕ;
  answer = λ κs x. x;
  Given = List ℕ;
  given = λ κs a. a.0.now;
  Lent = LentOutWritten;
  lent = λ κs a. record { out = a.1.0.now; written = a.1.1.0.now };
  left = λ κs s. record { out = s.1.0.now; written = s.1.1.0.now };
}

-- lv_capture_answer(capture: &[u8], i: usize, lost: &mut usize, place: &mut usize) -> u8
abbrev pub lv_capture_answer : Call
lv_capture_answer = record {
  lifetimes = 3;
  parameters = contracts.lv_capture_answer.Kinds.ps;
  result = contracts.lv_capture_answer.Kinds.r;
  allows = contracts.lv_capture_answer.Reads.Post;
  Answer = ℕ;
  answer = λ κs x. x;
  Given = List ℕ × ℕ;
  given = λ κs a. (a.0.now, a.1.0);
  Lent = WithPlace LentLost;
  lent = λ κs a. record {
    place = a.1.1.1.0.now;
    rest = record { lost = a.1.1.0.now };
  };
  left = λ κs s. record {
    place = s.1.1.1.0.now;
    rest = record { lost = s.1.1.0.now };
  };
}

-- lv_session_open(source: u32, form: u8, max_l: u8, max_b: u8, session: &mut [u8]) -> u8
abbrev pub lv_session_open : Call
lv_session_open = record {
  lifetimes = 1;
  parameters = contracts.lv_session_open.Kinds.ps;
  result = contracts.lv_session_open.Kinds.r;
  allows = contracts.lv_session_open.Reads.Post;
  Answer = ℕ;
  answer = λ κs x. x;
  Given = ℕ × (ℕ × (ℕ × ℕ));
  given = λ κs a. (a.0, (a.1.0, (a.1.1.0, a.1.1.1.0)));
  Lent = LentSession;
  lent = λ κs a. record { session = a.1.1.1.1.0.now };
  left = λ κs s. record { session = s.1.1.1.1.0.now };
}

-- lv_session_offer(session: &mut [u8], source: u32, sequence: u16, timestamp: u32, payload: &[u8], lost: &mut usize, place: &mut usize) ->
-- u8
abbrev pub lv_session_offer : Call
lv_session_offer = record {
  lifetimes = 4;
  parameters = contracts.lv_session_offer.Kinds.ps;
  result = contracts.lv_session_offer.Kinds.r;
  allows = contracts.lv_session_offer.Reads.Post;
  Answer = ℕ;
  answer = λ κs x. x;
  Given = ℕ × (ℕ × (ℕ × List ℕ));
  given = λ κs a. (a.1.0, (a.1.1.0, (a.1.1.1.0, a.1.1.1.1.0.now)));
  Lent = WithPlace LentSessionLost;
  lent = λ κs a. record {
    place = a.1.1.1.1.1.1.0.now;
    rest = record { session = a.0.now; lost = a.1.1.1.1.1.0.now };
  };
  left = λ κs s. record {
    place = s.1.1.1.1.1.1.0.now;
    rest = record { session = s.0.now; lost = s.1.1.1.1.1.0.now };
  };
}

-- lv_session_pour(session: &mut [u8], out: &mut [u8], written: &mut usize) -> u8
abbrev pub lv_session_pour : Call
lv_session_pour = record {
  lifetimes = 3;
  parameters = contracts.lv_session_pour.Kinds.ps;
  result = contracts.lv_session_pour.Kinds.r;
  allows = contracts.lv_session_pour.Reads.Post;
  Answer = ℕ;
  answer = λ κs x. x;
  Given = Unit {0};
  given = λ κs a. tt;
  Lent = LentSessionOutWritten;
  lent = λ κs a. record { session = a.0.now; out = a.1.0.now; written = a.1.1.0.now };
  left = λ κs s. record { session = s.0.now; out = s.1.0.now; written = s.1.1.0.now };
}

-- lv_session_copy(session: &[u8], holding: &mut [u8]) -> u8
abbrev pub lv_session_copy : Call
lv_session_copy = record {
  lifetimes = 2;
  parameters = contracts.lv_session_copy.Kinds.ps;
  result = contracts.lv_session_copy.Kinds.r;
  allows = contracts.lv_session_copy.Reads.Post;
  Answer = ℕ;
  answer = λ κs x. x;
  Given = List ℕ;
  given = λ κs a. a.0.now;
  Lent = LentHolding;
  lent = λ κs a. record { holding = a.1.0.now };
  left = λ κs s. record { holding = s.1.0.now };
}

-- lv_session_drop(session: &mut [u8]) -> u8
abbrev pub lv_session_drop : Call
lv_session_drop = record {
  lifetimes = 1;
  parameters = contracts.lv_session_drop.Kinds.ps;
  result = contracts.lv_session_drop.Kinds.r;
  allows = contracts.lv_session_drop.Reads.Post;
  Answer = ℕ;
  answer = λ κs x. x;
  Given = Unit {0};
  given = λ κs a. tt;
  Lent = LentSession;
  lent = λ κs a. record { session = a.0.now };
  left = λ κs s. record { session = s.0.now };
}

-- lv_session_end(session: &mut [u8]) -> u8
abbrev pub lv_session_end : Call
lv_session_end = record {
  lifetimes = 1;
  parameters = contracts.lv_session_end.Kinds.ps;
  result = contracts.lv_session_end.Kinds.r;
  allows = contracts.lv_session_end.Reads.Post;
  Answer = ℕ;
  answer = λ κs x. x;
  Given = Unit {0};
  given = λ κs a. tt;
  Lent = LentSession;
  lent = λ κs a. record { session = a.0.now };
  left = λ κs s. record { session = s.0.now };
}

-- lv_holding_join(a: &[u8], b: &[u8], out: &mut [u8]) -> u8
abbrev pub lv_holding_join : Call
lv_holding_join = record {
  lifetimes = 3;
  parameters = contracts.lv_holding_join.Kinds.ps;
  result = contracts.lv_holding_join.Kinds.r;
  allows = contracts.lv_holding_join.Reads.Post;
  Answer = ℕ;
  answer = λ κs x. x;
  Given = List ℕ × List ℕ;
  given = λ κs a. (a.0.now, a.1.0.now);
  Lent = LentOut;
  lent = λ κs a. record { out = a.1.1.0.now };
  left = λ κs s. record { out = s.1.1.0.now };
}

-- lv_holding_pour(holding: &[u8], out: &mut [u8], written: &mut usize) -> u8
abbrev pub lv_holding_pour : Call
lv_holding_pour = record {
  lifetimes = 3;
  parameters = contracts.lv_holding_pour.Kinds.ps;
  result = contracts.lv_holding_pour.Kinds.r;
  allows = contracts.lv_holding_pour.Reads.Post;
  Answer = ℕ;
  answer = λ κs x. x;
  Given = List ℕ;
  given = λ κs a. a.0.now;
  Lent = LentOutWritten;
  lent = λ κs a. record { out = a.1.0.now; written = a.1.1.0.now };
  left = λ κs s. record { out = s.1.0.now; written = s.1.1.0.now };
}

-- lv_holding_read(holding: &[u8], source: &mut u32, sequence: &mut u16, timestamp: &mut u32, l: &mut u8, b: &mut u8, held: &mut u8) -> u8
abbrev pub lv_holding_read : Call
lv_holding_read = record {
  lifetimes = 7;
  parameters = contracts.lv_holding_read.Kinds.ps;
  result = contracts.lv_holding_read.Kinds.r;
  allows = contracts.lv_holding_read.Reads.Post;
  Answer = ℕ;
  answer = λ κs x. x;
  Given = List ℕ;
  given = λ κs a. a.0.now;
  Lent = LentSourceSequenceTimestampLBHeld;
  lent = λ κs a. record {
    source = a.1.0.now;
    sequence = a.1.1.0.now;
    timestamp = a.1.1.1.0.now;
    l = a.1.1.1.1.0.now;
    b = a.1.1.1.1.1.0.now;
    held = a.1.1.1.1.1.1.0.now;
  };
  left = λ κs s. record {
    source = s.1.0.now;
    sequence = s.1.1.0.now;
    timestamp = s.1.1.1.0.now;
    l = s.1.1.1.1.0.now;
    b = s.1.1.1.1.1.0.now;
    held = s.1.1.1.1.1.1.0.now;
  };
}

-- lv_holding_lost(before: &[u8], after: &[u8], lost: &mut usize) -> u8
abbrev pub lv_holding_lost : Call
lv_holding_lost = record {
  lifetimes = 3;
  parameters = contracts.lv_holding_lost.Kinds.ps;
  result = contracts.lv_holding_lost.Kinds.r;
  allows = contracts.lv_holding_lost.Reads.Post;
  Answer = ℕ;
  answer = λ κs x. x;
  Given = List ℕ × List ℕ;
  given = λ κs a. (a.0.now, a.1.0.now);
  Lent = LentLost;
  lent = λ κs a. record { lost = a.1.1.0.now };
  left = λ κs s. record { lost = s.1.1.0.now };
}
