-- Document 02, (ii), "Pauses are counted wrongly": what is lost before a group goes by the clock, and the recording of a talk with silences
-- is as long as the talk.
use Rattle.std.specs.Prelude.{ℕ, ◌+◌, ◌-◌, ◌*◌, ◌/◌, ◌%◌, ◌≤◌, ◌<◌, ◌≡◌, List, [], ◌∷◌, ◌++◌, length, replicate, Ok}
use Rattle.frame.specs.FrameTable.{Frame}
use Rattle.frame.specs.Shape.{Voice, voice_with}
use Rattle.frame.specs.Places.{up_to}
use Rattle.entries.specs.Kind.{Kind}
use Rattle.entries.specs.Entries.{entries_of}
use Rattle.entries.specs.Entries as entries
use Rattle.recording.specs.Recording.{recording_read}
use Rattle.form.specs.declared.Form.{Form}
use Rattle.numbers.specs.Place.{distance, gap, pause, after_poured}
use Rattle.numbers.specs.declared.GroupNumbers.{GroupNumbers}
use Rattle.numbers.specs.declared.Verdict.TheVariants.{Begins}
use Rattle.capture.specs.Capture.{Heard, packets_in}
use Rattle.capture.specs.Run.{capture_kind, capture_form, capture_recording}
use Rattle.claims.specs.Joinings.{HasRoom}
use Rattle.claims.specs.Offering.{Sent, sent_numbers, numbered, stamped}
use Rattle.claims.specs.Demand3.{Writers, ByWriter, forms_of}

-- ---- after a poured group

-- "lets the timestamp clock decide": of sequence numbers that are not those of an earlier group, none does
pub record ClockDecides : Type 0 where
  pub alone : (poured new other : GroupNumbers) → gap poured new < 32768 → gap poured other < 32768 → new.timestamp ≡ other.timestamp →
      after_poured poured new ≡ after_poured poured other
  -- a gap in the sequence numbers, and none in time: no frame is lost
  pub gap_without_pause : (poured new : GroupNumbers) → gap poured new < 32768 → pause poured new ≡ 0 →
      after_poured poured new ≡ Ok (Begins 0)
  -- "A pause uses no sequence numbers": its frames are counted as lost
  pub pause_without_gap : (poured new : GroupNumbers) → gap poured new ≡ 0 → (k : ℕ) → k ≤ 3000 → pause poured new ≡ 160 * k →
      after_poured poured new ≡ Ok (Begins k)

-- ---- a talk

-- a group of a talk, as it was spoken: its frames in time order and its payloads; when it starts, by a clock that never begins anew; and
-- the silence before it, in frames
pub record Spoken : Type 0 where
  pub source : ℕ
  pub numbers : GroupNumbers
  pub frames : List Frame
  pub payload : ℕ → List ℕ
  pub start : ℕ
  pub silence : ℕ

-- it ends "160 x (L + 1) x B" later
abbrev pub end_of : Spoken → ℕ
end_of g = g.start + 160 * ((g.numbers.l + 1) * g.numbers.b)

-- its packet n, numbered and stamped, as a box hands it over
abbrev pub spoken_packet : Spoken → ℕ → Heard
spoken_packet g n =
    record { source = g.source; sequence = numbered g.numbers n; timestamp = stamped g.numbers n; payload = g.payload n }

-- all packets of these groups, one after the other: heard whole, in order
abbrev pub heard_whole : List Spoken → List Heard
heard_whole [] = []
heard_whole (g ∷ gs) = up_to (spoken_packet g) (g.numbers.l + 1) ++ heard_whole gs

-- a later group by its sequence number: "d from L + 1 to 32,767"
pub record Later (a b : GroupNumbers) : Type 0 where
  pub behind : a.l + 1 ≤ distance a b
  pub near : distance a b ≤ 32767

-- a group that follows another: of the same source, later, after a silence of whole frames, a minute at most
pub record Follows (a b : Spoken) : Type 0 where
  pub same_source : b.source ≡ a.source
  pub later : Later a.numbers b.numbers
  pub short : b.silence ≤ 3000
  pub in_time : b.start ≡ end_of a + 160 * b.silence

-- each follows the one before it
abbrev pub InTurn : Spoken → List Spoken → Type 0
InTurn a [] = Unit {0}
InTurn a (b ∷ bs) = Follows a b × InTurn b bs

-- when the last of them ends
abbrev pub last_end : Spoken → List Spoken → ℕ
last_end a [] = end_of a
last_end a (b ∷ bs) = last_end b bs

-- what was spoken, in time: an erasure for each frame of silence
abbrev pub spoken_after : Kind → List Spoken → List Frame
spoken_after kind [] = []
spoken_after kind (g ∷ gs) = replicate g.silence (record { type = kind.erasure; body = [] }) ++ (g.frames ++ spoken_after kind gs)

-- the first group, and all after it
abbrev pub spoken_from : Kind → Spoken → List Spoken → List Frame
spoken_from kind a bs = a.frames ++ spoken_after kind bs

-- of each group of a talk
abbrev pub Each : (Spoken → Type 0) → List Spoken → Type 0
Each P [] = Unit {0}
Each P (g ∷ gs) = P g × Each P gs

-- a group that was sent, stamped by the clock: its base timestamp is the clock's, modulo 4,294,967,296
pub record SentAs (v : Voice) (form : Form) (g : Spoken) : Type 0 where
  pub sent : Sent v form
  pub its_source : sent.group.source ≡ g.source
  pub its_numbers : sent_numbers sent.group ≡ g.numbers
  pub its_frames : sent.group.frames ≡ g.frames
  pub its_payload : (n : ℕ) → sent.payload n ≡ g.payload n
  pub by_the_clock : g.numbers.timestamp ≡ g.start % 4294967296

-- the recording of a talk is the talk: of groups of any kind that were sent
unfoldable pub TalkIsRecorded : Type 0
TalkIsRecorded =
    (kind : Kind) → HasRoom (voice_with kind.table) → (a : Spoken) (bs : List Spoken) →
    Each (SentAs (voice_with kind.table) capture_form) (a ∷ bs) → InTurn a bs →
    (c : List ℕ) → packets_in c ≡ heard_whole (a ∷ bs) → capture_recording kind c ≡ kind.opening ++ entries_of (spoken_from kind a bs)

-- a group that our writer wrote, in a form that a capture's session admits, stamped by the clock
pub record WrittenAs (writers : Writers) (g : Spoken) : Type 0 where
  pub sequence_fits : g.numbers.sequence < 65536
  pub written : ByWriter writers g.numbers g.frames g.payload
  pub admitted : forms_of written capture_form
  pub by_the_clock : g.numbers.timestamp ≡ g.start % 4294967296

-- a talk of such groups, one after the other, and a capture in which all of it was heard, in order
pub record Talk (writers : Writers) (a : Spoken) (bs : List Spoken) (c : List ℕ) : Type 0 where
  pub written : Each (WrittenAs writers) (a ∷ bs)
  pub in_turn : InTurn a bs
  pub heard : packets_in c ≡ heard_whole (a ∷ bs)

-- a recording that is read as these frames, of 160 counts each from one time of the clock to another
pub record Lasts (recording : List ℕ) (fs : List Frame) (from to : ℕ) : Type 0 where
  pub read : recording_read capture_kind recording ≡ entries.frames fs
  pub as_long : length fs ≡ (to - from) / 160
  pub whole : 160 * length fs ≡ to - from

-- "so our recordings come out short": they do not. Groups of our writer, with silences of whole frames between them, a minute each at most,
-- heard whole, in order: the recording of such a capture has as many frames as the clock counted from the first group's start to the last
-- one's end, and they are those that were spoken
unfoldable pub AsLongAsTheClock : Type 0
AsLongAsTheClock =
    (writers : Writers) (a : Spoken) (bs : List Spoken) (c : List ℕ) → Talk writers a bs c →
    Lasts (capture_recording capture_kind c) (spoken_from capture_kind a bs) a.start (last_end a bs)
