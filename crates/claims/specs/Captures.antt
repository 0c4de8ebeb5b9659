-- Document 01, "Capture program": what holds of every capture. Of recordings of any kind.
use Rattle.std.specs.Prelude.{ℕ, ◌+◌, ◌≤◌, ◌<◌, ◌≡◌, List, [], ◌∷◌, ◌++◌, map, true, false, cond, ◌&&◌, T, eqb, leb, length, take, Err}
use Rattle.std.specs.Prelude.{replicate, get_or}
use Rattle.frame.specs.FrameTable.{Frame, single}
use Rattle.frame.specs.Shape.{Voice, voice_with}
use Rattle.entries.specs.Kind.{Kind, keeps_types, lists_erasure}
use Rattle.form.specs.declared.Form.{Form}
use Rattle.entries.specs.Entries.{entries_of}
use Rattle.entries.specs.Entries as entries
use Rattle.recording.specs.Recording.{recording_read}
use Rattle.answers.specs.declared.Refusal.TheVariants.{NotApplicable}
use Rattle.capture.specs.Capture.{Heard, count_of, start_at, packets_in, good}
use Rattle.capture.specs.Run.{capture_kind, capture_form, Step, first_session, lost_in, pouring, is_twelve, readied, answered_by, run_of}
use Rattle.capture.specs.Run.{whole_run, entries_recorded, packet_answered, answer_of, capture_recording, largest}
use Rattle.capture.specs.declared.CaptureError.TheVariants.{BadCapture}
use Rattle.claims.specs.Joinings.{HasRoom}
use Rattle.claims.specs.Offering.{SentGroup, Sent, sent_numbers, numbered, stamped, Within, PouredPlaces}

-- packet n of a group, as a box hands it over
abbrev pub heard_of : {v : Voice} {form : Form} → Sent v form → ℕ → Heard
heard_of g n =
    record {
      source = g.group.source;
      sequence = numbered (sent_numbers g.group) n;
      timestamp = stamped (sent_numbers g.group) n;
      payload = g.payload n;
    }

-- a recording of a group of which these packets were heard: at each time place the original frame, or an erasure
pub record RecordsGroup {v : Voice} (recording opening : List ℕ) (g : SentGroup v) (ns : List ℕ) : Type 0 where
  pub frames : List Frame
  pub behind_opening : recording ≡ opening ++ entries_of frames
  pub places : PouredPlaces frames g.frames g.l g.b ns

-- demand 3 through a capture: a group that was sent, any part of it, in any order, repeats allowed
unfoldable pub GroupIsRecorded : Type 0
GroupIsRecorded =
    (kind : Kind) → HasRoom (voice_with kind.table) → (g : Sent (voice_with kind.table) capture_form) (n : ℕ) (ns : List ℕ) →
    Within g.group.l (n ∷ ns) → (c : List ℕ) → packets_in c ≡ map (heard_of g) (n ∷ ns) →
    RecordsGroup (capture_recording kind c) kind.opening g.group (n ∷ ns)

-- the packets that have this source
abbrev pub from_source : ℕ → List Heard → List Heard
from_source source [] = []
from_source source (h ∷ hs) = cond (eqb h.source source) (h ∷ from_source source hs) (from_source source hs)

-- "The session takes the first packet's source": no packet of another source leaves a trace
unfoldable pub FirstSourceAlone : Type 0
FirstSourceAlone =
    (kind : Kind) (h : Heard) (hs : List Heard) → entries_recorded kind (h ∷ hs) ≡ entries_recorded kind (h ∷ from_source h.source hs)

-- so where all the others are of other sources, the first packet is recorded as if it had come alone
unfoldable pub OthersAreNotHeard : Type 0
OthersAreNotHeard =
    (kind : Kind) (h : Heard) (hs : List Heard) → from_source h.source hs ≡ [] →
    entries_recorded kind (h ∷ hs) ≡ entries_recorded kind (h ∷ [])

-- a recording: it is read as frames, and refused by nothing
pub record IsRecording (kind : Kind) (w : List ℕ) : Type 0 where
  pub frames : List Frame
  pub read : recording_read kind w ≡ entries.frames frames

-- "Otherwise it writes a recording", whatever the packets hold; a kind that passes these tests, as every vocoder's does (`KindsPass`)
unfoldable pub GivesARecording : Type 0
GivesARecording =
    (kind : Kind) → HasRoom (voice_with kind.table) → T (single kind.table kind.table) → T (keeps_types kind) →
    T (lists_erasure kind) → (c : List ℕ) → IsRecording kind (capture_recording kind c)

-- "Count 0 gives the seven opening octets."
unfoldable pub NoPacketGivesOpening : Type 0
NoPacketGivesOpening = (kind : Kind) (c : List ℕ) → count_of c ≡ 0 → capture_recording kind c ≡ kind.opening

-- no recording of a capture is larger than the room that the program has for it
unfoldable pub NothingIsLarger : Type 0
NothingIsLarger = (c : List ℕ) → good c ≡ true → length (capture_recording capture_kind c) ≤ largest

-- octets are a capture, and no fault is told of them, exactly if they are "at most 65,536", name "at most 256" packets, and the last
-- payload ends where they end, "nothing after" (octets that are not there read as 0)
unfoldable pub CaptureExactlyIf : Type 0
CaptureExactlyIf = (c : List ℕ) → good c ≡ (leb (length c) 65536 && leb (count_of c) 256 && eqb (start_at c (count_of c)) (length c))

-- ---- document 02, (i): "Sessions, writers and the capture library pass the place on." What each packet is answered in the run that makes
-- the recording, with its place in that packet's payload. After a 12 the held group is poured and the packet offered again, and the second
-- answer is told; so 12 never is

-- each packet is answered once
unfoldable pub EachPacketAnswered : Type 0
EachPacketAnswered = (kind : Kind) (hs : List Heard) → length (whole_run kind hs).answers ≡ length hs

-- the run over the packets before packet i
abbrev pub run_before : Kind → List Heard → ℕ → Step
run_before kind hs i = run_of kind (first_session hs) (take i hs)

-- packet i is answered by the session that the packets before it leave (`none` stands where there is no packet)
unfoldable pub AnsweredByItsStep : Type 0
AnsweredByItsStep =
    (kind : Kind) (hs : List Heard) (none : Heard) (i : ℕ) → i < length hs →
    packet_answered kind hs i ≡ answered_by kind (run_before kind hs i).session (get_or hs i none)

-- and it adds to the recording what is done before its last offer, the group that is poured on 12, and an erasure for each lost frame of
-- its answer; the last group comes last
pub record RecordedByItsAnswers : Type 0 where
  pub each : (kind : Kind) (hs : List Heard) (none : Heard) (i : ℕ) → i < length hs →
      let a = run_before kind hs i in
      (run_before kind hs (i + 1)).octets ≡
      a.octets ++ ((readied kind a.session (get_or hs i none)).octets ++ replicate (lost_in (packet_answered kind hs i)) kind.erasure)
  pub whole : (kind : Kind) (hs : List Heard) →
      let a = run_before kind hs (length hs) in
      entries_recorded kind hs ≡ a.octets ++ (pouring kind.table a.session).octets

-- 12 is never told
unfoldable pub TwelveIsNeverTold : Type 0
TwelveIsNeverTold = (kind : Kind) (hs : List Heard) (i : ℕ) → is_twelve (packet_answered kind hs i) ≡ false

-- 21 for no such packet
unfoldable pub NoPacketAnswers21 : Type 0
NoPacketAnswers21 = (kind : Kind) (hs : List Heard) (i : ℕ) → length hs ≤ i → packet_answered kind hs i ≡ Err NotApplicable

-- before that 255, exactly if it is no capture
unfoldable pub BadCaptureIsTold : Type 0
BadCaptureIsTold =
    (kind : Kind) (c : List ℕ) (i : ℕ) →
    (good c ≡ false → answer_of kind c i ≡ Err BadCapture) × (answer_of kind c i ≡ Err BadCapture → good c ≡ false)
