-- Document 01, "Capture program": the run of a session over the packets of a capture, and its recording. Of any kind.
use Rattle.std.specs.Prelude.{ℕ, ◌+◌, ◌*◌, ◌≤◌, ◌≡◌, Bool, false, cond, List, [], ◌∷◌, ◌++◌, length, replicate, get_or, eqb, Result, Ok}
use Rattle.std.specs.Prelude.{Err}
use Rattle.answers.specs.declared.Refusal.{Refusal}
use Rattle.octets.specs.Octets.{over}
use Rattle.frame.specs.declared.Vocoder.{Vocoder}
use Rattle.frame.specs.FrameTable.{FrameTable}
use Rattle.frame.specs.Shape.{holding_shape, voice_with}
use Rattle.answers.specs.Answers.{number_of}
use Rattle.answers.specs.Outputs.{Made, octets, refused_output, written_of, out_after}
use Rattle.answers.specs.declared.Refusal.TheVariants.{NotApplicable}
use Rattle.form.specs.declared.Form.{Form}
use Rattle.form.specs.declared.Form.TheVariants.{Interleaved}
use Rattle.form.specs.Agreed.{vocoder_of}
use Rattle.entries.specs.Kind.{Kind, kind_of}
use Rattle.numbers.specs.Place.{minute}
use Rattle.session.specs.Session.{Offered, never_opened, fresh, offered, pour_made, ended}
use Rattle.session.specs.declared.Session.{Session}
use Rattle.capture.specs.Capture.{Heard, packets_in, good}
use Rattle.capture.specs.declared.CaptureError.{CaptureError}
use Rattle.capture.specs.declared.CaptureError.TheVariants.{BadCapture, Refused}

-- a step of the run: the session after it, the octets that it records, and what the packets of it were answered
pub record Step : Type 0 where
  pub session : Session
  pub octets : List ℕ
  pub answers : List (Result ℕ Refusal)

-- a step that records nothing
abbrev pub still : Session → List (Result ℕ Refusal) → Step
still s answers = record { session = s; octets = []; answers = answers }

-- a step, and then another from the session that it leaves
unfoldable pub and_then : Step → (Session → Step) → Step
and_then a f =
    record {
      session = (f a.session).session;
      octets = a.octets ++ (f a.session).octets;
      answers = a.answers ++ (f a.session).answers;
    }

-- "interleaved, maxima 7 and 10"
unfoldable pub capture_form : Form
capture_form = Interleaved (record { max_l = 7; max_b = 10 })

-- the vocoder of a capture's packets
abbrev pub capture_vocoder : Vocoder
capture_vocoder = vocoder_of capture_form

-- the kind of its recording
abbrev pub capture_kind : Kind
capture_kind = kind_of capture_vocoder

-- "The session takes the first packet's source"
unfoldable pub first_session : List Heard → Session
first_session [] = never_opened holding_shape
first_session (h ∷ hs) = fresh holding_shape h.source capture_form

-- a packet of the capture, offered with its own numbers
unfoldable pub offered_to : FrameTable → Session → Heard → Offered
offered_to table s h = offered (voice_with table) s h.source h.sequence h.timestamp h.payload

-- "reported lost frames become entries 0E"; a refusal "skips the packet"
unfoldable pub taken_of : Kind → Session → Session → Result ℕ Refusal → Step
taken_of kind s t (Ok lost) = record { session = t; octets = replicate lost kind.erasure; answers = Ok lost ∷ [] }
taken_of kind s t (Err r) = still s (Err r ∷ [])

-- the lost frames of an answer
unfoldable pub lost_in : Result ℕ Refusal → ℕ
lost_in (Ok lost) = lost
lost_in (Err r) = 0

-- the step that an offer is ("Capture program")
unfoldable pub offering : Kind → Session → Heard → Step
offering kind s h = taken_of kind s (offered_to kind.table s h).session (offered_to kind.table s h).answer

-- the held group poured, if there is one
unfoldable pub poured_of : Session → Made → Step
poured_of s (octets w) = record { session = ended holding_shape s; octets = w; answers = [] }
poured_of s (refused_output r) = still s []

-- the step that pouring is: the group's entries, and the session after it
unfoldable pub pouring : FrameTable → Session → Step
pouring table s = poured_of s (pour_made (voice_with table) s)

-- "on 12": the answer that tells of a later group
unfoldable pub is_twelve : Result ℕ Refusal → Bool
is_twelve (Ok lost) = false
is_twelve (Err r) = eqb (number_of r) 12

-- "on 12 it pours": what is done before a packet is offered for the last time; if it was not 12, the first offer is the last
unfoldable pub readied : Kind → Session → Heard → Step
readied kind s h = cond (is_twelve (offered_to kind.table s h).answer) (pouring kind.table s) (still s [])

-- what the packet is answered: that of its last offer
abbrev pub answered_by : Kind → Session → Heard → Result ℕ Refusal
answered_by kind s h = (offered_to kind.table (readied kind s h).session h).answer

-- "on 12 it pours and offers again; any other refusal skips the packet"
unfoldable pub step_of : Kind → Session → Heard → Step
step_of kind s h = and_then (readied kind s h) (λ t. offering kind t h)

-- all packets of the capture, one after the other
unfoldable pub run_of : Kind → Session → List Heard → Step
run_of kind s [] = still s []
run_of kind s (h ∷ hs) = and_then (step_of kind s h) (λ t. run_of kind t hs)

-- the whole run over these packets: "at the end it pours what is held"
unfoldable pub whole_run : Kind → List Heard → Step
whole_run kind hs = and_then (run_of kind (first_session hs) hs) (pouring kind.table)

-- what is recorded of these packets
unfoldable pub entries_recorded : Kind → List Heard → List ℕ
entries_recorded kind hs = (whole_run kind hs).octets

-- and what packet i of them was answered, after the second offer that a 12 brings; 21 if there is none
unfoldable pub packet_answered : Kind → List Heard → ℕ → Result ℕ Refusal
packet_answered kind hs i = get_or (whole_run kind hs).answers i (Err NotApplicable)

-- the recording of a capture: the opening octets, and what is recorded of its packets
unfoldable pub capture_recording : Kind → List ℕ → List ℕ
capture_recording kind c = kind.opening ++ entries_recorded kind (packets_in c)

-- the most octets that a recording can have: the opening, 300 for each of 256 packets that begins a group of its own, with ten frames of
-- 22 octets at 80 places, and a minute of lost frames (02, ii) before each but the first
abbrev pub largest : ℕ
largest = 7 + 256 * 300 + 255 * minute

-- ---- what the calls promise

-- written over an output from index `at` on, where it fits
abbrev pub Put : List ℕ → ℕ → List ℕ → List ℕ → Type 0
Put before at w after = at + length w ≤ length before → after ≡ over before at w

-- a run over a capture: its session, and the octets recorded so far
pub record Run : Type 0 where
  pub session : Session
  pub octets : ℕ

-- a step that is done: its session, its octets counted behind `at`, and written there where they fit
pub record Does (step : Step) (at : ℕ) (before : List ℕ) (r : Run) (after : List ℕ) : Type 0 where
  pub session : r.session ≡ step.session
  pub counted : r.octets ≡ at + length step.octets
  pub written : Put before at step.octets after

-- what a call on a good capture answers
abbrev pub of_good : Result ℕ Refusal → Result ℕ CaptureError
of_good (Ok n) = Ok n
of_good (Err r) = Err (Refused r)

-- "A bad capture gives the line "bad capture" and no more. Otherwise it writes a recording."
unfoldable pub record_answer : Kind → List ℕ → List ℕ → Result ℕ CaptureError
record_answer kind c out = cond (good c) (of_good (written_of (octets (capture_recording kind c)) out)) (Err BadCapture)

-- (02, i) "the capture library pass the place on": what packet i of a capture was answered in the run that makes its recording
unfoldable pub answer_of : Kind → List ℕ → ℕ → Result ℕ CaptureError
answer_of kind c i = cond (good c) (of_good (packet_answered kind (packets_in c) i)) (Err BadCapture)

-- the lent output after recording: a bad capture and 15 leave it as it was
unfoldable pub record_output : Kind → List ℕ → List ℕ → List ℕ
record_output kind c out = cond (good c) (out_after (octets (capture_recording kind c)) out) out
