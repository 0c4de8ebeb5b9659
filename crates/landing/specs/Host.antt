-- Document 01, "Answers by number", and document 02, (i): what the C calls answer in numbers, and what out-parameters hold afterwards.
use Rattle.std.specs.Prelude.{ℕ, List, cond, eqb, Option, Some, None, Result, Ok, Err}
use Rattle.answers.specs.declared.Refusal.{Refusal}
use Rattle.answers.specs.Answers.{number_of, place_of}
use Rattle.entries.specs.Kind.{Kind, kind_of}
use Rattle.frame.specs.Places.{Given}
use Rattle.frame.specs.Places as places
use Rattle.form.specs.Agreed.{vocoder_of, table_of}
use Rattle.form.specs.declared.Form.{Form}
use Rattle.form.specs.declared.Form.TheVariants.{HeaderFree, Interleaved}
use Rattle.answers.specs.declared.Refusal.TheVariants.{NotApplicable}
use Rattle.frame.specs.declared.Located.{Located}
use Rattle.payload.specs.Payload.{Reading, read_as}
use Rattle.payload.specs.Payload as payload
use Rattle.payload.specs.Shown.{given_as}
use Rattle.payload.specs.declared.Contents.{Contents}
use Rattle.answers.specs.Outputs.{Made, written_of, out_after}
use Rattle.answers.specs.Outputs as outputs
use Rattle.packet.specs.Writing.{packet_made, header_free_made}
use Rattle.capture.specs.Run.{record_answer, record_output}
use Rattle.capture.specs.declared.CaptureError.{CaptureError}
use Rattle.capture.specs.declared.CaptureError.TheVariants.{BadCapture, Refused}
use Rattle.holding.specs.declared.Described.{Described}
use Rattle.lending.specs.Calls.{open_answer, open_octets}

-- form 0 is header-free, its maxima ignored; 1 is interleaved; any other answers 21
abbrev pub named_form : ℕ → ℕ → ℕ → Result Form Refusal
named_form f l b =
    cond (eqb f 0) (Ok HeaderFree)
    (cond (eqb f 1) (Ok (Interleaved (record { max_l = l; max_b = b }))) (Err NotApplicable))

-- a payload read in the form that the host names
unfoldable pub read_named : Result Form Refusal → List ℕ → Reading
read_named (Ok f) p = read_as (table_of f) f p
read_named (Err r) p = payload.refused_payload r

-- and what it gives
unfoldable pub given_named : Result Form Refusal → List ℕ → Given
given_named (Ok f) p = given_as (table_of f) f p
given_named (Err r) p = places.refused_frames r

-- what the writers make in the form that the host names
unfoldable pub packet_named : Result Form Refusal → ℕ → ℕ → ℕ → ℕ → List ℕ → Made
packet_named (Ok f) l n b d es = packet_made (kind_of (vocoder_of f)) f l n b d es
packet_named (Err r) l n b d es = outputs.refused_output r

-- the same of the header-free writer
unfoldable pub header_free_named : Result Form Refusal → List ℕ → Made
header_free_named (Ok f) es = header_free_made (kind_of (vocoder_of f)) f es
header_free_named (Err r) es = outputs.refused_output r

-- ---- (02, i) the place of a fault

-- the place that an answer has: that of its refusal, if the refusal has one
unfoldable pub fault_place : {A : Type 0} → Result A Refusal → Option ℕ
fault_place (Ok x) = None
fault_place (Err r) = place_of r

-- and that of a call on a capture
unfoldable pub capture_place : Result ℕ CaptureError → Option ℕ
capture_place (Ok n) = None
capture_place (Err BadCapture) = None
capture_place (Err (Refused r)) = place_of r

-- `place` after a call: the place of the answer; as it was where the answer has none
unfoldable pub place_after : Option ℕ → ℕ → ℕ
place_after (Some at) p₀ = at
place_after None p₀ = p₀

-- ---- the answers, and the other out-parameters

-- what a host sees of a payload: the answer, and its four numbers L, N, B and D
pub data PacketTold : Type 0 where
  packet_told : (answer l n b d : ℕ) → PacketTold

-- 0 and the packet's; a refusal returns its number "and changes nothing lent"
unfoldable pub packet_after : Result Contents Refusal → ℕ → ℕ → ℕ → ℕ → PacketTold
packet_after (Ok p) l₀ n₀ b₀ d₀ = packet_told 0 p.l p.n p.b p.d
packet_after (Err r) l₀ n₀ b₀ d₀ = packet_told (number_of r) l₀ n₀ b₀ d₀

-- what a host sees of a frame: the answer, and its type, start and size
pub data FrameTold : Type 0 where
  frame_told : (answer type start size : ℕ) → FrameTold

-- 0 and the frame's; or the refusal's number, and the rest as it was
unfoldable pub frame_after : Result Located Refusal → ℕ → ℕ → ℕ → FrameTold
frame_after (Ok at) t₀ s₀ z₀ = frame_told 0 at.kind at.start at.size
frame_after (Err r) t₀ s₀ z₀ = frame_told (number_of r) t₀ s₀ z₀

-- what a host sees of a count: the answer, and the number
pub data CountTold : Type 0 where
  count_told : (answer count : ℕ) → CountTold

-- 0 and the count, of frames, of octets written or of lost frames; or the refusal's number, and the count as it was
unfoldable pub count_after : Result ℕ Refusal → ℕ → CountTold
count_after (Ok n) n₀ = count_told 0 n
count_after (Err r) n₀ = count_told (number_of r) n₀

-- what a host sees of a call that writes: the answer, the octet count, and its output
pub data WriteTold : Type 0 where
  write_told : (answer count : ℕ) (out : List ℕ) → WriteTold

-- what a host sees of both
abbrev pub with_output : CountTold → List ℕ → WriteTold
with_output (count_told a n) out = write_told a n out

-- after a call that was to write this
unfoldable pub write_after : Made → ℕ → List ℕ → WriteTold
write_after made n₀ out = with_output (count_after (written_of made out) n₀) (out_after made out)

-- what a host sees of a call on a capture: 255 where it is bad
unfoldable pub capture_after : Result ℕ CaptureError → ℕ → CountTold
capture_after (Ok n) n₀ = count_told 0 n
capture_after (Err BadCapture) n₀ = count_told 255 n₀
capture_after (Err (Refused r)) n₀ = count_told (number_of r) n₀

-- after a capture was recorded
unfoldable pub record_after : Kind → List ℕ → ℕ → List ℕ → WriteTold
record_after kind c n₀ out = with_output (capture_after (record_answer kind c out) n₀) (record_output kind c out)

-- what a host sees of a call that gives no number
unfoldable pub answer_number : Result Unit Refusal → ℕ
answer_number (Ok u) = 0
answer_number (Err r) = number_of r

-- a session opened in the form that the host names: 21 for none, before 15
unfoldable pub open_named : Result Form Refusal → ℕ → List ℕ → Result Unit Refusal
open_named (Ok f) source o = open_answer o source f
open_named (Err r) source o = Err r

-- the session's octets after it
unfoldable pub opened_named : Result Form Refusal → ℕ → List ℕ → List ℕ
opened_named (Ok f) source o = open_octets o source f
opened_named (Err r) source o = o

-- what a host sees of a holding: the answer, its source, base numbers, L and B, and which packets it holds
pub data HoldingTold : Type 0 where
  holding_told : (answer source sequence timestamp l b held : ℕ) → HoldingTold

-- 0 and the holding's; or the refusal's number, and the rest as it was
unfoldable pub holding_after : Result Described Refusal → ℕ → ℕ → ℕ → ℕ → ℕ → ℕ → HoldingTold
holding_after (Ok d) s₀ q₀ t₀ l₀ b₀ h₀ =
    holding_told 0 d.source d.numbers.sequence d.numbers.timestamp d.numbers.l d.numbers.b d.held
holding_after (Err r) s₀ q₀ t₀ l₀ b₀ h₀ = holding_told (number_of r) s₀ q₀ t₀ l₀ b₀ h₀
