-- Document 01, "Recordings": what holds of every recording, of any kind; what is asked of a kind is a test that is computed.
-- The kind of every vocoder passes it (`KindsPass`).
use Rattle.std.specs.Prelude.{ℕ, zero, suc, ◌≡◌, List, [], ◌∷◌, ◌++◌, T, length, drop, Err}
use Rattle.frame.specs.FrameTable.{Frame, size}
use Rattle.answers.specs.Outputs.{octets}
use Rattle.entries.specs.Kind.{Kind, keeps_types}
use Rattle.entries.specs.Entries.{frames, entries_in, entries_of, cleared}
use Rattle.recording.specs.Recording.{recording_read, recording_made}
use Rattle.recording.specs.Shown.{given_in}
use Rattle.frame.specs.Places.{located_of, body_of}
use Rattle.answers.specs.declared.Refusal.{Refusal}
use Rattle.entries.specs.declared.Rule.TheVariants.{Any}

-- read after write: what is written of entries is read as their frames
unfoldable pub RecordingReadAfterWrite : Type 0
RecordingReadAfterWrite =
    (kind : Kind) → T (keeps_types kind) → (es : List ℕ) (fs : List Frame) → entries_in kind Any es ≡ frames fs →
    (w : List ℕ) → recording_made kind es ≡ octets w → recording_read kind w ≡ frames fs

-- write after read: the frames of a recording, written again, are the recording with F and D cleared
unfoldable pub RecordingWriteAfterRead : Type 0
RecordingWriteAfterRead =
    (kind : Kind) → T (keeps_types kind) → (p : List ℕ) (fs : List Frame) → recording_read kind p ≡ frames fs →
    recording_made kind (entries_of fs) ≡ octets (kind.opening ++ cleared kind 0 (drop (length kind.opening) p))

-- every entry has F and D at 0, its octet the type alone, behind `skip` octets of a body before
abbrev pub PlainEntries : Kind → ℕ → List ℕ → Type 0
PlainEntries kind skip [] = Unit {0}
PlainEntries kind (suc skip) (x ∷ es) = PlainEntries kind skip es
PlainEntries kind zero (e ∷ es) = (kind.type_of e ≡ e) × PlainEntries kind (size kind.table (kind.type_of e)) es

-- "Read and write again gives the same octets if every entry had F and D at 0."
unfoldable pub RecordingSameOctets : Type 0
RecordingSameOctets =
    (kind : Kind) → T (keeps_types kind) → (p : List ℕ) (fs : List Frame) → recording_read kind p ≡ frames fs →
    PlainEntries kind 0 (drop (length kind.opening) p) → recording_made kind (entries_of fs) ≡ octets p

-- "Opening octets alone are a recording of no frames."
unfoldable pub OpeningAlone : Type 0
OpeningAlone = (kind : Kind) → recording_read kind kind.opening ≡ frames []

-- frames are "given as a payload reader gives them": "A refusal's part is empty."
unfoldable pub RecordingRefusalsPartEmpty : Type 0
RecordingRefusalsPartEmpty =
    (kind : Kind) (p : List ℕ) (k : ℕ) (r : Refusal) →
    located_of (given_in kind p) k ≡ Err r → body_of (given_in kind p) k ≡ []
