-- What holds of every recording. Assumes nothing.
use Prim.Native.Nat.{ℕ, zero, suc}
use mathlib.Core.Path.{◌≡◌, refl, sym, ap, ap₂, ◌∙◌}
use mathlib.Core.List.{List, [], ◌∷◌, ◌++◌, append-nil}
use mathlib.Core.Bool.{true}
use lib.ListN.{length, drop}
use lib.Seq.{drop-length}
use Rattle.frame.specs.FrameTable.{size}
use Rattle.frame.proofs.PlacesLaws.{refusal-empty}
use Rattle.answers.specs.Outputs.{octets}
use Rattle.entries.specs.Kind.{Kind}
use Rattle.entries.specs.Entries.{entries, cleared}
use Rattle.recording.specs.Recording.{opens_with, recording_read}
use Rattle.recording.proofs.Opening.{begins-self}
use Rattle.recording.proofs.RoundTrip as trips
use Rattle.claims.specs.Recordings.{RecordingReadAfterWrite, RecordingWriteAfterRead, PlainEntries, RecordingSameOctets}
use Rattle.claims.specs.Recordings.{OpeningAlone, RecordingRefusalsPartEmpty}

pub recording_read_after_write : RecordingReadAfterWrite
unfolding RecordingReadAfterWrite
recording_read_after_write = trips.read-after-write

pub recording_write_after_read : RecordingWriteAfterRead
unfolding RecordingWriteAfterRead
recording_write_after_read = trips.write-after-read

plain-cleared : (kind : Kind) (skip : ℕ) (es : List ℕ) → PlainEntries kind skip es → cleared kind skip es ≡ es
unfolding cleared
plain-cleared kind skip [] h = refl
plain-cleared kind (suc skip) (x ∷ es) h = ap (λ (l : List ℕ). x ∷ l) (plain-cleared kind skip es h)
plain-cleared kind zero (e ∷ es) h = ap₂ (λ (x : ℕ) (l : List ℕ). x ∷ l) h.0 (plain-cleared kind (size kind.table (kind.type_of e)) es h.1)

pub recording_same_octets : RecordingSameOctets
unfolding RecordingSameOctets
recording_same_octets kind t p fs e h =
    trips.write-after-read kind t p fs e
    ∙ ap octets (ap (λ (l : List ℕ). kind.opening ++ l) (plain-cleared kind 0 (drop (length kind.opening) p) h) ∙ trips.whole kind p fs e)

pub opening_alone : OpeningAlone
unfolding OpeningAlone recording_read entries
opening_alone kind =
    let x : opens_with kind kind.opening ≡ true = rw (append-nil kind.opening) at (begins-self kind []) in
    rw (x, drop-length kind.opening)

pub recording_refusals_part_empty : RecordingRefusalsPartEmpty
unfolding RecordingRefusalsPartEmpty
recording_refusals_part_empty kind p k r e = refusal-empty _ k r (sym e)
