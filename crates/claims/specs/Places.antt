-- Document 02, (i), "Say where the fault is": what the place of a refusal says of the octets, over any frame table and kind of recording.
use Rattle.std.specs.Prelude.{ℕ, ◌+◌, ◌≤◌, ◌<◌, ◌≡◌, ◌⊎◌, true, false, List, ◌++◌, length, take, get_or, Option, Some, None}
use Rattle.answers.specs.Answers.{number_of, place_of}
use Rattle.answers.specs.declared.Refusal.{Refusal}
use Rattle.answers.specs.declared.Refusal.TheVariants.{TableCut, ReservedType, TooManyFrames, BodiesCut, OctetsLeft}
use Rattle.frame.specs.FrameTable.{FrameTable, Frame, known, size}
use Rattle.frame.specs.Entry.{type_of}
use Rattle.frame.specs.Places.{taken, frame_at}
use Rattle.form.specs.declared.Limits.{Limits}
use Rattle.form.specs.declared.Form.{Form}
use Rattle.form.specs.declared.Form.TheVariants.{Interleaved}
use Rattle.payload.specs.Payload.{packet, refused_payload, read_as}
use Rattle.entries.specs.Kind.{Kind}
use Rattle.entries.specs.Entries.{frames, refused_entries, entries_in}
use Rattle.entries.specs.declared.Rule.{Rule}
use Rattle.recording.specs.Recording.{recording_read}

-- ---- payloads

-- octets that are read as a packet
abbrev pub IsRead : FrameTable → Form → List ℕ → Type 0
IsRead v f p = (l n d : ℕ) × (fs : List Frame) × (read_as v f p ≡ packet l n d fs)

-- a place, if there is one, that is not further on than another
abbrev pub NotPast : ℕ → Option ℕ → Type 0
NotPast at (Some i) = i ≤ at
NotPast at None = Unit {0}

-- octets that are refused, and not further on than at a place
pub record NotFurther (v : FrameTable) (f : Form) (at : ℕ) (p : List ℕ) : Type 0 where
  pub refusal : Refusal
  pub refused : read_as v f p ≡ refused_payload refusal
  pub place : NotPast at (place_of refusal)

-- a refused payload's place is at most its length, and lies inside it for 5, 6 and 8
pub record PlaceInside : Type 0 where
  pub at_most : (v : FrameTable) (f : Form) (p : List ℕ) (r : Refusal) (at : ℕ) →
      read_as v f p ≡ refused_payload r → place_of r ≡ Some at → at ≤ length p
  pub inside : (v : FrameTable) (f : Form) (p : List ℕ) (r : Refusal) (at : ℕ) →
      read_as v f p ≡ refused_payload r → place_of r ≡ Some at → number_of r ≡ 5 ⊎ number_of r ≡ 6 ⊎ number_of r ≡ 8 → at < length p

-- "for 4 the payload's length": no shorter payload is read, nor is one read further
unfoldable pub TableIsCut : Type 0
TableIsCut =
    (v : FrameTable) (f : Form) (p : List ℕ) (at : ℕ) → read_as v f p ≡ refused_payload (TableCut at) →
    (at ≡ length p) × ((k : ℕ) → NotFurther v f at (take k p))

-- an entry is looked for at a place, and there is one: the octets before it alone are a table that is cut there
abbrev pub EntryStands : FrameTable → Form → List ℕ → ℕ → Type 0
EntryStands v f p at = (at < length p) × (read_as v f (take at p) ≡ refused_payload (TableCut at))

-- "for 5 .. the entry's place": the entry there has a reserved type
unfoldable pub TypeIsReserved : Type 0
TypeIsReserved =
    (v : FrameTable) (f : Form) (p : List ℕ) (at : ℕ) → read_as v f p ≡ refused_payload (ReservedType at) →
    EntryStands v f p at × (known v (type_of (get_or p at 0)) ≡ false)

-- "for .. 6 the entry's place": the first entry past the agreed maximum B
unfoldable pub EntryIsPastMaximum : Type 0
EntryIsPastMaximum =
    (v : FrameTable) (m : Limits) (p : List ℕ) (at : ℕ) → read_as v (Interleaved m) p ≡ refused_payload (TooManyFrames at) →
    EntryStands v (Interleaved m) p at × (at ≡ 1 + m.max_b)

-- a payload with more octets is read, and in it a body begins at a place: the bodies before it end within the payload, and it does not
pub record BodyBegins (v : FrameTable) (m : Limits) (p more : List ℕ) (at : ℕ) : Type 0 where
  pub l : ℕ
  pub n : ℕ
  pub d : ℕ
  pub fs : List Frame
  pub read : read_as v (Interleaved m) (p ++ more) ≡ packet l n d fs
  pub k : ℕ
  pub there : k < length fs
  pub begins : 1 + length fs + taken 0 (take k fs) ≡ at
  pub before : at ≤ length p
  pub cut : length p < at + length (frame_at fs k).body

-- octets are missing, and with as many more, whatever they are, the payload is read, and that body is the first that it has not whole
pub record Completes (v : FrameTable) (m : Limits) (p : List ℕ) (at : ℕ) : Type 0 where
  pub missing : ℕ
  pub some : 0 < missing
  pub completed : (more : List ℕ) → length more ≡ missing → BodyBegins v m p more at

-- "for 7 the place of the first body that doesn't fit whole"; no shorter payload is read, nor is one read further
pub record BodiesAreCut : Type 0 where
  pub completes : (v : FrameTable) (m : Limits) (p : List ℕ) (at : ℕ) →
      read_as v (Interleaved m) p ≡ refused_payload (BodiesCut at) → Completes v m p at
  pub shorter : (v : FrameTable) (f : Form) (p : List ℕ) (at : ℕ) →
      read_as v f p ≡ refused_payload (BodiesCut at) → (k : ℕ) → NotFurther v f at (take k p)

-- "for 8 the first octet left over": the octets before it alone are read as a packet
unfoldable pub OctetsAreLeft : Type 0
OctetsAreLeft =
    (v : FrameTable) (f : Form) (p : List ℕ) (at : ℕ) → read_as v f p ≡ refused_payload (OctetsLeft at) →
    (at < length p) × IsRead v f (take at p)

-- ---- recordings, and entries given to a writer

-- the entry octet at the place of a fault: for 5 its type is reserved, for 19 it is known, and its body longer than what follows
pub record EntryAtFault (kind : Kind) (p : List ℕ) (r : Refusal) (at : ℕ) : Type 0 where
  pub number : number_of r ≡ 5 ⊎ number_of r ≡ 19
  pub inside : at < length p
  pub reserved : number_of r ≡ 5 → known kind.table (kind.type_of (get_or p at 0)) ≡ false
  pub cut : number_of r ≡ 19 →
      (known kind.table (kind.type_of (get_or p at 0)) ≡ true) × (length p < at + 1 + size kind.table (kind.type_of (get_or p at 0)))

-- "Recordings do the same for 5 and 19, with the place of the entry octet": behind the opening; what stands before it is a recording
unfoldable pub RecordingFaults : Type 0
RecordingFaults =
    (kind : Kind) (p : List ℕ) (r : Refusal) (at : ℕ) → recording_read kind p ≡ refused_entries r → place_of r ≡ Some at →
    EntryAtFault kind p r at × (length kind.opening ≤ at) × ((fs : List Frame) × (recording_read kind (take at p) ≡ frames fs))

-- "writers .. pass the place on": counted in the entries; what stands before it are entries that the writer takes
unfoldable pub EntriesFaults : Type 0
EntriesFaults =
    (kind : Kind) (rule : Rule) (es : List ℕ) (r : Refusal) (at : ℕ) → entries_in kind rule es ≡ refused_entries r → place_of r ≡ Some at →
    EntryAtFault kind es r at × ((fs : List Frame) × (entries_in kind rule (take at es) ≡ frames fs))
