-- Document 01, "Recordings" and "Writing packets": entries, "one octet, then the body", of a recording of any kind.
use Rattle.std.specs.Prelude.{ℕ, zero, suc, ◌+◌, List, [], ◌∷◌, ◌++◌, Bool, true, cond, ◌&&◌, ltb, length, take}
use Rattle.frame.specs.FrameTable.{FrameTable, Frame, known, size, sendable}
use Rattle.answers.specs.declared.Refusal.{Refusal}
use Rattle.answers.specs.declared.Refusal.TheVariants.{ReservedType, NotSendable, BodyCut}
use Rattle.entries.specs.Kind.{Kind}
use Rattle.entries.specs.declared.Rule.{Rule}
use Rattle.entries.specs.declared.Rule.TheVariants.{Any, Sendable, HeaderFree}

-- what entries are read as: their frames, or the refusal
pub data EntriesRead : Type 0 where
  frames : List Frame → EntriesRead
  refused_entries : Refusal → EntriesRead

-- frames with one before them; a fault stays one
abbrev pub put : Frame → EntriesRead → EntriesRead
put f (frames fs) = frames (f ∷ fs)
put f (refused_entries r) = refused_entries r

-- the frame of an entry octet; "F and D of an entry are ignored when read"
abbrev pub frame_of : Kind → ℕ → List ℕ → Frame
frame_of kind e es = record { type = kind.type_of e; body = take (size kind.table (kind.type_of e)) es }

-- the entries of a list that begins at octet `at`, behind `skip` octets of a body before: "entry by entry 5, 19", and in a writer 17;
-- (02, i) "5 and 19, with the place of the entry octet"
unfoldable pub entries : Kind → (Frame → Bool) → (at skip : ℕ) → List ℕ → EntriesRead
entries kind ok at skip [] = frames []
entries kind ok at (suc skip) (x ∷ es) = entries kind ok (at + 1) skip es
entries kind ok at zero (e ∷ es) =
    cond (known kind.table (kind.type_of e))
    (cond (ltb (length es) (size kind.table (kind.type_of e))) (refused_entries (BodyCut at))
    (cond (ok (frame_of kind e es)) (put (frame_of kind e es) (entries kind ok (at + 1) (size kind.table (kind.type_of e)) es))
    (refused_entries NotSendable)))
    (refused_entries (ReservedType at))

-- which frames a reader or writer takes: a recording any; a packet those that are sendable; the header-free writer has "17 for Blank too"
unfoldable pub allowed : FrameTable → Rule → Frame → Bool
allowed v Any f = true
allowed v Sendable f = sendable v f.type f.body
allowed v HeaderFree f = ltb 0 (length f.body) && sendable v f.type f.body

-- the frames of entries by a rule, places counted from octet `at` on
abbrev pub entries_from : Kind → Rule → ℕ → List ℕ → EntriesRead
entries_from kind rule at es = entries kind (allowed kind.table rule) at 0 es

-- the frames of entries by a rule, places counted in the entries: "Sessions, writers .. pass the place on" (02, i)
abbrev pub entries_in : Kind → Rule → List ℕ → EntriesRead
entries_in kind rule es = entries_from kind rule 0 es

-- the frames, none on a refusal
unfoldable pub frames_in : EntriesRead → List Frame
frames_in (frames fs) = fs
frames_in (refused_entries r) = []

-- frames as entries, F and D "0 when written"
abbrev pub entries_of : List Frame → List ℕ
entries_of [] = []
entries_of (f ∷ fs) = f.type ∷ (f.body ++ entries_of fs)

-- entries with F and D cleared, behind `skip` octets of a body before
unfoldable pub cleared : Kind → ℕ → List ℕ → List ℕ
cleared kind skip [] = []
cleared kind (suc skip) (x ∷ es) = x ∷ cleared kind skip es
cleared kind zero (e ∷ es) = kind.type_of e ∷ cleared kind (size kind.table (kind.type_of e)) es
