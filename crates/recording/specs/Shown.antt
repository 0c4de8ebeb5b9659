-- Document 01, "Recordings": what the readers show of a recording; "frames are given as a payload reader gives them, with their count".
use Rattle.std.specs.Prelude.{ℕ, List, length}
use Rattle.frame.specs.Places.{Given}
use Rattle.frame.specs.Places as places
use Rattle.entries.specs.Kind.{Kind}
use Rattle.entries.specs.Entries.{EntriesRead, frames, refused_entries}
use Rattle.recording.specs.Recording.{recording_read}

-- the frames, and where they lie: behind `head` octets, the entry octet before each body
unfoldable pub given_of : ℕ → EntriesRead → Given
given_of head (frames fs) = places.frames head 1 fs
given_of head (refused_entries r) = places.refused_frames r

-- what a recording gives, behind its opening
unfoldable pub given_in : Kind → List ℕ → Given
given_in kind p = given_of (length kind.opening) (recording_read kind p)
