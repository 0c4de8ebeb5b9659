-- Document 01, "Recordings": storage mode, of any kind.
use Rattle.std.specs.Prelude.{ℕ, List, ◌++◌, Bool, cond, length, take, drop}
use Rattle.octets.specs.Octets.{same_octets}
use Rattle.answers.specs.Outputs.{Made}
use Rattle.answers.specs.Outputs as outputs
use Rattle.answers.specs.declared.Refusal.TheVariants.{WrongOpening}
use Rattle.entries.specs.Kind.{Kind}
use Rattle.entries.specs.Entries.{EntriesRead, frames, refused_entries, entries_from, entries_in, entries_of}
use Rattle.entries.specs.declared.Rule.TheVariants.{Any}

-- whether octets begin with the opening
unfoldable pub opens_with : Kind → List ℕ → Bool
opens_with kind p = same_octets kind.opening (take (length kind.opening) p)

-- what a recording is read as: "18 (opening missing or wrong), then entry by entry 5, 19"; its opening octets are counted in a place
unfoldable pub recording_read : Kind → List ℕ → EntriesRead
recording_read kind p =
    cond (opens_with kind p) (entries_from kind Any (length kind.opening) (drop (length kind.opening) p))
    (refused_entries WrongOpening)

-- the recording of these frames: "puts the opening before them"
abbrev pub recording_of : Kind → EntriesRead → Made
recording_of kind (frames fs) = outputs.octets (kind.opening ++ entries_of fs)
recording_of kind (refused_entries r) = outputs.refused_output r

-- "The writer takes entries, checks 5, 19 for each, then 15"
unfoldable pub recording_made : Kind → List ℕ → Made
recording_made kind es = recording_of kind (entries_in kind Any es)
