-- Document 01, "Recordings": the number of frames of entries.
use Rattle.std.specs.Prelude.{ℕ, ◌+◌, length, Result, Ok, Err}
use Rattle.answers.specs.declared.Refusal.{Refusal}
use Rattle.entries.specs.Entries.{EntriesRead, frames, refused_entries}

-- the number of frames, or the refusal
unfoldable pub counted_of : EntriesRead → Result ℕ Refusal
counted_of (frames fs) = Ok (length fs)
counted_of (refused_entries r) = Err r

-- what the walk over the entries yields, after c of them
unfoldable pub counted_from : ℕ → EntriesRead → Result ℕ Refusal
counted_from c (frames fs) = Ok (c + length fs)
counted_from c (refused_entries r) = Err r
