-- Document 01, "Payloads": what the readers show of a reading.
use Rattle.std.specs.Prelude.{ℕ, ◌+◌, List, [], length, Result, Ok, Err}
use Rattle.answers.specs.declared.Refusal.{Refusal}
use Rattle.frame.specs.FrameTable.{FrameTable, Frame}
use Rattle.frame.specs.Places.{Given, frames}
use Rattle.frame.specs.Places as places
use Rattle.form.specs.declared.Form.{Form}
use Rattle.form.specs.declared.Form.TheVariants.{HeaderFree, Interleaved}
use Rattle.payload.specs.Payload.{Reading, packet, refused_payload, Toc, contents, fault, total, read_as}
use Rattle.payload.specs.declared.Contents.{Contents}
use Rattle.payload.specs.declared.Walked.{Walked}

-- what a payload holds: L, N, B and D
abbrev pub holds_packet : ℕ → ℕ → ℕ → ℕ → Result Contents Refusal
holds_packet l n b d = Ok (record { l = l; n = n; b = b; d = d })

-- "B is the number of entries."
unfoldable pub contents_of : Reading → Result Contents Refusal
contents_of (packet l n d fs) = holds_packet l n (length fs) d
contents_of (refused_payload r) = Err r

-- the octets before the first of b bodies: octet 0 and the b entries, or none
abbrev pub head_of : Form → ℕ → ℕ
head_of HeaderFree b = 0
head_of (Interleaved m) b = 1 + b

-- the frames, and where they lie: the bodies stand one after the other
unfoldable pub given_of : Form → Reading → Given
given_of form (packet l n d fs) = frames (head_of form (length fs)) 0 fs
given_of form (refused_payload r) = places.refused_frames r

-- what a reader gives of a payload in the agreed form
unfoldable pub given_as : FrameTable → Form → List ℕ → Given
given_as v f p = given_of f (read_as v f p)

-- a whole table of contents: the count of its entries, the size of their bodies, and D
abbrev pub whole_table : ℕ → ℕ → ℕ → Result Walked Refusal
whole_table c s d = Ok (record { count = c; size = s; d = d })

-- what the walk over the entries yields: count, size and D, or the refusal
unfoldable pub walked : FrameTable → Toc → Result Walked Refusal
walked v (contents ts d at rest) = whole_table (length ts) (total v ts) d
walked v (fault r) = Err r

-- the same, after c entries whose bodies take s octets
unfoldable pub walked_from : FrameTable → ℕ → ℕ → Toc → Result Walked Refusal
walked_from v c s (contents ts d at rest) = whole_table (c + length ts) (s + total v ts) d
walked_from v c s (fault r) = Err r

-- the frames that a payload was read as; none on a refusal
unfoldable pub frames_read : Reading → List Frame
frames_read (packet l n d fs) = fs
frames_read (refused_payload r) = []
