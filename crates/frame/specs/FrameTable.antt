-- Document 01, "Frames": a frame has a type and a body; a frame table is a list of rows, and laws are proved of any table.
use Rattle.std.specs.Prelude.{ℕ, ◌-◌, ◌%◌, ◌^◌, ◌≡◌, List, [], ◌∷◌, Bool, true, false, cond, ◌&&◌, eqb, leb, length, get_or, Option}
use Rattle.std.specs.Prelude.{Some, None}
use Rattle.frame.specs.declared.Row.{Row}
use Rattle.frame.specs.declared.Vocoder.{Vocoder}
use Rattle.frame.specs.declared.Vocoder.TheVariants.{Evrc}

-- "A frame has a type and a body."
pub record Frame : Type 0 where
  pub type : ℕ
  pub body : List ℕ

-- the types of frames
abbrev pub types_of : List Frame → List ℕ
types_of [] = []
types_of (f ∷ fs) = f.type ∷ types_of fs

-- a frame table: its rows ("Frames")
abbrev pub FrameTable : Type 0
FrameTable = List Row

-- the EVRC types and body sizes in octets; "a Rate 1 frame has 171 bits; the low 5 bits of its octet 22 are zero when sent"
abbrev pub evrc : FrameTable
evrc =
    record { kind = 0; octets = 0; spare = 0; sent = true } ∷
    record { kind = 1; octets = 2; spare = 0; sent = true } ∷
    record { kind = 3; octets = 10; spare = 0; sent = true } ∷
    record { kind = 4; octets = 22; spare = 5; sent = true } ∷
    record { kind = 14; octets = 0; spare = 0; sent = false } ∷
    []

-- the frame table of a vocoder
unfoldable pub rows_of : Vocoder → FrameTable
rows_of Evrc = evrc

-- the type that stands where a frame was not heard, in every table here
abbrev pub erasure : ℕ
erasure = 14

-- the row of a type; "all others are reserved"
unfoldable pub row_of : FrameTable → ℕ → Option Row
row_of [] t = None
row_of (r ∷ v) t = cond (eqb t r.kind) (Some r) (row_of v t)

-- the first row whose body has n octets
unfoldable pub row_with : FrameTable → ℕ → Option Row
row_with [] n = None
row_with (r ∷ v) n = cond (eqb n r.octets) (Some r) (row_with v n)

-- "Payloads", type 2: "its type known by the length .. any other length, 0 too, is refused"
abbrev pub row_of_size : FrameTable → ℕ → Option Row
row_of_size v n = cond (eqb n 0) None (row_with v n)

-- whether a row was found
abbrev pub is_there : Option Row → Bool
is_there (Some r) = true
is_there None = false

-- the octets of its body, 0 if there is none
abbrev pub octets_of : Option Row → ℕ
octets_of (Some r) = r.octets
octets_of None = 0

-- whether a type is in the table
abbrev pub known : FrameTable → ℕ → Bool
known v t = is_there (row_of v t)

-- the octets of the body of a type; 0 if it is not in the table
abbrev pub size : FrameTable → ℕ → ℕ
size v t = octets_of (row_of v t)

-- no body of the table is longer than the bound
abbrev pub within : ℕ → FrameTable → Bool
within m [] = true
within m (r ∷ v) = leb r.octets m && within m v

-- an erasure is in the table, and has no body
abbrev pub erases : FrameTable → Bool
erases v = known v erasure && eqb (size v erasure) 0

-- a type stands in one row only: what a row says of its type is what the table says of it
abbrev pub single : FrameTable → FrameTable → Bool
single v [] = true
single v (r ∷ u) = known v r.kind && eqb (size v r.kind) r.octets && single v u

-- a frame as the table has it: its type is there, and its body as long as the table says
pub record Listed (v : FrameTable) (f : Frame) : Type 0 where
  pub type_known : known v f.type ≡ true
  pub octets : length f.body ≡ size v f.type

-- each of these frames is so
abbrev pub Every : (Frame → Type 0) → List Frame → Type 0
Every P [] = Unit {0}
Every P (f ∷ fs) = P f × Every P fs

-- all of these are as the table has them
abbrev pub AllListed : FrameTable → List Frame → Type 0
AllListed v fs = Every (Listed v) fs

-- the lowest bits of an octet, as a number
abbrev pub low_bits : ℕ → ℕ → ℕ
low_bits x bits = x % 2 ^ bits

-- a body that a row lets be sent: as long as the row says, its type to be sent, the spare low bits of its last octet zero
abbrev pub sendable_as : Option Row → List ℕ → Bool
sendable_as None b = false
sendable_as (Some r) b =
    eqb (length b) r.octets && eqb (low_bits (get_or b (r.octets - 1) 0) r.spare) 0 && r.sent

-- "A frame is sendable if its type is 0, 1, 3 or 4 and, for type 4, those 5 bits are zero."
abbrev pub sendable : FrameTable → ℕ → List ℕ → Bool
sendable v t b = sendable_as (row_of v t) b
