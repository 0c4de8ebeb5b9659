-- Document 01, "Payloads": frame k of these frames, for payloads and recordings alike: its type and the very part where its body lies.
use Rattle.std.specs.Prelude.{ℕ, zero, suc, ◌+◌, ◌-◌, ◌≡◌, List, [], ◌∷◌, ◌++◌, Bool, false, cond, ◌&&◌, leb, ltb, length, take, drop}
use Rattle.std.specs.Prelude.{Result, Ok, Err}
use Rattle.std.specs.Prelude.{get_or}
use Rattle.std.specs.Borrow.{Bor}
use Rattle.answers.specs.declared.Refusal.{Refusal}
use Rattle.answers.specs.declared.Refusal.TheVariants.{NotApplicable}
use Rattle.frame.specs.FrameTable.{Frame}
use Rattle.frame.specs.declared.Located.{Located}

-- the first n of a sequence, in order
unfoldable pub up_to : {A : Type 0} → (ℕ → A) → ℕ → List A
up_to f zero = []
up_to f (suc n) = up_to f n ++ (f n ∷ [])

-- what a reader gives: its refusal, or frames that lie in order behind `head` octets, with `gap` octets before each body
pub data Given : Type 0 where
  frames : (head gap : ℕ) → List Frame → Given
  refused_frames : Refusal → Given

-- the octets that frames take, with `gap` octets before each body
abbrev pub taken : ℕ → List Frame → ℕ
taken gap [] = 0
taken gap (f ∷ fs) = gap + length f.body + taken gap fs

-- what stands where there is no frame
abbrev pub no_frame : Frame
no_frame = record { type = 0; body = [] }

-- frame k of these frames
abbrev pub frame_at : List Frame → ℕ → Frame
frame_at fs k = get_or fs k no_frame

-- where a frame lies: its type, and where its body begins, and how long it is
abbrev pub lies_at : ℕ → ℕ → ℕ → Result Located Refusal
lies_at t s z = Ok (record { kind = t; start = s; size = z })

-- "A frame is asked for by its number; one not below the frame count answers 21."
unfoldable pub located_of : Given → ℕ → Result Located Refusal
located_of (refused_frames r) k = Err r
located_of (frames head gap fs) k =
    cond (ltb k (length fs))
    (lies_at (frame_at fs k).type (head + taken gap (take k fs) + gap) (length (frame_at fs k).body))
    (Err NotApplicable)

-- "A refusal's part is empty."
unfoldable pub body_of : Given → ℕ → List ℕ
body_of (refused_frames r) k = []
body_of (frames head gap fs) k = (frame_at fs k).body

-- where a frame's body begins
abbrev pub start_of : Result Located Refusal → ℕ
start_of (Err r) = 0
start_of (Ok at) = at.start

-- and how long the body is
abbrev pub size_of : Result Located Refusal → ℕ
size_of (Err r) = 0
size_of (Ok at) = at.size

-- whether a place is one, and lies within a list of octets
unfoldable pub lies_in : Result Located Refusal → List ℕ → Bool
lies_in (Err r) p = false
lies_in (Ok at) p = leb at.start (length p) && leb at.size (length p - at.start)

-- the part of a list of octets that a place names, and where it starts; empty, and at the beginning, if it does not lie there
unfoldable pub part_of : Result Located Refusal → List ℕ → List ℕ
part_of l p = cond (lies_in l p) (take (size_of l) (drop (start_of l) p)) []

-- and where in them it begins
unfoldable pub part_start : Result Located Refusal → List ℕ → ℕ
part_start l p = cond (lies_in l p) (start_of l) 0

-- "the very part of the caller's payload where its body lies": those octets, in the caller's own memory, from that start on
pub record VeryPart (octets : Bor (List ℕ)) (start : ℕ) (content : List ℕ) (r : Bor (List ℕ)) : Type 0 where
  pub holds : r.now ≡ content
  pub lies : r.ref_ptr ≡ (octets.ref_ptr.0, start + octets.ref_ptr.1)
