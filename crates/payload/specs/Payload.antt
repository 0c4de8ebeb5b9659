-- Document 01, "Payloads": what a payload is read as, over any frame table.
use Rattle.std.specs.Prelude.{ℕ, ◌+◌, ◌/◌, ◌%◌, List, [], ◌∷◌, cond, leb, ltb, length, take, drop, Option, Some, None}
use Rattle.frame.specs.FrameTable.{FrameTable, Frame, known, size, row_of_size}
use Rattle.frame.specs.Entry.{type_of, d_of, more}
use Rattle.frame.specs.declared.Row.{Row}
use Rattle.form.specs.Agreed.{in_range}
use Rattle.form.specs.declared.Limits.{Limits}
use Rattle.form.specs.declared.Form.{Form}
use Rattle.form.specs.declared.Form.TheVariants.{HeaderFree, Interleaved}
use Rattle.answers.specs.declared.Refusal.{Refusal}
use Rattle.answers.specs.declared.Refusal.TheVariants.{
  NoOctet,
  IndexPastLength,
  LengthPastMaximum,
  TableCut,
  ReservedType,
  TooManyFrames,
  BodiesCut,
  OctetsLeft,
  HeaderFreeLength,
  NotApplicable,
}

-- what a payload is read as: L, N, D and the frames, or the refusal
pub data Reading : Type 0 where
  packet : (l n d : ℕ) → List Frame → Reading
  refused_payload : Refusal → Reading

-- "Octet 0 is RR x 64 + L x 8 + N. RR is .. ignored when read."
abbrev pub l_of : ℕ → ℕ
l_of h = h / 8 % 8

-- N of octet 0
abbrev pub n_of : ℕ → ℕ
n_of h = h % 8

-- a table of contents: the types, "the last entry's" D, and the octets behind it, which begin at octet `at`; or the refusal
pub data Toc : Type 0 where
  contents : (types : List ℕ) (d at : ℕ) (rest : List ℕ) → Toc
  fault : Refusal → Toc

-- a table with a type before its others; a fault stays one
abbrev pub put : ℕ → Toc → Toc
put t (contents ts d at rest) = contents (t ∷ ts) d at rest
put t (fault r) = fault r

-- the table of contents at the front of a list that begins at octet `at`, with `count` entries before it and at most `max` in all:
-- "ends at the first fault it meets"; "for each entry the order is 4, 6, 5"; (02, i) "for 4 the payload's length, for 5 and 6 the
-- entry's place"
unfoldable pub toc : FrameTable → (max count at : ℕ) → List ℕ → Toc
toc v max count at [] = fault (TableCut at)
toc v max count at (e ∷ es) =
    cond (leb max count) (fault (TooManyFrames at))
    (cond (known v (type_of e))
    (cond (more e) (put (type_of e) (toc v max (count + 1) (at + 1) es)) (contents (type_of e ∷ []) (d_of e) (at + 1) es))
    (fault (ReservedType at)))

-- the octets that the bodies of these types take
abbrev pub total : FrameTable → List ℕ → ℕ
total v [] = 0
total v (t ∷ ts) = size v t + total v ts

-- "Then the bodies, in the entries' order."
abbrev pub cut : FrameTable → List ℕ → List ℕ → List Frame
cut v [] bs = []
cut v (t ∷ ts) bs = record { type = t; body = take (size v t) bs } ∷ cut v ts (drop (size v t) bs)

-- (02, i) "for 7 the place of the first body that doesn't fit whole", of bodies that begin at octet `at`
unfoldable pub first_cut : FrameTable → ℕ → List ℕ → List ℕ → ℕ
first_cut v at [] bs = at
first_cut v at (t ∷ ts) bs = cond (ltb (length bs) (size v t)) at (first_cut v (at + size v t) ts (drop (size v t) bs))

-- "After the last entry: 7, 8."; (02, i) "for 8 the first octet left over"
unfoldable pub bodies : FrameTable → ℕ → ℕ → Toc → Reading
bodies v l n (fault r) = refused_payload r
bodies v l n (contents ts d at rest) =
    cond (ltb (length rest) (total v ts)) (refused_payload (BodiesCut (first_cut v at ts rest)))
    (cond (ltb (total v ts) (length rest)) (refused_payload (OctetsLeft (at + total v ts))) (packet l n d (cut v ts rest)))

-- Type 1, under maxima in range: 1, 2, 3, then the table of contents, which begins at octet 1, and the bodies
unfoldable pub interleaved : FrameTable → Limits → List ℕ → Reading
interleaved v m [] = refused_payload NoOctet
interleaved v m (h ∷ es) =
    cond (ltb (l_of h) (n_of h)) (refused_payload IndexPastLength)
    (cond (ltb m.max_l (l_of h)) (refused_payload LengthPastMaximum)
    (bodies v (l_of h) (n_of h) (toc v m.max_b 0 1 es)))

-- Type 2: "one body and nothing else, its type known by the length"; "read as a group with L = 0, N = 0, B = 1, and D is reported as 0"
unfoldable pub one_body : Option Row → List ℕ → Reading
one_body None p = refused_payload HeaderFreeLength
one_body (Some r) p = packet 0 0 0 (record { type = r.kind; body = p } ∷ [])

-- a payload read in the agreed form; "a reader given maxima out of range answers 21 first"
unfoldable pub read_as : FrameTable → Form → List ℕ → Reading
read_as v HeaderFree p = one_body (row_of_size v (length p)) p
read_as v (Interleaved m) p = cond (in_range m) (interleaved v m p) (refused_payload NotApplicable)
