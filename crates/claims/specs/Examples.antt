-- Document 01, "Marked examples": P1 to P15, under a single claim; with the rows of document 02.
use Rattle.std.specs.Prelude.{ℕ, zero, suc, ◌≡◌, true, false, List, [], ◌∷◌, ◌++◌, map, length, replicate, Option, Some, None, Result}
use Rattle.std.specs.Prelude.{Ok, Err}
use Rattle.frame.specs.FrameTable.{Frame}
use Rattle.frame.specs.Shape.{Voice}
use Rattle.form.specs.Agreed.{table_of}
use Rattle.form.specs.Agreed.{default_form}
use Rattle.answers.specs.Answers.{number_of, place_of}
use Rattle.answers.specs.declared.Refusal.TheVariants.{ReservedType, AnotherSource, EarlierGroup, TooFarAhead, NotApplicable, OffTheClock}
use Rattle.frame.specs.declared.Vocoder.TheVariants.{Evrc}
use Rattle.entries.specs.Kind.{kind_of, evrc_opening}
use Rattle.entries.specs.Entries.{EntriesRead, entries_in, refused_entries}
use Rattle.entries.specs.Entries as read
use Rattle.entries.specs.declared.Rule.TheVariants.{Sendable}
use Rattle.recording.specs.Recording.{recording_read}
use Rattle.frame.specs.Places.{lies_at, located_of, body_of}
use Rattle.form.specs.declared.Form.{Form}
use Rattle.form.specs.declared.Form.TheVariants.{HeaderFree, Interleaved}
use Rattle.frame.specs.declared.Located.{Located}
use Rattle.answers.specs.declared.Refusal.{Refusal}
use Rattle.session.specs.Session.{Offered, is_open, offered}
use Rattle.session.specs.declared.Session.{Session}
use Rattle.holding.specs.Group.{is_nothing}
use Rattle.numbers.specs.Bases.{base_sequence, base_timestamp}
use Rattle.numbers.specs.Place.{after_poured}
use Rattle.numbers.specs.declared.GroupNumbers.{GroupNumbers}
use Rattle.numbers.specs.declared.Verdict.{Verdict}
use Rattle.numbers.specs.declared.Verdict.TheVariants.{Begins}
use Rattle.capture.specs.Capture.{good}
use Rattle.capture.specs.Run.{capture_kind, capture_recording, answer_of}
use Rattle.capture.specs.declared.CaptureError.{CaptureError}
use Rattle.capture.specs.declared.CaptureError.TheVariants.{Refused}
use Rattle.payload.specs.Payload.{Reading, packet, refused_payload, read_as}
use Rattle.payload.specs.Shown.{given_as}
use Rattle.claims.specs.Demand3.{Writers}
use Rattle.claims.specs.Pauses.{Spoken, Talk}

-- what is said of a payload: L, N, B, D, where each frame lies and its body; or the number of the refusal and its place (02, i). Of a
-- recording, or of entries given to a writer: the number of frames, or the same
pub data Says : Type 0 where
  holds : (l n b d : ℕ) → List (Result Located Refusal) → List (List ℕ) → Says
  counts : ℕ → Says
  number : ℕ → Option ℕ → Says

-- the numbers below n, from m on
abbrev from : ℕ → ℕ → List ℕ
from m zero = []
from m (suc n) = m ∷ from (suc m) n

-- the same of what a payload was read as
abbrev said_of : Form → List ℕ → Reading → Says
said_of f p (refused_payload r) = number (number_of r) (place_of r)
said_of f p (packet l n d fs) =
    holds l n (length fs) d (map (located_of (given_as (table_of f) f p)) (from 0 (length fs)))
    (map (body_of (given_as (table_of f) f p)) (from 0 (length fs)))

-- what is said of a payload in a form
abbrev pub said : Form → List ℕ → Says
said f p = said_of f p (read_as (table_of f) f p)

-- a row: a form, octets, and what is said of them
pub record Row : Type 0 where
  pub form : Form
  pub octets : List ℕ
  pub says : Says

-- "Maxima 5 and 10 unless named": P4 names 6
abbrev maximum_six : Form
maximum_six = Interleaved (record { max_l = 6; max_b = 10 })

-- P1 to P10 and P14
abbrev pub rows : List Row
rows =
    -- P1: L 1, N 0, B 2, bodies at 3 and 5
    record {
      form = default_form;
      octets = 0x08 ∷ 0x81 ∷ 0x01 ∷ 0x11 ∷ 0x11 ∷ 0x33 ∷ 0x33 ∷ [];
      says = holds 1 0 2 0 (lies_at 1 3 2 ∷ lies_at 1 5 2 ∷ []) ((0x11 ∷ 0x11 ∷ []) ∷ (0x33 ∷ 0x33 ∷ []) ∷ []);
    } ∷
    -- P2 to P6, with their places (02, i)
    record { form = default_form; octets = []; says = number 1 None } ∷
    record { form = default_form; octets = 0x0A ∷ []; says = number 2 None } ∷
    record { form = default_form; octets = 0x30 ∷ []; says = number 3 None } ∷
    record { form = maximum_six; octets = 0x30 ∷ []; says = number 4 (Some 1) } ∷
    record { form = default_form; octets = 0x00 ∷ 0x81 ∷ []; says = number 4 (Some 2) } ∷
    record { form = default_form; octets = 0x00 ∷ 0x02 ∷ []; says = number 5 (Some 1) } ∷
    -- P7: ten times 81, then 01
    record { form = default_form; octets = 0x00 ∷ (replicate 10 0x81 ++ (0x01 ∷ [])); says = number 6 (Some 11) } ∷
    -- P8, P9
    record { form = default_form; octets = 0x00 ∷ 0x01 ∷ 0x11 ∷ []; says = number 7 (Some 2) } ∷
    record { form = default_form; octets = 0x00 ∷ 0x01 ∷ 0x11 ∷ 0x11 ∷ 0x00 ∷ []; says = number 8 (Some 4) } ∷
    -- P10: accepted, one Blank
    record { form = default_form; octets = 0xC0 ∷ 0x00 ∷ []; says = holds 0 0 1 0 (lies_at 0 2 0 ∷ []) ([] ∷ []) } ∷
    -- P14: lengths 22, 0 and 5
    record { form = HeaderFree; octets = replicate 22 0x55; says = holds 0 0 1 0 (lies_at 4 0 22 ∷ []) (replicate 22 0x55 ∷ []) } ∷
    record { form = HeaderFree; octets = []; says = number 9 None } ∷
    record { form = HeaderFree; octets = replicate 5 0x55; says = number 9 None } ∷
    []

-- (02, i) octets that are judged besides: a payload, under maxima 5 and 10; a recording; entries that a packet is to be written of
pub data Judged : Type 0 where
  payload : List ℕ → Judged
  recording : List ℕ → Judged
  entries : List ℕ → Judged

-- what is said of entries that were read
abbrev count_of : EntriesRead → Says
count_of (read.frames fs) = counts (length fs)
count_of (refused_entries r) = number (number_of r) (place_of r)

-- what is said of octets that are judged
abbrev pub judged : Judged → Says
judged (payload p) = said default_form p
judged (recording p) = count_of (recording_read (kind_of Evrc) p)
judged (entries es) = count_of (entries_in (kind_of Evrc) Sendable es)

-- a row: octets, and what is said of them
pub record PlaceRow : Type 0 where
  pub octets : Judged
  pub says : Says

-- the rows of (i)
abbrev pub place_rows : List PlaceRow
place_rows =
    -- "for 4 the payload's length"; "for 5 and 6 the entry's place"
    record { octets = payload (0x00 ∷ []); says = number 4 (Some 1) } ∷
    record { octets = payload (0x00 ∷ 0x81 ∷ 0x02 ∷ []); says = number 5 (Some 2) } ∷
    record { octets = payload (0x00 ∷ (replicate 10 0x81 ++ (0x02 ∷ []))); says = number 6 (Some 11) } ∷
    -- "for 7 the place of the first body that doesn't fit whole", which may be the payload's length
    record { octets = payload (0x00 ∷ 0x01 ∷ []); says = number 7 (Some 2) } ∷
    record { octets = payload (0x00 ∷ 0x80 ∷ 0x81 ∷ 0x8E ∷ 0x03 ∷ 0xAA ∷ 0xAA ∷ []); says = number 7 (Some 7) } ∷
    -- "for 8 the first octet left over"
    record { octets = payload (0x00 ∷ 0x8E ∷ 0x80 ∷ 0x0E ∷ 0x00 ∷ []); says = number 8 (Some 4) } ∷
    -- "Recordings do the same for 5 and 19, with the place of the entry octet", the opening octets counted
    record { octets = recording (evrc_opening ++ (0x02 ∷ [])); says = number 5 (Some 7) } ∷
    record { octets = recording (evrc_opening ++ (0x01 ∷ 0x11 ∷ 0x11 ∷ 0x01 ∷ 0x11 ∷ [])); says = number 19 (Some 10) } ∷
    record { octets = recording (0x23 ∷ 0x21 ∷ 0x45 ∷ 0x56 ∷ 0x52 ∷ 0x43 ∷ 0x02 ∷ []); says = number 18 None } ∷
    record { octets = recording (evrc_opening ++ (0x01 ∷ 0x11 ∷ 0x11 ∷ 0x0E ∷ [])); says = counts 2 } ∷
    -- "writers .. pass the place on": the first of the entries is at 0; 17 has none
    record { octets = entries (0x01 ∷ 0x11 ∷ 0x11 ∷ 0x02 ∷ []); says = number 5 (Some 3) } ∷
    record { octets = entries (0x01 ∷ 0x11 ∷ []); says = number 19 (Some 0) } ∷
    record { octets = entries (0x0E ∷ []); says = number 17 None } ∷
    []

-- (02, i) a capture of which each packet is told what it was answered: taken; 5 at octet 1 of its payload; another source; a later group,
-- taken when it was offered again, with a lost frame before it. There is no packet 4
abbrev pub four_packets : List ℕ
four_packets =
    0x00 ∷ 0x04 ∷
    0x00 ∷ 0x00 ∷ 0x00 ∷ 0x07 ∷ 0x00 ∷ 0x01 ∷ 0x00 ∷ 0x00 ∷ 0x00 ∷ 0x00 ∷ 0x00 ∷ 0x02 ∷
    0x00 ∷ 0x00 ∷ 0x00 ∷ 0x07 ∷ 0x00 ∷ 0x02 ∷ 0x00 ∷ 0x00 ∷ 0x00 ∷ 0xA0 ∷ 0x00 ∷ 0x02 ∷
    0x00 ∷ 0x00 ∷ 0x00 ∷ 0x08 ∷ 0x00 ∷ 0x03 ∷ 0x00 ∷ 0x00 ∷ 0x01 ∷ 0x40 ∷ 0x00 ∷ 0x01 ∷
    0x00 ∷ 0x00 ∷ 0x00 ∷ 0x07 ∷ 0x00 ∷ 0x03 ∷ 0x00 ∷ 0x00 ∷ 0x01 ∷ 0x40 ∷ 0x00 ∷ 0x02 ∷
    0x00 ∷ 0x00 ∷ 0x00 ∷ 0x02 ∷ 0x00 ∷ 0x00 ∷ 0x00 ∷ []

-- what its packets were answered
abbrev pub four_answers : List (Result ℕ CaptureError)
four_answers =
    Ok 0 ∷
    Err (Refused (ReservedType 1)) ∷
    Err (Refused AnotherSource) ∷
    Ok 1 ∷
    Err (Refused NotApplicable) ∷
    []

-- an open session that holds a group of base FFFF and L 1
pub record HoldsP15 (v : Voice) (s : Session) : Type 0 where
  pub opened : is_open v s ≡ true
  pub some : is_nothing v.shape s.group ≡ false
  pub base : s.group.numbers.sequence ≡ 0xFFFF
  pub length_one : s.group.numbers.l ≡ 1

-- an offer that is refused by this number, and leaves the session as it was
pub record RefusedBy (told : ℕ) (s : Session) (o : Offered) : Type 0 where
  pub refusal : Refusal
  pub answered : o.answer ≡ Err refusal
  pub by_number : number_of refusal ≡ told
  pub unchanged : o.session ≡ s

-- such a session refuses every packet of its own source with this new base by this number, whatever else the packet is read as
unfoldable pub NewBase : ℕ → ℕ → Type 0
NewBase base told =
    (v : Voice) (s : Session) → HoldsP15 v s →
    (sequence timestamp : ℕ) (p : List ℕ) (l n d : ℕ) (fs : List Frame) → read_as v.table s.form p ≡ packet l n d fs →
    base_sequence sequence n ≡ base → RefusedBy told s (offered v s s.source sequence timestamp p)

-- (P15) "held base FFFF, L 1: new base 0001 is 12, 0000 is 11, FFFE is 13", of any session that holds such a group
pub record P15 : Type 0 where
  pub later : NewBase 0x0001 12
  pub inside : NewBase 0x0000 11
  pub earlier : NewBase 0xFFFE 13

-- (02, ii) a poured group, the numbers of a packet after it, and what they decide
pub record PauseRow : Type 0 where
  pub poured : GroupNumbers
  pub new : GroupNumbers
  pub decides : Result Verdict Refusal

-- numbers of a group
abbrev at : ℕ → ℕ → ℕ → ℕ → GroupNumbers
at sequence timestamp l b = record { sequence = sequence; timestamp = timestamp; l = l; b = b }

-- after a group of base 5, base timestamp 1,000, L 1 and B 2: it ends at 1,640, and the next sequence number is 7
abbrev after : ℕ → ℕ → Result Verdict Refusal → PauseRow
after sequence timestamp v = record { poured = at 5 1000 1 2; new = at sequence timestamp 0 1; decides = v }

-- the rows of (ii)
abbrev pub pause_rows : List PauseRow
pause_rows =
    -- "divided by 160": no pause, one frame, 3,000 frames; "16 is given if the quotient is over 3,000"
    after 7 1640 (Ok (Begins 0)) ∷
    after 7 1800 (Ok (Begins 1)) ∷
    after 7 481640 (Ok (Begins 3000)) ∷
    after 7 481800 (Err TooFarAhead) ∷
    -- "new 24 if the difference is no multiple of 160": half a frame; "order 13, 24, 16"
    after 7 1720 (Err OffTheClock) ∷
    after 7 481801 (Err OffTheClock) ∷
    after 32775 1720 (Err EarlierGroup) ∷
    -- "the limit of 100 packets is dropped": 101 packets and 32,767 are missing, and the clock decides
    after 108 1640 (Ok (Begins 0)) ∷
    after 32774 1800 (Ok (Begins 1)) ∷
    -- "modulo 4,294,967,296": a clock that goes back, by a frame and by 96 counts; one that begins anew
    after 7 1480 (Err OffTheClock) ∷
    after 7 1544 (Err TooFarAhead) ∷
    record { poured = at 0xFFFF 0xFFFFFF60 0 1; new = at 0 160 0 1; decides = Ok (Begins 1) } ∷
    -- "with the poured group's numbers"
    record { poured = at 5 1000 1 2; new = at 7 1960 7 10; decides = Ok (Begins 2) } ∷
    []

-- the whole case: two packets of one group
abbrev pub whole_case : List ℕ
whole_case =
    0x00 ∷ 0x02 ∷
    0x00 ∷ 0x00 ∷ 0x00 ∷ 0x07 ∷ 0xFF ∷ 0xFF ∷ 0xFF ∷ 0xFF ∷ 0xFF ∷ 0x60 ∷ 0x00 ∷ 0x07 ∷
    0x00 ∷ 0x00 ∷ 0x00 ∷ 0x07 ∷ 0x00 ∷ 0x00 ∷ 0x00 ∷ 0x00 ∷ 0x00 ∷ 0x00 ∷ 0x00 ∷ 0x07 ∷
    0x08 ∷ 0x81 ∷ 0x01 ∷ 0x11 ∷ 0x11 ∷ 0x33 ∷ 0x33 ∷
    0x09 ∷ 0x81 ∷ 0x01 ∷ 0x22 ∷ 0x22 ∷ 0x44 ∷ 0x44 ∷ []

-- the same, its second packet lost
abbrev pub second_lost : List ℕ
second_lost =
    0x00 ∷ 0x01 ∷
    0x00 ∷ 0x00 ∷ 0x00 ∷ 0x07 ∷ 0xFF ∷ 0xFF ∷ 0xFF ∷ 0xFF ∷ 0xFF ∷ 0x60 ∷ 0x00 ∷ 0x07 ∷
    0x08 ∷ 0x81 ∷ 0x01 ∷ 0x11 ∷ 0x11 ∷ 0x33 ∷ 0x33 ∷ []

-- a capture is good, and its recording is the opening octets and these
pub record Records (c w : List ℕ) : Type 0 where
  pub whole : good c ≡ true
  pub recording : capture_recording capture_kind c ≡ capture_kind.opening ++ w

-- (02, ii) a talk with a silence of two frames: two groups of one frame, with sequence numbers that follow each other
abbrev pub silent_talk : List ℕ
silent_talk =
    0x00 ∷ 0x02 ∷
    0x00 ∷ 0x00 ∷ 0x00 ∷ 0x07 ∷ 0x00 ∷ 0x01 ∷ 0x00 ∷ 0x00 ∷ 0x00 ∷ 0x00 ∷ 0x00 ∷ 0x04 ∷
    0x00 ∷ 0x00 ∷ 0x00 ∷ 0x07 ∷ 0x00 ∷ 0x02 ∷ 0x00 ∷ 0x00 ∷ 0x01 ∷ 0xE0 ∷ 0x00 ∷ 0x04 ∷
    0x00 ∷ 0x01 ∷ 0x11 ∷ 0x11 ∷
    0x00 ∷ 0x01 ∷ 0x22 ∷ 0x22 ∷ []

-- a group of that talk, as it was spoken
abbrev pub spoken_one : ℕ → ℕ → ℕ → ℕ → Spoken
spoken_one sequence start silence octet =
    record {
      source = 7;
      numbers = at sequence start 0 1;
      frames = record { type = 1; body = octet ∷ octet ∷ [] } ∷ [];
      payload = λ n. 0x00 ∷ 0x01 ∷ octet ∷ octet ∷ [];
      start = start;
      silence = silence;
    }

-- (P11) and (P12), and that talk
pub record WholeCase : Type 0 where
  pub heard : Records whole_case (0x01 ∷ 0x11 ∷ 0x11 ∷ 0x01 ∷ 0x22 ∷ 0x22 ∷ 0x01 ∷ 0x33 ∷ 0x33 ∷ 0x01 ∷ 0x44 ∷ 0x44 ∷ [])
  pub lost : Records second_lost (0x01 ∷ 0x11 ∷ 0x11 ∷ 0x0E ∷ 0x01 ∷ 0x33 ∷ 0x33 ∷ 0x0E ∷ [])
  pub talk : (writers : Writers) → Talk writers (spoken_one 1 0 0 0x11) (spoken_one 2 480 2 0x22 ∷ []) silent_talk
  pub silence : Records silent_talk (0x01 ∷ 0x11 ∷ 0x11 ∷ 0x0E ∷ 0x0E ∷ 0x01 ∷ 0x22 ∷ 0x22 ∷ [])

-- each row's octets are read as the row says; (P13) sequence 0000, timestamp 0, N 1 has the bases FFFF and FFFFFF60; and (P14) any 22
-- octets are a frame of type 4
pub record MarkedExamples : Type 0 where
  pub as_said : map (λ (r : Row). said r.form r.octets) rows ≡ map (λ (r : Row). r.says) rows
  pub places : map (λ (r : PlaceRow). judged r.octets) place_rows ≡ map (λ (r : PlaceRow). r.says) place_rows
  pub answers : map (answer_of capture_kind four_packets) (from 0 5) ≡ four_answers
  pub any_rate1 : (p : List ℕ) → length p ≡ 22 →
      read_as (table_of HeaderFree) HeaderFree p ≡ packet 0 0 0 (record { type = 4; body = p } ∷ [])
  pub bases : (base_sequence 0 1 ≡ 0xFFFF) × (base_timestamp 0 1 ≡ 0xFFFFFF60)
  pub distances : P15
  pub pauses : map (λ (r : PauseRow). after_poured r.poured r.new) pause_rows ≡ map (λ (r : PauseRow). r.decides) pause_rows
  pub captures : WholeCase
