-- Document 01, "Answers by number": the paper's number of each refusal, with those of document 02; and document 02, (i), "Say where the
-- fault is": its place.
use Rattle.std.specs.Prelude.{ℕ, Option, Some, None}
use Rattle.answers.specs.declared.Refusal.{Refusal}
use Rattle.answers.specs.declared.Refusal.TheVariants.{
  NoOctet,
  IndexPastLength,
  LengthPastMaximum,
  TableCut,
  ReservedType,
  TooManyFrames,
  BundleOutOfRange,
  BodiesCut,
  OctetsLeft,
  HeaderFreeLength,
  AnotherSource,
  ContradictsGroup,
  LaterGroup,
  EarlierGroup,
  PacketDiffers,
  NoRoom,
  TooFarAhead,
  NotSendable,
  WrongOpening,
  BodyCut,
  NotSameGroup,
  NotApplicable,
  OffTheClock,
}

-- the table's first column; and (02, ii) "new 24 if the difference is no multiple of 160"
abbrev pub number_of : Refusal → ℕ
number_of NoOctet = 1
number_of IndexPastLength = 2
number_of LengthPastMaximum = 3
number_of (TableCut at) = 4
number_of (ReservedType at) = 5
number_of (TooManyFrames at) = 6
number_of BundleOutOfRange = 6
number_of (BodiesCut at) = 7
number_of (OctetsLeft at) = 8
number_of HeaderFreeLength = 9
number_of AnotherSource = 10
number_of ContradictsGroup = 11
number_of LaterGroup = 12
number_of EarlierGroup = 13
number_of PacketDiffers = 14
number_of NoRoom = 15
number_of TooFarAhead = 16
number_of NotSendable = 17
number_of WrongOpening = 18
number_of (BodyCut at) = 19
number_of NotSameGroup = 20
number_of NotApplicable = 21
number_of OffTheClock = 24

-- (02, i) "Refusals 4 to 8 of a payload must carry the octet place of the fault"; "Recordings do the same for 5 and 19". Every other
-- refusal has none
abbrev pub place_of : Refusal → Option ℕ
place_of NoOctet = None
place_of IndexPastLength = None
place_of LengthPastMaximum = None
place_of (TableCut at) = Some at
place_of (ReservedType at) = Some at
place_of (TooManyFrames at) = Some at
place_of BundleOutOfRange = None
place_of (BodiesCut at) = Some at
place_of (OctetsLeft at) = Some at
place_of HeaderFreeLength = None
place_of AnotherSource = None
place_of ContradictsGroup = None
place_of LaterGroup = None
place_of EarlierGroup = None
place_of PacketDiffers = None
place_of NoRoom = None
place_of TooFarAhead = None
place_of NotSendable = None
place_of WrongOpening = None
place_of (BodyCut at) = Some at
place_of NotSameGroup = None
place_of NotApplicable = None
place_of OffTheClock = None
