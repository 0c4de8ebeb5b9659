-- Document 01, "Groups": a holding is one group as far as heard, over any shape and frame table: ten frames to a packet, each in a cell.
-- The record that the code declares has lists here, of any length: how long they are is said of a shape. A struct with other arrays is
-- read into the same record, and all that follows holds of it.
use Rattle.std.specs.Prelude.{ℕ, ◌*◌, Bool, true, false, not, cond, ◌&&◌, List, ◌≡◌, length, get_or, set, replicate, eqb, leb}
use Rattle.octets.specs.Octets.{over, same_octets, all_zero, any_set, all_below, region}
use Rattle.frame.specs.declared.Vocoder.{Vocoder}
use Rattle.frame.specs.declared.Vocoder.TheVariants.{Evrc}
use Rattle.frame.specs.FrameTable.{rows_of, erasure}
use Rattle.frame.specs.Shape.{Shape, Voice, packets_of, room_of, voice_with}
use Rattle.numbers.specs.Bases.{same_numbers}
use Rattle.numbers.specs.declared.GroupNumbers.{GroupNumbers}
use Rattle.bundle.specs.declared.Bundle.{Bundle}
use Rattle.bundle.specs.declared.Cells.{Cells}
use Rattle.bundle.specs.Bundles.{bundle_in, frames_right, not_held, same_bundles}
use Rattle.holding.specs.declared.Holding.{Holding}
use Rattle.holding.specs.declared.Group.{Group}

-- ---- a holding

-- as long as a shape makes them: a flag for each packet, a type and a cell for each frame
pub record Spans (shape : Shape) (hs : List Bool) (ms rs : List ℕ) : Type 0 where
  pub long_held : length hs ≡ packets_of shape
  pub long_marks : length ms ≡ 10 * packets_of shape
  pub long_room : length rs ≡ room_of shape * packets_of shape

-- a holding is
abbrev pub Shaped : Shape → Holding → Type 0
Shaped shape h = Spans shape h.held h.marks h.room

-- the holding of these parts
abbrev pub holding_of : ℕ → GroupNumbers → List Bool → List ℕ → List ℕ → Holding
holding_of source g hs ms rs =
    record {
      source = source;
      numbers = g;
      held = hs;
      marks = ms;
      room = rs;
    }

-- types and cells that the code has at hand are those of a group: as long as a shape makes them
abbrev pub OfGroup : Shape → Cells → Type 0
OfGroup shape c = (length c.marks.now ≡ 10 * packets_of shape) × (length c.room.now ≡ room_of shape * packets_of shape)

-- and its parts are
abbrev pub Spanning : Shape → Group → Type 0
Spanning shape g = Spans shape g.held.now g.cells.marks.now g.cells.room.now

-- and the holding of them
abbrev pub group_of : ℕ → GroupNumbers → Group → Holding
group_of source numbers g = holding_of source numbers g.held.now g.cells.marks.now g.cells.room.now

-- no numbers
abbrev pub no_numbers : GroupNumbers
no_numbers = record { sequence = 0; timestamp = 0; l = 0; b = 0 }

-- a group of which no packet is held yet
unfoldable pub begun : Shape → ℕ → GroupNumbers → Holding
begun shape source g =
    record {
      source = source;
      numbers = g;
      held = replicate (packets_of shape) false;
      marks = replicate (10 * packets_of shape) erasure;
      room = replicate (room_of shape * packets_of shape) 0;
    }

-- the numbers of its group: "base sequence number, base timestamp, L, B"
abbrev pub numbers_of : Holding → GroupNumbers
numbers_of h = h.numbers

-- nothing held
unfoldable pub nothing : Shape → Holding
nothing shape = begun shape 0 no_numbers

-- no packet is held, every place reads as an erasure, and all room is zero
unfoldable pub bare : Shape → Holding → Bool
bare shape h = not (any_set h.held) && (same_octets h.marks (nothing shape).marks && all_zero h.room)

-- a holding is that of nothing, as a test
unfoldable pub is_nothing : Shape → Holding → Bool
is_nothing shape h =
    eqb h.source 0 && (same_numbers h.numbers no_numbers && bare shape h)

-- whether packet n is held
unfoldable pub held_at : Holding → ℕ → Bool
held_at h n = get_or h.held n false

-- packet n's frames, of these types and cells: a packet is one region of them
unfoldable pub bundle_of : Shape → List ℕ → List ℕ → ℕ → Bundle
bundle_of shape ms rs n = bundle_in (region ms 10 n) (region rs (room_of shape) n)

-- packet n's frames
abbrev pub bundle_at : Shape → Holding → ℕ → Bundle
bundle_at shape h n = bundle_of shape h.marks h.room n

-- packet n put in
unfoldable pub with_packet : Shape → Holding → ℕ → Bundle → Holding
with_packet shape h n p =
    record {
      source = h.source;
      numbers = h.numbers;
      held = set h.held n true;
      marks = over h.marks (10 * n) p.marks;
      room = over h.room (room_of shape * n) p.room;
    }

-- the vocoder of the frames of a holding: EVRC, as yet of each
abbrev pub vocoder_in : Holding → Vocoder
vocoder_in h = Evrc

-- and its voice
abbrev pub voice_in : Holding → Voice
voice_in h = voice_with (rows_of (vocoder_in h))

-- packet n of a group of l and b keeps the rule: held, it is none "above L" and its frames keep it; not held, it reads as erasures
unfoldable pub packet_right : Voice → ℕ → ℕ → ℕ → Bool → Bundle → Bool
packet_right v l b n held p = cond held (leb n l && frames_right v b p) (same_bundles p (not_held v.shape))

-- packet n keeps the rule, of a group of l and b with these flags, types and cells
unfoldable pub right_in : Voice → ℕ → ℕ → List Bool → List ℕ → List ℕ → ℕ → Bool
right_in v l b hs ms rs n = packet_right v l b n (get_or hs n false) (bundle_of v.shape ms rs n)

-- packet n of a holding keeps the rule
abbrev pub right_at : Voice → Holding → ℕ → Bool
right_at v h n = right_in v h.numbers.l h.numbers.b h.held h.marks h.room n

-- packet n of a group of these numbers, of parts that the code has at hand
abbrev pub right_of : Voice → GroupNumbers → Group → ℕ → Bool
right_of v g p = right_in v g.l g.b p.held.now p.cells.marks.now p.cells.room.now

-- what breaks it: "L above 7, B not 1 to 10", and a packet that breaks the rule
unfoldable pub sound : Voice → Holding → Bool
sound v h = leb h.numbers.l v.shape.greatest && leb 1 h.numbers.b && leb h.numbers.b 10 && all_below (right_at v h) (packets_of v.shape)

-- "A holding that breaks this .. counts as holding no packet."
unfoldable pub holds : Voice → Holding → Bool
holds v h = sound v h && any_set h.held
