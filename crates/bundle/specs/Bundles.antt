-- Document 01, "Groups": one packet's frames as a holding has room for them, over any shape and frame table.
use Rattle.std.specs.Prelude.{ℕ, Bool, ◌&&◌, ◌||◌, List, length, ◌≡◌, take, drop, get_or, replicate, eqb, ltb}
use Rattle.octets.specs.Octets.{same_octets, all_zero, all_below, region}
use Rattle.frame.specs.FrameTable.{Frame, known, size, erasure}
use Rattle.frame.specs.Shape.{Shape, Voice, room_of}
use Rattle.bundle.specs.declared.Bundle.{Bundle}
use Rattle.bundle.specs.declared.Cells.{Cells}

-- a packet of these types and bodies
abbrev pub bundle_in : List ℕ → List ℕ → Bundle
bundle_in ms rs = record { marks = ms; room = rs }

-- the packet of types and cells that the code has at hand
abbrev pub as_bundle : Cells → Bundle
as_bundle c = bundle_in c.marks.now c.room.now

-- as long as a packet's are: ten types, and ten cells
abbrev pub OfPacket : Shape → Cells → Type 0
OfPacket shape c = (length c.marks.now ≡ 10) × (length c.room.now ≡ room_of shape)

-- a packet that is not held: "a place not held reads as an erasure", and its room is zero
unfoldable pub not_held : Shape → Bundle
not_held shape = record { marks = replicate 10 erasure; room = replicate (room_of shape) 0 }

-- "same types and bodies", as a test
unfoldable pub same_bundles : Bundle → Bundle → Bool
same_bundles p q = same_octets p.marks q.marks && same_octets p.room q.room

-- the type at place k of a packet
unfoldable pub mark_at : Bundle → ℕ → ℕ
mark_at p k = get_or p.marks k 0

-- frame k of a packet: its type, and as much of its cell as that type takes
unfoldable pub frame_of : Voice → Bundle → ℕ → Frame
frame_of v p k = record { type = mark_at p k; body = take (size v.table (mark_at p k)) (region p.room v.shape.cell k) }

-- a type may stand at frame k of a packet of b frames: any below b, an erasure from b on
unfoldable pub may_stand : ℕ → ℕ → ℕ → Bool
may_stand b k t = ltb k b || eqb t erasure

-- frame k keeps the rule: its type is in the table and may stand there, and "room not used by a held frame is zero"
unfoldable pub frame_right : Voice → ℕ → Bundle → ℕ → Bool
frame_right v b p k =
    known v.table (mark_at p k) && may_stand b k (mark_at p k) &&
    all_zero (drop (size v.table (mark_at p k)) (region p.room v.shape.cell k))

-- all ten places of a packet are right
unfoldable pub frames_right : Voice → ℕ → Bundle → Bool
frames_right v b p = all_below (frame_right v b p) 10
