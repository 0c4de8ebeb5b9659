-- Document 01, "Groups": what a group's frames are laid out in. Bundles, holdings, joining, pouring and sessions are defined over any.
use Rattle.std.specs.Prelude.{ℕ, ◌+◌, ◌*◌}
use Rattle.frame.specs.FrameTable.{FrameTable, rows_of}
use Rattle.frame.specs.declared.Vocoder.{Vocoder}
use Rattle.frame.specs.declared.Vocoder.TheVariants.{Evrc}

-- the shape of a group: the octets of a cell, which is the room of one frame, and the greatest L
pub record Shape : Type 0 where
  pub cell : ℕ
  pub greatest : ℕ

-- the packets of the longest group, "N from 0 to L"
abbrev pub packets_of : Shape → ℕ
packets_of shape = shape.greatest + 1

-- the octets of the room of one packet, of ten frames
abbrev pub room_of : Shape → ℕ
room_of shape = shape.cell * 10

-- "a holding has room for 80 frames of 22 octets": ten frames of each of 8 packets
abbrev pub holding_shape : Shape
holding_shape = record { cell = 22; greatest = 7 }

-- the shape of the groups of a vocoder
unfoldable pub shape_of : Vocoder → Shape
shape_of Evrc = holding_shape

-- what groups know of a vocoder: its frame table, and the shape of its groups
pub record Voice : Type 0 where
  pub table : FrameTable
  pub shape : Shape

-- frames of this table in a holding
abbrev pub voice_with : FrameTable → Voice
voice_with table = record { table = table; shape = holding_shape }

-- the voice of a vocoder
abbrev pub voice_of : Vocoder → Voice
voice_of vocoder = record { table = rows_of vocoder; shape = shape_of vocoder }
