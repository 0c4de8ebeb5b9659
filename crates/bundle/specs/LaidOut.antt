-- Document 01, "Groups": the frames of a payload as the packet that a holding has room for.
use Rattle.std.specs.Prelude.{ℕ, ◌-◌, List, [], ◌∷◌, ◌++◌, length, replicate}
use Rattle.frame.specs.FrameTable.{Frame, erasure, types_of}
use Rattle.frame.specs.Shape.{Shape, room_of}
use Rattle.bundle.specs.declared.Bundle.{Bundle}

-- a list, and then x until there are n
unfoldable pub filled : ℕ → ℕ → List ℕ → List ℕ
filled n x xs = xs ++ replicate (n - length xs) x

-- the bodies, each in a cell of so many octets
unfoldable pub rooms : ℕ → List Frame → List ℕ
rooms cell [] = []
rooms cell (f ∷ fs) = filled cell 0 f.body ++ rooms cell fs

-- frames laid out: their types, then erasures; their bodies, then zeros
unfoldable pub laid : Shape → List Frame → Bundle
laid shape fs = record { marks = filled 10 erasure (types_of fs); room = filled (room_of shape) 0 (rooms shape.cell fs) }
