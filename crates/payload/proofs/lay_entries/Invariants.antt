-- `payload::lay_entries` meets its contract. The invariant: the first k frames are laid out, and body k begins at `start`.
use Prim.Native.Nat.{◌+◌, ◌*◌}
use mathlib.Core.Path.{◌≡◌}
use lib.ListN.{length}
use Rattle.frame.specs.FrameTable.{rows_of}
use Rattle.frame.specs.Shape.{shape_of}
use Rattle.bundle.proofs.LaidOutLaws.{LaidFirst}
use Rattle.payload.proofs.Laying.{framesAlong, before}
use Rattle.payload.proofs.lay_entries.Given as goal

abbrev pub invariant-loop-k : goal.invariant-loop-k
invariant-loop-k l = (l.start ≡ 1 + l.b + before (rows_of l.vocoder) l.payload l.k)
    × (length l.marks ≡ 10)
    × (length l.room ≡ (shape_of l.vocoder).cell * 10)
    × LaidFirst (shape_of l.vocoder) (framesAlong (rows_of l.vocoder) l.payload l.b) l.k l.marks l.room
