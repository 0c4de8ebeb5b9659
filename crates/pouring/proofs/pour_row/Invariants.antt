-- `pouring::pour_row` meets its contract. The invariant: the entries of the packets before n are written.
use Prim.Native.Nat.{◌+◌}
use mathlib.Core.Path.{◌≡◌}
use lib.ListN.{length}
use Rattle.entries.specs.Entries.{entries_of}
use Rattle.frame.specs.FrameTable.{rows_of}
use Rattle.frame.specs.Shape.{voice_of}
use Rattle.octets.specs.Octets.{over}
use Rattle.pouring.specs.Pouring.{row, row_size}
use Rattle.pouring.proofs.pour_row.Given as goal

abbrev pub invariant-loop-n : goal.invariant-loop-n
invariant-loop-n l =
    (length l.out ≡ length l.initial.out) × (l.next ≡ l.at + row_size (rows_of l.vocoder) l.cells.marks.now l.k l.n) ×
    (l.out ≡ over l.initial.out l.at (entries_of (row (voice_of l.vocoder) l.cells.marks.now l.cells.room.now l.k l.n)))
