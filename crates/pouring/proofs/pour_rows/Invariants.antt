-- `pouring::pour_rows` meets its contract. The invariant: the rows before k are written.
use mathlib.Core.Path.{◌≡◌}
use lib.ListN.{length}
use Rattle.entries.specs.Entries.{entries_of}
use Rattle.frame.specs.FrameTable.{rows_of}
use Rattle.frame.specs.Shape.{voice_of}
use Rattle.octets.specs.Octets.{over}
use Rattle.pouring.specs.Pouring.{rows, rows_size}
use Rattle.pouring.proofs.pour_rows.Given as goal

abbrev pub invariant-loop-k : goal.invariant-loop-k
invariant-loop-k l =
    (length l.out ≡ length l.initial.out) × (l.at ≡ rows_size (rows_of l.vocoder) l.cells.marks.now l.m l.k) ×
    (l.out ≡ over l.initial.out 0 (entries_of (rows (voice_of l.vocoder) l.cells.marks.now l.cells.room.now l.m l.k)))
