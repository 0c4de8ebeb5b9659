-- `entries::count` meets its contract. The invariant: what the walk yields from the entry reached, added to what was counted, is what
-- the whole walk yields. Assumes nothing.
use Prim.Native.Nat.{◌-◌, ◌≤◌}
use mathlib.Core.Path.{◌≡◌}
use lib.ListN.{length, drop}
use Rattle.frame.specs.FrameTable.{rows_of}
use Rattle.entries.specs.Counting.{counted_from, counted_of}
use Rattle.entries.specs.Kind.{kind_of}
use Rattle.entries.specs.Entries.{allowed, entries_from}
use Rattle.entries.specs.Entries as spec
use Rattle.entries.proofs.count.Given as goal

abbrev pub invariant-entries : goal.invariant-entries
invariant-entries l = (l.n ≤ l.at) ×
    (counted_from l.n (spec.entries (kind_of l.vocoder) (allowed (rows_of l.vocoder) l.rule) l.at 0 (drop l.at l.entries))
    ≡ counted_of (entries_from (kind_of l.vocoder) l.rule l.from (drop l.from l.entries)))

abbrev pub decreases-entries : goal.decreases-entries
decreases-entries l = length l.entries - l.at
