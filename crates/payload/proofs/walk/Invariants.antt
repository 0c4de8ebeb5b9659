-- `payload::walk` meets its contract. The invariant: what the walk yields from the entry reached, added to what was counted, is what
-- the whole walk yields; and of each body up to here, the octets of those before it. Assumes nothing.
use Rattle.std.proofs.Common.{◌+◌, ◌*◌, ◌-◌, ◌≤◌, ◌≡◌, length, drop}
use Rattle.frame.specs.FrameTable.{rows_of}
use Rattle.payload.specs.Shown.{walked_from, walked}
use Rattle.payload.specs.Payload.{toc}
use Rattle.payload.proofs.Laying.{before}
use Rattle.payload.proofs.Cutting.{Summed}
use Rattle.payload.proofs.walk.Given as goal

abbrev pub invariant-entries : goal.invariant-entries
invariant-entries l = (l.count ≤ l.max_b) × (l.size ≤ 255 * l.count) ×
    (walked_from (rows_of l.vocoder) l.count l.size (toc (rows_of l.vocoder) l.max_b l.count (l.count + 1) (drop (l.count + 1) l.payload))
    ≡ walked (rows_of l.vocoder) (toc (rows_of l.vocoder) l.max_b 0 1 (drop 1 l.payload)))
    × (length l.sums ≡ length l.initial.sums) × (l.size ≡ before (rows_of l.vocoder) l.payload l.count) × Summed (rows_of l.vocoder) l.payload l.count l.sums

abbrev pub decreases-entries : goal.decreases-entries
decreases-entries l = length l.payload - l.count
