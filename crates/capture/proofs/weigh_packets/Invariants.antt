-- `capture::weigh_packets` meets its contract. The invariant: the run over the first i packets is measured, and the next payload begins at
-- start.
use Prim.Native.Nat.{◌≤◌}
use mathlib.Core.Path.{◌≡◌}
use Rattle.capture.specs.Capture.{start_at}
use Rattle.capture.proofs.WeighingLaws.{Ran}
use Rattle.capture.proofs.weigh_packets.Given as goal

abbrev pub invariant-loop-i : goal.invariant-loop-i
invariant-loop-i l = (l.i ≤ l.count) × (l.start ≡ start_at l.capture l.i) × Ran l.capture l.i l.going
