-- `explain::packets::explain_packets` is safe: a payload begins within the capture.
use Rattle.std.proofs.Common.{◌≤◌, length}
use Rattle.explain.proofs.packets.explain_packets.Given as goal

abbrev pub invariant-loop-i : goal.invariant-loop-i
invariant-loop-i l = l.start ≤ length l.capture
