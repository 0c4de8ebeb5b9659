-- `capture::run_packets` meets its contract. The invariant: the run over the first i packets is done, its session is open, and the next
-- payload begins at start.
use Rattle.std.proofs.Common.{◌≡◌, ◌≤◌, length}
use Rattle.frame.specs.Places.{up_to}
use Rattle.session.specs.Standing.{whole, Stands}
use Rattle.capture.specs.Run.{capture_kind, run_of, Does}
use Rattle.capture.specs.Going.{run_in}
use Rattle.capture.specs.Capture.{start_at, heard_at}
use Rattle.capture.proofs.run_packets.Given as goal

abbrev pub invariant-loop-i : goal.invariant-loop-i
invariant-loop-i l = (l.i ≤ l.n)
    × (length l.out ≡ length l.initial.out)
    × (l.start ≡ start_at l.capture l.i)
    × (length l.marks ≡ length l.initial.marks)
    × (length l.room ≡ length l.initial.room)
    × Does (run_of capture_kind (whole l.initial.going.standing l.initial.marks l.initial.room) (up_to (heard_at l.capture) l.i))
    l.initial.going.octets l.initial.out (run_in l.going l.marks l.room) l.out
    × Stands l.going.standing l.marks l.room
