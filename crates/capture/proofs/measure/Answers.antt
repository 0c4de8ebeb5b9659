-- `capture::measure` meets its contract.
use Rattle.std.proofs.Common.{arith}
use Rattle.capture.specs.Run.{capture_kind}
use Rattle.capture.proofs.RunLaws.{none-recorded}
use Rattle.capture.proofs.CaptureLaws.{good-is, table-in}
use Rattle.capture.proofs.WeighingLaws.{begun-measured}
use Rattle.capture.proofs.measure.Goals as goal

pub two-count-requires : goal.two-count-requires
two-count-requires c = omega (arith, table-in _ (good-is _ c.requires))

pub returns-then-count-eq0 : goal.returns-then-count-eq0
returns-then-count-eq0 c = rw (none-recorded capture_kind _ _ c.two-count.ensures c.if-count-eq0.true)

pub first_standing-requires : goal.first_standing-requires
first_standing-requires c = omega (arith, c.two-count.ensures, table-in _ (good-is _ c.requires))

pub weigh_packets-requires : goal.weigh_packets-requires
weigh_packets-requires c =
    (c.requires, c.two-count.ensures, begun-measured _ _ c.two-count.ensures c.if-count-eq0.false _ c.first_standing.ensures)
