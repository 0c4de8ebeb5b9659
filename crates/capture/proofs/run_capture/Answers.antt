-- `capture::run_capture` meets its contract.
use mathlib.Core.Path.{refl, ◌∙◌}
use native.Mathlib.Nat.{le_refl}
use native.Mathlib.Omega.{arith}
use Rattle.capture.specs.Run.{capture_kind}
use Rattle.capture.proofs.RunLaws.{table_fits, table-erases, run-all, all-fits, opening-put, none-recorded, whole_run_lem}
use Rattle.capture.proofs.CaptureLaws.{good-is, table-in}
use Rattle.capture.proofs.InPlace.{first-whole, first-stands}
use Rattle.capture.proofs.run_capture.Goals as goal

pub two-count-requires : goal.two-count-requires
two-count-requires c = omega (arith, table-in _ (good-is _ c.requires))

pub returns-then-count-eq0 : goal.returns-then-count-eq0
returns-then-count-eq0 c =
    rw (none-recorded capture_kind _ _ c.two-count.ensures c.if-count-eq0.true) (refl, opening-put _ _ _ _ c.write-opened.ensures)

pub first_standing-requires : goal.first_standing-requires
first_standing-requires c =
    omega (arith, c.two-count.ensures, table-in _ (good-is _ c.requires))

pub run_packets-requires : goal.run_packets-requires
run_packets-requires c =
    let first = first-whole _ _ c.two-count.ensures c.if-count-eq0.false _ c.first_standing.ensures in
    let opened = first-stands _ _ c.two-count.ensures c.if-count-eq0.false _ c.first_standing.ensures in
    (c.requires, c.two-count.ensures, le_refl _, refl, first, opened)

pub pour_group-requires : goal.pour_group-requires
pour_group-requires c =
    let first = first-whole _ _ c.two-count.ensures c.if-count-eq0.false _ c.first_standing.ensures in
    let run = run-all _ _ _ _ _ _ _ _ c.two-count.ensures c.run_packets.ensures.0 in
    (c.run_packets.ensures.1, omega (arith, all-fits capture_kind table_fits table-erases _ c.requires _ first _ _ _ run))

pub shape_of-out : goal.shape_of-out
shape_of-out c =
    c.pour_group.auto.out ∙ c.run_packets.auto.out ∙ c.write-opened.auto.out

pub returns : goal.returns
returns c =
    let first = first-whole _ _ c.two-count.ensures c.if-count-eq0.false _ c.first_standing.ensures in
    let run = run-all _ _ _ _ _ _ _ _ c.two-count.ensures c.run_packets.ensures.0 in
    whole_run_lem capture_kind _ _ _ _ _ _ _ _ refl first (opening-put _ _ _ _ c.write-opened.ensures) run c.pour_group.ensures
