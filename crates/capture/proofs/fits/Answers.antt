-- `capture::fits` meets its contract.
use Rattle.std.proofs.Common.{refl, sym, ◌∙◌, le_trans, le-leb}
use Rattle.capture.specs.Run.{capture_kind}
use Rattle.capture.proofs.RunLaws.{table_fits, table-erases, largest-is}
use Rattle.capture.proofs.fits.Goals as goal

pub returns-then-room-ge-LARGEST : goal.returns-then-room-ge-LARGEST
returns-then-room-ge-LARGEST c = le-leb _ _ c.if-room-ge-LARGEST.true ∙ sym (le-leb _ _ (le_trans (largest-is capture_kind table_fits table-erases _ refl c.requires) c.if-room-ge-LARGEST.true))
