-- `payload::lay_body` meets its contract.
use Rattle.std.proofs.Common.{sym, ◌∙◌, [], arith}
use Rattle.frame.specs.FrameTable.{rows_of}
use Rattle.frame.proofs.FrameTableLaws.{rows_fit, rows-single}
use Rattle.payload.proofs.LayingOut.{none-laid, free-none, free-fits, free_one}
use Rattle.payload.proofs.lay_body.Goals as goal

pub bounds-marks-0 : goal.bounds-marks-0
bounds-marks-0 c = omega (arith, (none-laid _ _ _ c.requires []).0)

pub copy-requires : goal.copy-requires
copy-requires c =
    let v = c.args.vocoder in
    free-fits (rows_of v) _ c.args.payload.now _ _ c.requires (rows-single v) (rows_fit v) _ (sym c.row_of_size.ensures ∙ c.in-Some.is)

pub returns-in_default : goal.returns-in_default
returns-in_default c = free-none _ _ _ _ _ c.requires (sym c.row_of_size.ensures ∙ c.in_default.is)

pub returns-in-Some : goal.returns-in-Some
returns-in-Some c =
    let v = c.args.vocoder in
    free_one _ _ _ _ _ c.requires (rows-single v) (rows_fit v) _ (sym c.row_of_size.ensures ∙ c.in-Some.is) _ c.copy.ensures
