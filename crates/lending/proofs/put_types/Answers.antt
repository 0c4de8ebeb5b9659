-- `lending::put_types` meets its contract.
use native.Mathlib.Omega.{arith}
use Rattle.lending.proofs.LaidLaws.{types-laid}
use Rattle.lending.proofs.put_types.Goals as goal

pub returns : goal.returns
returns c =
    types-laid c.args.held.now c.args.marks.now _ _ (omega (arith, c.requires.0)) c.requires.1 _ _ _ c.put_flags.ensures c.fill.ensures
    c.copy_shifted.ensures
