-- `lending::put_group` meets its contract.
use native.Mathlib.Omega.{arith}
use Rattle.lending.proofs.LaidLaws.{group-laid}
use Rattle.lending.proofs.put_group.Goals as goal

pub returns : goal.returns
returns c rs =
    group-laid _ _ _ (omega (arith, c.requires.0)) _ _ (c.put_numbers.ensures _ _ rs) c.put_types.ensures
