-- `lending::put_numbers` meets its contract.
use native.Mathlib.Omega.{arith}
use Rattle.lending.proofs.LaidLaws.{numbers-laid}
use Rattle.lending.proofs.put_numbers.Goals as goal

pub returns : goal.returns
returns c hs ms rs =
    numbers-laid _ _ _ (omega (arith, c.requires)) _ _ _ _ _ c.put_four.ensures c.put_two.ensures c.put_four-2.ensures
    c.put_pair.ensures c.fill.ensures
