-- `lending::put_last` meets its contract.
use native.Mathlib.Omega.{arith}
use Rattle.lending.proofs.LaidLaws.{last-laid}
use Rattle.lending.proofs.put_last.Goals as goal

pub returns-in-Some : goal.returns-in-Some
returns-in-Some c =
    last-laid _ _ _ (omega (arith, c.requires)) _ _ _ _ c.in-Some.is c.put_two.ensures c.put_pair.ensures c.fill-in-Some.ensures
    c.put_four.ensures
