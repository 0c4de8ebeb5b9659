-- `lending::marks_at` meets its contract.
use Prim.Native.Nat.{ℕ}
use lib.ListN.{length-replicate}
use Rattle.lending.proofs.LaidLaws.{whole-shifted}
use Rattle.lending.proofs.marks_at.Goals as goal

pub returns : goal.returns
returns c =
    whole-shifted _ _ _ _ _ _ (length-replicate {A = ℕ} 80 0) c.requires c.copy_shifted.ensures
