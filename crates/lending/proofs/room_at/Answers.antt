-- `lending::room_at` meets its contract.
use Prim.Native.Nat.{ℕ}
use lib.ListN.{length-replicate}
use Rattle.lending.proofs.LaidLaws.{whole_part}
use Rattle.lending.proofs.room_at.Goals as goal

pub returns : goal.returns
returns c =
    whole_part _ _ _ _ _ (length-replicate {A = ℕ} 1760 0) c.requires c.copy.ensures
