-- `lending::is_laid_holding` meets its contract.
use Prim.Native.Nat.{ℕ}
use lib.ListN.{length-replicate}
use borrow.Author.Rules.{rules}
use Rattle.frame.specs.Shape.{holding_shape}
use Rattle.holding.specs.Group.{Shaped}
use Rattle.lending.proofs.Pieces.{length-holding-laid}
use Rattle.lending.proofs.LaidLaws.{laid-again}
use Rattle.lending.proofs.is_laid_holding.Goals as goal

pub returns : goal.returns
returns c = let s : Shaped holding_shape c.args.h = search rules in
    laid-again _ _ _ _ _ c.requires (length-replicate {A = ℕ} 2304 0) (length-holding-laid _ s) c.lay_holding.ensures c.same.ensures
