-- `lending::flags_at` meets its contract.
use Prim.Native.Nat.{ℕ, ◌+◌}
use mathlib.Core.Bool.{false}
use native.Mathlib.Omega.{arith}
use borrow.Author.Rules.{rules}
use borrow.Author.Tests.{tests}
use lib.ListN.{get_or}
use Rattle.lending.specs.Laid.{is_set}
use Rattle.lending.proofs.LaidLaws.{made-at, flags-read}
use Rattle.lending.proofs.flags_at.Goals as goal

pub returns : goal.returns
returns c =
    let o = c.args.lent.now in
    flags-read o c.args.at _ c.requires c.from_fn.ensures.items.long
    (λ i k. made-at _ _ (λ (j : ℕ). is_set (get_or o (c.args.at + j) 0)) _ (λ j y q e. search (rules, tests)) 8 0 c.from_fn.ensures.items.each i false (omega arith) (omega arith))
