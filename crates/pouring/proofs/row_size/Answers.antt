-- `pouring::row_size` meets its contract.
use Prim.Native.Nat.{ℕ, ◌+◌, ◌*◌}
use mathlib.Core.Path.{◌≡◌, ◌∙◌}
use native.Mathlib.Omega.{arith}
use borrow.Author.Rules.{rules}
use borrow.Author.Tests.{tests}
use lib.ListN.{get_or}
use Rattle.std.proofs.lemmas.Iterator.{YieldsList-from_range, YieldsList-from_map, serves_from_Range}
use Rattle.std.proofs.lemmas.Iterator.Consumers.{sum_from_yields_List, fits_from_yields_list}
use Rattle.frame.specs.FrameTable.{rows_of, size}
use Rattle.frame.proofs.FrameTableLaws.{packets-few, body-small}
use Rattle.pouring.specs.Pouring.{row_size}
use Rattle.pouring.proofs.PouringLaws.{row-size-sum, row-size-few}
use Rattle.pouring.proofs.row_size.Goals as goal

pub sum-requires-clause-can : goal.sum-requires-clause-can
sum-requires-clause-can c =
    let few = packets-few c.args.vocoder in
    (tt, serves_from_Range (λ x q h. search rules) (λ x a b. search (rules, body-small)))

pub sum-requires-clause-fits : goal.sum-requires-clause-fits
sum-requires-clause-fits c =
    let h : ℕ → ℕ = λ n. 1 + size (rows_of c.args.vocoder) (get_or c.args.marks.now (10 * n + c.args.k) 0) in
    let few = row-size-few c.args.vocoder c.args.marks.now c.args.k c.args.m in
    fits_from_yields_list c.map.result _
    (YieldsList-from_map _ h (YieldsList-from_range 0 c.args.m c.args.m c.map.ensures.source (omega arith)) c.map.ensures.closure (λ x r q k. search (rules, tests)))
    (rw (row-size-sum (rows_of c.args.vocoder) c.args.marks.now c.args.k c.args.m c.requires.2) (omega (arith, c.requires.1, packets-few c.args.vocoder)))

pub returns : goal.returns
returns c =
    let t = rows_of c.args.vocoder in
    let ms = c.args.marks.now in
    let h : ℕ → ℕ = λ n. 1 + size t (get_or ms (10 * n + c.args.k) 0) in
    let few = row-size-few c.args.vocoder ms c.args.k c.args.m in
    let e : c.sum.result ≡ row_size t ms c.args.k c.args.m =
    sum_from_yields_List c.map.result _ c.sum.ensures.ran
    (YieldsList-from_map _ h (YieldsList-from_range 0 c.args.m c.args.m c.map.ensures.source (omega arith)) c.map.ensures.closure (λ x r q k. search (rules, tests)))
    ∙ row-size-sum t ms c.args.k c.args.m c.requires.2 in
    (e, omega (arith, c.requires.1, packets-few c.args.vocoder))
