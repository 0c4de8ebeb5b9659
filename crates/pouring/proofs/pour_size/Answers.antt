-- `pouring::pour_size` meets its contract.
use Prim.Native.Nat.{ℕ}
use mathlib.Core.Path.{◌≡◌, ◌∙◌}
use native.Mathlib.Omega.{arith}
use borrow.Author.Rules.{rules}
use borrow.Author.Tests.{tests}
use Rattle.std.proofs.lemmas.Iterator.{YieldsList-from_range, YieldsList-from_map}
use Rattle.std.proofs.lemmas.Iterator.Consumers.{sum_from_yields_List, fits_from_yields_list}
use Rattle.frame.specs.FrameTable.{rows_of}
use Rattle.frame.proofs.FrameTableLaws.{packets-few}
use Rattle.pouring.specs.Pouring.{row_size, rows_size}
use Rattle.pouring.proofs.PouringLaws.{rows-size-sum, rows-size-few}
use Rattle.pouring.proofs.pour_size.Goals as goal

pub sum-requires-clause-fits : goal.sum-requires-clause-fits
sum-requires-clause-fits c =
    let h : ℕ → ℕ = λ k. row_size (rows_of c.args.vocoder) c.args.marks.now k c.args.m in
    let few = rows-size-few c.args.vocoder c.args.marks.now c.args.m c.args.b (omega (arith, c.requires.1, packets-few c.args.vocoder)) in
    fits_from_yields_list c.map.result _
    (YieldsList-from_map _ h (YieldsList-from_range 0 c.args.b c.args.b c.map.ensures.source (omega arith)) c.map.ensures.closure (λ x r q k. search (rules, tests)))
    (rw (rows-size-sum (rows_of c.args.vocoder) c.args.marks.now c.args.m c.args.b) (omega (arith, c.requires.2)))

pub returns : goal.returns
returns c =
    let t = rows_of c.args.vocoder in
    let ms = c.args.marks.now in
    let few = rows-size-few c.args.vocoder ms c.args.m c.args.b (omega (arith, c.requires.1, packets-few c.args.vocoder)) in
    let h : ℕ → ℕ = λ k. row_size t ms k c.args.m in
    let e : c.sum.result ≡ rows_size t ms c.args.m c.args.b =
    sum_from_yields_List c.map.result _ c.sum.ensures.ran
    (YieldsList-from_map _ h (YieldsList-from_range 0 c.args.b c.args.b c.map.ensures.source (omega arith)) c.map.ensures.closure (λ x r q k. search (rules, tests)))
    ∙ rows-size-sum t ms c.args.m c.args.b in
    (e, omega (arith, c.requires.2))
