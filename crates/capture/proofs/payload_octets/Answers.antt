-- `capture::payload_octets` meets its contract.
use mathlib.Core.Path.{◌≡◌, ◌∙◌}
use native.Mathlib.Omega.{arith}
use borrow.Author.Rules.{rules}
use borrow.Author.Tests.{tests}
use Rattle.std.proofs.lemmas.Iterator.{YieldsList-from_range, YieldsList-from_map}
use Rattle.std.proofs.lemmas.Iterator.Consumers.{sum_from_yields_List, fits_from_yields_list}
use Rattle.capture.specs.Capture.{lengths, length_at}
use Rattle.capture.proofs.CaptureLaws.{lengths-sum, lengths-few}
use Rattle.capture.proofs.payload_octets.Goals as goal

pub sum-requires-clause-fits : goal.sum-requires-clause-fits
sum-requires-clause-fits c =
    fits_from_yields_list c.map.result _
    (YieldsList-from_map _ (length_at c.args.capture.now) (YieldsList-from_range 0 c.args.n c.args.n c.map.ensures.source (omega arith)) c.map.ensures.closure (λ x r q k. search (rules, tests)))
    (rw lengths-sum (omega (arith, lengths-few c.args.capture.now (λ i. omega (arith, c.type_inv.capture i)) c.args.n, c.requires.1)))

pub returns : goal.returns
returns c =
    let e : c.sum.result ≡ lengths c.args.capture.now c.args.n =
    sum_from_yields_List c.map.result _ c.sum.ensures.ran
    (YieldsList-from_map _ (length_at c.args.capture.now) (YieldsList-from_range 0 c.args.n c.args.n c.map.ensures.source (omega arith)) c.map.ensures.closure (λ x r q k. search (rules, tests)))
    ∙ lengths-sum c.args.capture.now c.args.n in
    (e, rw e (lengths-few c.args.capture.now (λ i. omega (arith, c.type_inv.capture i)) c.args.n))
