-- `payload::first_cut` meets its contract. Assumes nothing.
use Prim.Native.Nat.{ℕ, ◌-◌, ◌≤◌, ◌<◌}
use native.Mathlib.Omega.{arith}
use borrow.Author.Rules.{rules}
use borrow.Author.Tests.{tests}
use lib.ListN.{length, take, drop}
use Rattle.std.proofs.lemmas.Iterator.{YieldsList-from_slice, IsFirst-from_position}
use Rattle.payload.proofs.Cutting.{Last, last-found, last-here}
use Rattle.payload.proofs.first_cut.Goals as goal

pub overflow_add-result-2 : goal.overflow_add-result-2
overflow_add-result-2 c =
    let left : ℕ = length c.args.payload.now - 1 - c.args.count in
    let f : Last c.args.sums.now c.args.count left c.unwrap_or-j.result =
    last-found _ _ left c.requires.0 c.requires.2 c.requires.3 _
    (IsFirst-from_position _ _ c.position.result (λ (s : ℕ). left < s) (λ (s : ℕ). s ≤ left) c.position.ensures.ran
    (YieldsList-from_slice (take (c.args.count - 1) (drop 1 c.args.sums.now)) cc) (λ x q k. search (rules, tests)) (λ x q k. search (rules, tests)))
    _ c.unwrap_or-j.ensures in
    omega (arith, f.fits)

pub returns : goal.returns
returns c =
    let left : ℕ = length c.args.payload.now - 1 - c.args.count in
    let f : Last c.args.sums.now c.args.count left c.unwrap_or-j.result =
    last-found _ _ left c.requires.0 c.requires.2 c.requires.3 _
    (IsFirst-from_position _ _ c.position.result (λ (s : ℕ). left < s) (λ (s : ℕ). s ≤ left) c.position.ensures.ran
    (YieldsList-from_slice (take (c.args.count - 1) (drop 1 c.args.sums.now)) cc) (λ x q k. search (rules, tests)) (λ x q k. search (rules, tests)))
    _ c.unwrap_or-j.ensures in
    λ v h k. last-here v c.args.payload.now c.args.sums.now c.args.count c.unwrap_or-j.result h c.requires.1 f k
