-- `octets::same` meets its contract.
use Rattle.std.proofs.Common.{◌≡◌, ℕ, Bool, true, ◌&&◌, eqb, sym, refl, rules, ne_eqb, ◌∙◌}
use Rattle.std.specs.List.{fold}
use Rattle.std.proofs.lemmas.Fn.{fold_over, fronts}
use Rattle.std.proofs.lemmas.Iterator.{YieldsList-from_slice, YieldsList-from_zip, zips}
use Rattle.std.proofs.lemmas.List.Sums.{fold-append}
use Rattle.octets.proofs.OctetsLaws.{same-long, same-folded}
use Rattle.octets.proofs.same.Goals as goal

pub returns-then-a-b : goal.returns-then-a-b
returns-then-a-b c =
    let both : Bool → ℕ × ℕ → Bool = λ t p. t && eqb p.0 p.1 in
    let pairs = YieldsList-from_zip {s = c.zip.result} (YieldsList-from_slice c.args.a.now cc) (YieldsList-from_slice c.args.b.now cc) in
    fold_over (zips fronts fronts) (λ p. (p.0.now, p.1.now)) _ (λ ps t. t ≡ fold both true ps) _ (λ ps t p u f k q. rw (fold-append, sym k) (search rules))
    c.zip.result _ true _ pairs.runs refl c.fold.ensures.ran
    ∙ same-folded _ _ true c.if-a-b.true

pub returns-else-a-b : goal.returns-else-a-b
returns-else-a-b c = ne_eqb _ _ c.if-a-b.false ∙ sym (same-long _ _ c.if-a-b.false)
