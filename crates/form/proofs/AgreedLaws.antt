-- Laws of the agreed limits: what their opening says. Assumes nothing.
use Rattle.std.proofs.Common.{Ok, Err}
use Prim.Native.Nat.{◌≤◌}
use mathlib.Core.Path.{◌≡◌, refl}
use mathlib.Core.Bool.{Bool, true, false, cond, ◌&&◌}
use lib.Dec.{leb}
use borrow.Author.Tests.{leb-true}
use Rattle.octets.proofs.Logic.{apart, both_true}
use Rattle.answers.specs.declared.Refusal.{Refusal}
use Rattle.answers.specs.declared.Refusal.TheVariants.{NotApplicable}
use Rattle.form.specs.Agreed.{in_range, opened}
use Rattle.form.specs.declared.Limits.{Limits}

pub opened-agreed : (m a : Limits) → opened m.max_l m.max_b ≡ Ok a → (in_range m ≡ true) × (a ≡ m)
opened-agreed m a e = go (in_range m) refl e
  where
    go : (b : Bool) → in_range m ≡ b → cond b (Ok m) (Err NotApplicable) ≡ Ok a → (in_range m ≡ true) × (a ≡ m)
    go true q x = (q, cc)
    go false q x = apart (cc)

pub opened-refused : (m : Limits) (r : Refusal) → opened m.max_l m.max_b ≡ Err r → (in_range m ≡ false) × (r ≡ NotApplicable)
opened-refused m r e = go (in_range m) refl e
  where
    go : (b : Bool) → in_range m ≡ b → cond b (Ok m) (Err NotApplicable) ≡ Err r → (in_range m ≡ false) × (r ≡ NotApplicable)
    go true q x = apart (cc)
    go false q x = (q, cc)

-- limits in range are within these bounds
pub range-bounds : (m : Limits) → in_range m ≡ true → (m.max_l ≤ 7) × (1 ≤ m.max_b) × (m.max_b ≤ 10)
range-bounds m e =
    let p = both_true (leb m.max_l 7 && leb 1 m.max_b) (leb m.max_b 10) e in
    let q = both_true (leb m.max_l 7) (leb 1 m.max_b) p.0 in
    (leb-true m.max_l 7 q.0, leb-true 1 m.max_b q.1, leb-true m.max_b 10 p.1)
