-- Small facts that every crate's laws use. Assumes nothing.
use Rattle.std.proofs.Common.{◌≡◌, ℕ, Bool, true, false, ◌&&◌, T, refl, arith}

-- two constructors are never equal: `apart (cc)`
pub apart : {A : Type 0} → ◌≡◌ {A = ℕ} 0 1 → A
apart z = absurd (omega arith)

-- both tests of a conjunction are true
pub both_true : (s t : Bool) → s && t ≡ true → (s ≡ true) × (t ≡ true)
both_true true t e = (refl, e)
both_true false t e = apart (cc)

pub both_hold : (s t : Bool) → T (s && t) → T s × T t
both_hold true t h = (tt, h)
both_hold false t h = absurd h

-- one test that is false decides
pub both_false : (t : Bool) → t && false ≡ false
both_false true = refl
both_false false = refl

-- one that is true leaves it to the other
pub both_so : (t : Bool) → t && true ≡ t
both_so true = refl
both_so false = refl

pub hold-true : (t : Bool) → T t → t ≡ true
hold-true true h = refl
hold-true false h = absurd h
