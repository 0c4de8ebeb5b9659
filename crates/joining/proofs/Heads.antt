-- The numbers of a holding: source, base numbers, L and B. Assumes nothing.
use Prim.Native.Nat.{ℕ, zero, suc}
use mathlib.Core.Bool.{Bool, true, false, cond, ◌&&◌}
use mathlib.Core.Path.{◌≡◌, refl, sym, ◌∙◌}
use mathlib.Core.List.{List}
use lib.Dec.{eqb}
use borrow.Author.Tests.{eq-eqb, eqb-true}
use Rattle.octets.proofs.Logic.{both_true}
use Rattle.frame.specs.Shape.{Shape}
use Rattle.holding.specs.Group.{held_at, bundle_at, with_packet}
use Rattle.holding.specs.declared.Holding.{Holding}
use Rattle.joining.specs.Joining.{same_group, take_one, take_below}

-- the numbers of a holding, apart from its packets
pub record SameHead (x y : Holding) : Type 0 where
  pub source : x.source ≡ y.source
  pub sequence : x.numbers.sequence ≡ y.numbers.sequence
  pub timestamp : x.numbers.timestamp ≡ y.numbers.timestamp
  pub l : x.numbers.l ≡ y.numbers.l
  pub b : x.numbers.b ≡ y.numbers.b

pub same-fields : {s s' q q' t t' l l' b b' : ℕ} {h h' : List Bool} {m m' r r' : List ℕ} → s ≡ s' → q ≡ q' → t ≡ t' → l ≡ l' → b ≡ b' → h ≡ h' → m ≡ m' → r ≡ r'
    → ◌≡◌ {A = Holding} (record { source = s; numbers = record { sequence = q; timestamp = t; l = l; b = b }; held = h; marks = m; room = r })
    (record { source = s'; numbers = record { sequence = q'; timestamp = t'; l = l'; b = b' }; held = h'; marks = m'; room = r' })
same-fields p1 p2 p3 p4 p5 p6 p7 p8 = cc

one-head : (v : Shape) (a b : Holding) (n : ℕ) → SameHead (take_one v a b n) a
unfolding take_one with_packet
one-head v a b n = go (held_at b n)
  where
    go : (f : Bool) → SameHead (cond f (with_packet v a n (bundle_at v b n)) a) a
    go true = record { source = refl; sequence = refl; timestamp = refl; l = refl; b = refl }
    go false = record { source = refl; sequence = refl; timestamp = refl; l = refl; b = refl }

pub take_head : (v : Shape) (a b : Holding) (n : ℕ) → SameHead (take_below v a b n) a
unfolding take_below
take_head v a b zero = record { source = refl; sequence = refl; timestamp = refl; l = refl; b = refl }
take_head v a b (suc n) =
    let p = one-head v (take_below v a b n) b n in
    let q = take_head v a b n in
    record {
      source = p.source ∙ q.source;
      sequence = p.sequence ∙ q.sequence;
      timestamp = p.timestamp ∙ q.timestamp;
      l = p.l ∙ q.l;
      b = p.b ∙ q.b;
    }

pub group-head : (a b : Holding) → same_group a b ≡ true → SameHead a b
unfolding same_group
group-head a b e =
    let t1 = eqb a.source b.source in
    let t2 = eqb a.numbers.sequence b.numbers.sequence in
    let t3 = eqb a.numbers.timestamp b.numbers.timestamp in
    let t4 = eqb a.numbers.l b.numbers.l in
    let t5 = eqb a.numbers.b b.numbers.b in
    let p1 = both_true t1 (t2 && (t3 && (t4 && t5))) e in
    let p2 = both_true t2 (t3 && (t4 && t5)) p1.1 in
    let p3 = both_true t3 (t4 && t5) p2.1 in
    let p4 = both_true t4 t5 p3.1 in
    record {
      source = eqb-true _ _ p1.0;
      sequence = eqb-true _ _ p2.0;
      timestamp = eqb-true _ _ p3.0;
      l = eqb-true _ _ p4.0;
      b = eqb-true _ _ p4.1;
    }

pub head-group : (a b : Holding) → SameHead a b → same_group a b ≡ true
unfolding same_group
head-group a b e = rw (eq-eqb _ _ e.source, eq-eqb _ _ e.sequence, eq-eqb _ _ e.timestamp, eq-eqb _ _ e.l, eq-eqb _ _ e.b)

pub head-sym : (a b : Holding) → SameHead a b → SameHead b a
head-sym a b e = record { source = sym e.source; sequence = sym e.sequence; timestamp = sym e.timestamp; l = sym e.l; b = sym e.b }

pub head-trans : (a b c : Holding) → SameHead a b → SameHead b c → SameHead a c
head-trans a b c p q =
    record { source = p.source ∙ q.source; sequence = p.sequence ∙ q.sequence; timestamp = p.timestamp ∙ q.timestamp; l = p.l ∙ q.l; b = p.b ∙ q.b }

pub head-refl : (a : Holding) → SameHead a a
head-refl a = record { source = refl; sequence = refl; timestamp = refl; l = refl; b = refl }
