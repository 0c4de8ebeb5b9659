-- The place of a packet by its numbers, check by check. Assumes nothing.
use Rattle.std.proofs.Common.{◌≡◌, ℕ, ◌*◌, ◌/◌, ◌%◌, ◌<◌, ◌≤◌, Bool, true, false, cond, not, ◌||◌, eqb, ltb, leb, sym, refl, ap, ◌∙◌, arith, ltb-false, le-ltb, Result, Err, Ok}
use Rattle.std.proofs.Common.{eq-eqb, eqb-true}
use borrow.Author.Tests.{lt-leb}
use Rattle.answers.specs.Answers.{number_of}
use Rattle.answers.specs.declared.Refusal.{Refusal}
use Rattle.answers.specs.declared.Refusal.TheVariants.{ContradictsGroup, LaterGroup, EarlierGroup, TooFarAhead, OffTheClock}
use Rattle.numbers.specs.Place.{differ, at_distance, distance, with_held, gap, pause, minute, after_pause, after_poured, decided}
use Rattle.numbers.specs.declared.GroupNumbers.{GroupNumbers}
use Rattle.numbers.specs.declared.Before.{Before}
use Rattle.numbers.specs.declared.Before.TheVariants.{Poured, Held}
use Rattle.numbers.specs.declared.Verdict.{Verdict}
use Rattle.numbers.specs.declared.Verdict.TheVariants.{Begins, Belongs}

-- numbers are the same if each is
pub same_numbers : {q q' t t' l l' b b' : ℕ} → q ≡ q' → t ≡ t' → l ≡ l' → b ≡ b'
    → ◌≡◌ {A = GroupNumbers} (record { sequence = q; timestamp = t; l = l; b = b }) (record { sequence = q'; timestamp = t'; l = l'; b = b' })
same_numbers i j k l = cc

-- ---- the pause, in counts of the clock
pub whole-frames : (p : ℕ) → p % 160 ≡ 0 → p / 160 ≤ minute → Ok (Begins (p / 160)) ≡ after_pause p
unfolding after_pause
whole-frames p z h = simp (eq-eqb _ _ z, le-ltb minute _ h)

-- ---- the distance from the end of the last poured group
module _ (poured new : GroupNumbers) (e : ℕ) (q : e ≡ gap poured new) where
  by-gap : (b : Bool) → leb 32768 e ≡ b → cond b (Err EarlierGroup) (after_pause (pause poured new)) ≡ after_poured poured new
  unfolding after_poured
  by-gap b z = ap (λ (x : Bool). cond x (Err EarlierGroup) (after_pause (pause poured new))) (sym z ∙ ap (leb 32768) q)

  pub by-clock : e < 32768 → (p : ℕ) (w : Result Verdict Refusal) → p ≡ pause poured new → w ≡ after_pause p → w ≡ after_poured poured new
  by-clock h p w i j = j ∙ ap after_pause i ∙ by-gap false (lt-leb 32768 e h)

-- past 13, the clock decides
pub clock-decided : (poured new : GroupNumbers) → gap poured new < 32768 → after_pause (pause poured new) ≡ after_poured poured new
clock-decided poured new h = by-clock poured new (gap poured new) refl h (pause poured new) (after_pause (pause poured new)) refl refl

-- after a pause of k frames so many are lost
pub frames-lost : (poured new : GroupNumbers) → gap poured new < 32768 → (k : ℕ) → k ≤ minute → pause poured new ≡ 160 * k → Ok (Begins k) ≡ after_poured poured new
frames-lost poured new h k few e =
    let p = pause poured new in
    let q : k ≡ p / 160 = omega arith in
    ap (λ (x : ℕ). Ok (Begins x)) q ∙ whole-frames p (omega arith) (omega arith) ∙ clock-decided poured new h

-- ---- in each case
module _ (group : Before) (new : GroupNumbers) where
  pub one-poured : (poured : GroupNumbers) → group ≡ Poured poured → after_poured poured new ≡ decided group new
  unfolding decided
  one-poured poured e = rw e refl

  pub one-held : (held : GroupNumbers) → group ≡ Held held → with_held held new ≡ decided group new
  unfolding decided
  one-held held e = rw e refl

-- ---- how a verdict comes out
pub data HeldEnds (held new : GroupNumbers) (w : Result Verdict Refusal) : Type 0 where
  refused : (r : Refusal) → w ≡ Err r → HeldEnds held new w
  member : new.l ≡ held.l → new.b ≡ held.b → w ≡ (Ok Belongs) → HeldEnds held new w

pub held-ends : (held new : GroupNumbers) → HeldEnds held new (with_held held new)
unfolding with_held at_distance differ
held-ends held new = by-distance (eqb d 0) (leb d held.l) (leb d 32767)
  where
    d : ℕ
    d = distance held new

    by-differing : (l b t : Bool) → eqb new.l held.l ≡ l → eqb new.b held.b ≡ b
        → HeldEnds held new (cond (not l || (not b || not t)) (Err ContradictsGroup) (Ok Belongs))
    by-differing true true true e f = member (eqb-true _ _ e) (eqb-true _ _ f) refl
    by-differing true true false e f = refused ContradictsGroup refl
    by-differing true false t e f = refused ContradictsGroup refl
    by-differing false b t e f = refused ContradictsGroup refl

    by-distance : (x y z : Bool)
        → HeldEnds held new (cond x (cond (differ held new) (Err ContradictsGroup) (Ok Belongs))
        (cond y (Err ContradictsGroup) (cond z (Err LaterGroup) (Err EarlierGroup))))
    by-distance true y z = by-differing (eqb new.l held.l) (eqb new.b held.b) (eqb new.timestamp held.timestamp) refl refl
    by-distance false true z = refused ContradictsGroup refl
    by-distance false false true = refused LaterGroup refl
    by-distance false false false = refused EarlierGroup refl

pub data PouredEnds (poured new : GroupNumbers) (w : Result Verdict Refusal) : Type 0 where
  refused : (r : Refusal) → eqb (number_of r) 12 ≡ false → w ≡ Err r → PouredEnds poured new w
  follows : (lost : ℕ) → lost ≡ pause poured new / 160 → lost ≤ minute → w ≡ Ok (Begins lost) → PouredEnds poured new w

pub poured-ends : (poured new : GroupNumbers) → PouredEnds poured new (after_poured poured new)
unfolding after_poured after_pause
poured-ends poured new = by_tests (leb 32768 (gap poured new)) (eqb (p % 160) 0) (ltb minute (p / 160)) refl
  where
    p : ℕ
    p = pause poured new

    by_tests : (x y z : Bool) → ltb minute (p / 160) ≡ z
        → PouredEnds poured new
        (cond x (Err EarlierGroup) (cond y (cond z (Err TooFarAhead) (Ok (Begins (p / 160)))) (Err OffTheClock)))
    by_tests true y z q = refused EarlierGroup refl refl
    by_tests false false z q = refused OffTheClock refl refl
    by_tests false true true q = refused TooFarAhead refl refl
    by_tests false true false q = follows (p / 160) refl (ltb-false minute (p / 160) q) refl
