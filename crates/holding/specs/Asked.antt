-- What a host of two boxes asks of holdings (document 01, "Groups" and "Session"), over any shape and frame table.
use Rattle.std.specs.Prelude.{ℕ, ◌+◌, ◌*◌, Bool, cond, ◌&&◌, List, [], ◌∷◌, eqb, Result, Ok, Err}
use Rattle.answers.specs.declared.Refusal.{Refusal}
use Rattle.answers.specs.declared.Refusal.TheVariants.{AnotherSource, NotApplicable}
use Rattle.frame.specs.Shape.{Voice}
use Rattle.numbers.specs.Place.{after_poured}
use Rattle.numbers.specs.declared.Verdict.{Verdict}
use Rattle.numbers.specs.declared.Verdict.TheVariants as verdict
use Rattle.numbers.specs.declared.GroupNumbers.{GroupNumbers}
use Rattle.holding.specs.Group.{holds}
use Rattle.holding.specs.declared.Holding.{Holding}
use Rattle.holding.specs.declared.Described.{Described}

-- a number with one bit more, the lowest: 1 if a flag is set
unfoldable pub with_bit : Bool → ℕ → ℕ
with_bit b n = cond b 1 0 + 2 * n

-- flags as a number: bit N is 1 if flag N is set
unfoldable pub bits_of : List Bool → ℕ
bits_of [] = 0
bits_of (b ∷ bs) = with_bit b (bits_of bs)

-- what a holding is
abbrev pub a_group : ℕ → GroupNumbers → ℕ → Result Described Refusal
a_group source g held = Ok (record { source = source; numbers = g; held = held })

-- "source, base sequence number, base timestamp, L, B, which packets are held"; 21 if it holds no packet
unfoldable pub described : Voice → Holding → Result Described Refusal
described v h =
    cond (holds v h) (a_group h.source h.numbers (bits_of h.held)) (Err NotApplicable)

-- "the answer reports .. lost frames before it", or refuses; a group that comes after a poured one does not belong to it
unfoldable pub lost_by : Result Verdict Refusal → Result ℕ Refusal
lost_by (Ok (verdict.Begins n)) = Ok n
lost_by (Ok verdict.Belongs) = Ok 0
lost_by (Err r) = Err r

-- the lost frames between two groups, by the rule of a session that poured the first: 21, "another source" (10), then (02, ii)
-- "order 13, 24, 16"
unfoldable pub lost_between : Voice → Holding → Holding → Result ℕ Refusal
lost_between v before after =
    cond (holds v before && holds v after)
    (cond (eqb after.source before.source) (lost_by (after_poured before.numbers after.numbers)) (Err AnotherSource))
    (Err NotApplicable)
