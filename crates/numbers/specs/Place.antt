-- Document 01, "Session", and document 02, (ii): what numbers alone decide of the place of a packet.
use Rattle.std.specs.Prelude.{ℕ, ◌+◌, ◌*◌, ◌/◌, ◌%◌, Bool, cond, not, ◌||◌, ◌==◌, nat_le, nat_lt, Result, Err, Ok}
use Rattle.answers.specs.declared.Refusal.{Refusal}
use Rattle.answers.specs.declared.Refusal.TheVariants.{ContradictsGroup, LaterGroup, EarlierGroup, TooFarAhead, OffTheClock}
use Rattle.numbers.specs.Bases.{minus}
use Rattle.numbers.specs.declared.GroupNumbers.{GroupNumbers}
use Rattle.numbers.specs.declared.Before.{Before}
use Rattle.numbers.specs.declared.Before.TheVariants.{Nothing, Poured, Held}
use Rattle.numbers.specs.declared.Verdict.{Verdict}
use Rattle.numbers.specs.declared.Verdict.TheVariants.{Begins, Belongs}

-- ---- with a group held

-- "if L, B or base timestamp differ"
unfoldable pub differ : GroupNumbers → GroupNumbers → Bool
differ held new =
    not (new.l == held.l) || (not (new.b == held.b) || not (new.timestamp == held.timestamp))

-- "d = 0: if L, B or base timestamp differ, 11. .. d from 1 to L: 11. d from L + 1 to 32,767: 12. .. d of 32,768 or more: 13."
unfoldable pub at_distance : GroupNumbers → GroupNumbers → ℕ → Result Verdict Refusal
at_distance held new d =
    cond (d == 0) (cond (differ held new) (Err ContradictsGroup) (Ok Belongs))
    (cond (nat_le d held.l) (Err ContradictsGroup)
    (cond (nat_le d 32767) (Err LaterGroup) (Err EarlierGroup)))

-- "d = new base - b modulo 65,536"
abbrev pub distance : GroupNumbers → GroupNumbers → ℕ
distance held new = minus 16 new.sequence held.sequence

-- "Place, with a group held (base b, length L)"
unfoldable pub with_held : GroupNumbers → GroupNumbers → Result Verdict Refusal
with_held held new = at_distance held new (distance held new)

-- ---- with none held

-- "e = new base - (b + L + 1) modulo 65,536"
abbrev pub gap : GroupNumbers → GroupNumbers → ℕ
gap poured new = minus 16 new.sequence (poured.sequence + (poured.l + 1))

-- when a group's frames end: (02, ii) "old base timestamp + 160 x (L + 1) x B"
abbrev pub group_end : GroupNumbers → ℕ
group_end g = g.timestamp + 160 * ((g.l + 1) * g.b)

-- (02, ii) "(new base timestamp - (old base timestamp + 160 x (L + 1) x B)) modulo 4,294,967,296", "with the poured group's numbers"
abbrev pub pause : GroupNumbers → GroupNumbers → ℕ
pause poured new = minus 32 new.timestamp (group_end poured)

-- the most frames that are lost before a group: (02, ii) "3,000 (one minute)"
abbrev pub minute : ℕ
minute = 3000

-- (02, ii) "new 24 if the difference is no multiple of 160"; "16 is given if the quotient is over 3,000 (one minute)"; else "The lost
-- frames before a new group become" the quotient
unfoldable pub after_pause : ℕ → Result Verdict Refusal
after_pause p =
    cond (p % 160 == 0) (cond (nat_lt minute (p / 160)) (Err TooFarAhead) (Ok (Begins (p / 160)))) (Err OffTheClock)

-- "With no group held but one poured before (base b, length L, bundle B)": "e of 32,768 or more, 13"; (02, ii) "13 stays", and the pause
-- decides: "order 13, 24, 16"
unfoldable pub after_poured : GroupNumbers → GroupNumbers → Result Verdict Refusal
after_poured poured new = cond (nat_le 32768 (gap poured new)) (Err EarlierGroup) (after_pause (pause poured new))

-- ---- in each case

-- the place of a packet, by its numbers and those of the group before it: "With none before, it begins a group and reports 0."
unfoldable pub decided : Before → GroupNumbers → Result Verdict Refusal
decided Nothing new = Ok (Begins 0)
decided (Poured poured) new = after_poured poured new
decided (Held held) new = with_held held new
