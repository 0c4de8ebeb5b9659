-- Document 01, "Groups": the base numbers of a packet's group.
use Rattle.std.specs.Prelude.{ℕ, ◌+◌, ◌-◌, ◌*◌, ◌%◌, ◌^◌, Bool, ◌&&◌, eqb}
use Rattle.numbers.specs.declared.GroupNumbers.{GroupNumbers}

-- a - b, counted modulo 2 ^ w
abbrev pub minus : ℕ → ℕ → ℕ → ℕ
minus w a b = (a + (2 ^ w - b % 2 ^ w)) % 2 ^ w

-- "the base sequence number is sequence - N, counted modulo 65,536"
abbrev pub base_sequence : ℕ → ℕ → ℕ
base_sequence s n = minus 16 s n

-- "the base timestamp is timestamp - 160 x N, counted modulo 4,294,967,296"
abbrev pub base_timestamp : ℕ → ℕ → ℕ
base_timestamp t n = minus 32 t (160 * n)

-- "base sequence number, base timestamp, L, B" are the same
abbrev pub same_numbers : GroupNumbers → GroupNumbers → Bool
same_numbers g k = eqb g.sequence k.sequence && (eqb g.timestamp k.timestamp && (eqb g.l k.l && eqb g.b k.b))
