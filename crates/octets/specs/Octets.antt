-- Lists of octets, as the contracts speak of them. Document 01 has no section on these: they are words for its others.
use Rattle.std.specs.Prelude.{ℕ, zero, suc, ◌+◌, ◌*◌, ◌/◌, ◌%◌, Bool, true, false, ◌&&◌, List, [], ◌∷◌, ◌++◌, length, take, drop, ◌==◌}
use Rattle.std.specs.Prelude.{slice_index}

-- d with s written over it from index `at` on
unfoldable pub over : List ℕ → ℕ → List ℕ → List ℕ
over d at s = take at d ++ s ++ drop (at + length s) d

-- the two lists are equal, as a test
unfoldable pub same_octets : List ℕ → List ℕ → Bool
same_octets [] [] = true
same_octets [] (y ∷ ys) = false
same_octets (x ∷ xs) [] = false
same_octets (x ∷ xs) (y ∷ ys) = x == y && same_octets xs ys

-- every octet is 0, as a test
unfoldable pub all_zero : List ℕ → Bool
all_zero [] = true
all_zero (x ∷ xs) = x == 0 && all_zero xs

-- some flag is set
unfoldable pub any_set : List Bool → Bool
any_set [] = false
any_set (true ∷ ts) = true
any_set (false ∷ ts) = any_set ts

-- an octet with another added, modulo 256
abbrev pub shifted : ℕ → ℕ → ℕ
shifted by x = (x + by) % 256

-- the big-endian number of two octets, and of four, from index `at` on
unfoldable pub two_at : List ℕ → ℕ → ℕ
two_at s at = slice_index s at * 256 + slice_index s (at + 1)

-- the big-endian number of four octets
unfoldable pub four_at : List ℕ → ℕ → ℕ
four_at s at = two_at s at * 65536 + two_at s (at + 2)

-- a number as two octets, and as four
unfoldable pub two_octets : ℕ → List ℕ
two_octets x = x / 256 ∷ x % 256 ∷ []

-- the four octets of a number, big-endian
unfoldable pub four_octets : ℕ → List ℕ
four_octets x = two_octets (x / 65536) ++ two_octets (x % 65536)

-- f holds of every number below n
unfoldable pub all_below : (ℕ → Bool) → ℕ → Bool
all_below f zero = true
all_below f (suc n) = f n && all_below f n

-- the n-th region of s elements
unfoldable pub region : List ℕ → ℕ → ℕ → List ℕ
region xs s n = take s (drop (s * n) xs)
