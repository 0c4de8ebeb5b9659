-- Document 01, "Payloads" and "Recordings": an entry octet is F x 128 + D x 64 + type.
use Rattle.std.specs.Prelude.{ℕ, ◌/◌, ◌%◌, Bool, leb}

-- an entry's type
abbrev pub type_of : ℕ → ℕ
type_of e = e % 64

-- an entry's D
abbrev pub d_of : ℕ → ℕ
d_of e = e / 64 % 2

-- "F = 1 says another entry follows"
abbrev pub more : ℕ → Bool
more e = leb 128 e
