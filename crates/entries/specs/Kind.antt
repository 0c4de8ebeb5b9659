-- Document 01, "Recordings": what a recording's kind settles. Its vocoder is its kind, as yet.
use Rattle.std.specs.Prelude.{ℕ, List, [], ◌∷◌, Bool, true, ◌&&◌, eqb}
use Rattle.frame.specs.FrameTable.{FrameTable, rows_of, known, size}
use Rattle.frame.specs.FrameTable as frame
use Rattle.frame.specs.Entry as entry
use Rattle.frame.specs.declared.Vocoder.{Vocoder}

-- "the opening octets .., then entries: one octet, then the body": the table of the bodies, the opening octets, how an entry octet gives
-- its type, and the octet of an erasure
pub record Kind : Type 0 where
  pub table : FrameTable
  pub opening : List ℕ
  pub type_of : ℕ → ℕ
  pub erasure : ℕ

-- "the opening octets 23 21 45 56 52 43 0A ("#!EVRC" and a newline)"
abbrev pub evrc_opening : List ℕ
evrc_opening = 0x23 ∷ 0x21 ∷ 0x45 ∷ 0x56 ∷ 0x52 ∷ 0x43 ∷ 0x0A ∷ []

-- the opening octets of the recordings of a vocoder: those of EVRC, as yet of each
abbrev pub opening_of : Vocoder → List ℕ
opening_of vocoder = evrc_opening

-- the recordings of a vocoder: its table and opening; "F and D of an entry are ignored"; the erasure 0E
abbrev pub kind_of : Vocoder → Kind
kind_of vocoder = record { table = rows_of vocoder; opening = opening_of vocoder; type_of = entry.type_of; erasure = frame.erasure }

-- every type of a table passes a test
abbrev pub every_type : (ℕ → Bool) → FrameTable → Bool
every_type test [] = true
every_type test (r ∷ v) = test r.kind && every_type test v

-- the test of a kind that each type of its table, as an entry octet with F and D "0 when written", gives itself
abbrev pub keeps_types : Kind → Bool
keeps_types kind = every_type (λ t. eqb (kind.type_of t) t) kind.table

-- the test of a kind that its erasure is in its table, and has no body
abbrev pub lists_erasure : Kind → Bool
lists_erasure kind = known kind.table kind.erasure && eqb (size kind.table kind.erasure) 0
