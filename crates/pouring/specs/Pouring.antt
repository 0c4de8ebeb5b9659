-- Document 01, "Session": "Pouring writes all (L + 1) x B places in time order as recording entries", over any shape
-- and frame table.
use Rattle.std.specs.Prelude.{ℕ, zero, suc, ◌+◌, cond, List, [], ◌++◌, get_or}
use Rattle.octets.specs.Octets.{region}
use Rattle.frame.specs.FrameTable.{FrameTable, Frame, size}
use Rattle.frame.specs.Shape.{Voice}
use Rattle.frame.specs.Places.{up_to}
use Rattle.answers.specs.Outputs.{Made, octets, refused_output}
use Rattle.answers.specs.declared.Refusal.TheVariants.{NotApplicable}
use Rattle.entries.specs.Entries.{entries_of}
use Rattle.bundle.specs.Bundles.{frame_of}
use Rattle.holding.specs.Group.{bundle_of, holds}
use Rattle.holding.specs.declared.Holding.{Holding}

-- frame k of the first m packets, of these types and cells: the places from k x (L + 1) on
unfoldable pub row : Voice → List ℕ → List ℕ → ℕ → ℕ → List Frame
row v ms rs k m = up_to (λ n. frame_of v (bundle_of v.shape ms rs n) k) m

-- the first b frames of m packets, in time order
unfoldable pub rows : Voice → List ℕ → List ℕ → ℕ → ℕ → List Frame
rows v ms rs m zero = []
rows v ms rs m (suc b) = rows v ms rs m b ++ row v ms rs b m

-- the type of frame k of packet n
unfoldable pub type_in : List ℕ → ℕ → ℕ → ℕ
type_in ms n k = get_or (region ms 10 n) k 0

-- the octets of their entries, which the types alone tell
unfoldable pub row_size : FrameTable → List ℕ → ℕ → ℕ → ℕ
row_size table ms k zero = 0
row_size table ms k (suc m) = row_size table ms k m + 1 + size table (type_in ms m k)

-- the octets of the first b rows
unfoldable pub rows_size : FrameTable → List ℕ → ℕ → ℕ → ℕ
rows_size table ms m zero = 0
rows_size table ms m (suc b) = rows_size table ms m b + row_size table ms b m

-- all places of a holding
abbrev pub in_time : Voice → Holding → List Frame
in_time v h = rows v h.marks h.room (h.numbers.l + 1) h.numbers.b

-- "21 if it holds no packet", else its places as entries
unfoldable pub poured : Voice → Holding → Made
poured v h = cond (holds v h) (octets (entries_of (in_time v h))) (refused_output NotApplicable)
