-- The walk over the table of contents, an entry at a time. Assumes nothing.
use Rattle.std.proofs.Common.{Some, None, Result, Err}
use Prim.Native.Nat.{ℕ, suc, ◌+◌, ◌≤◌, ◌<◌}
use mathlib.Core.Path.{◌≡◌, refl, sym, ap₂}
use mathlib.Core.List.{List}
use native.Mathlib.Nat.{add_assoc, add-zero, zero-add}
use native.Mathlib.Numerals.{add-one}
use native.Mathlib.Omega.{arith}
use lib.ListN.{length, drop, get_or, drop_of_length-le}
use lib.Seq.{drop-cons}
use borrow.Author.Tests.{le-leb, lt-leb}
use Rattle.answers.specs.declared.Refusal.{Refusal}
use Rattle.frame.specs.FrameTable.{FrameTable, row_of, size}
use Rattle.frame.specs.declared.Row.{Row}
use Rattle.answers.specs.declared.Refusal.TheVariants.{TableCut, ReservedType, TooManyFrames}
use Rattle.frame.specs.Entry.{type_of, d_of}
use Rattle.payload.specs.Payload.{Toc, contents, fault, put, toc, total}
use Rattle.payload.specs.Shown.{walked_from, walked, whole_table}
use Rattle.payload.specs.declared.Walked.{Walked}

pub from_start : (v : FrameTable) (w : Toc) → walked_from v 0 0 w ≡ walked v w
unfolding walked_from walked
from_start v (contents ts d at rest) = simp zero-add
from_start v (fault f) = refl

from-put : (v : FrameTable) (c s t : ℕ) (w : Toc) → walked_from v c s (put t w) ≡ walked_from v (c + 1) (s + size v t) w
unfolding walked_from walked
from-put v c s t (contents ts d at rest) =
    ap₂ (λ (a b : ℕ). whole_table a b d) (omega arith) (sym (add_assoc s (size v t) (total v ts)))
from-put v c s t (fault f) = refl

-- what the walk yields from entry c on, where s octets of bodies are counted, by what stands there
module _ (v : FrameTable) (max : ℕ) (p : List ℕ) (c s : ℕ) where
  abbrev pub FromHere : Result Walked Refusal → Type 0
  FromHere e = walked_from v c s (toc v max c (c + 1) (drop (c + 1) p)) ≡ e

  pub at-end : length p ≤ c + 1 → FromHere (Err (TableCut (c + 1)))
  unfolding toc walked_from
  at-end h = rw (drop_of_length-le p h)

  module _ (h : c + 1 < length p) where
    pub past-max : max ≤ c → FromHere (Err (TooManyFrames (c + 1)))
    unfolding toc walked_from
    past-max m = rw (drop-cons p (c + 1) 0 h, le-leb max c m)

    module _ (m : c < max) where
      pub not_known : row_of v (type_of (get_or p (c + 1) 0)) ≡ None → FromHere (Err (ReservedType (c + 1)))
      unfolding toc walked_from
      not_known k = simp (drop-cons p (c + 1) 0 h, lt-leb max c m, k)

      module _ (r : Row) (k : row_of v (type_of (get_or p (c + 1) 0)) ≡ Some r) where
        pub last : get_or p (c + 1) 0 < 128 → FromHere (whole_table (c + 1) (s + r.octets) (d_of (get_or p (c + 1) 0)))
        unfolding toc walked_from
        last f = simp (drop-cons p (c + 1) 0 h, lt-leb max c m, k, lt-leb 128 _ f, add-zero)

        pub next : 128 ≤ get_or p (c + 1) 0 → FromHere (walked_from v (c + 1) (s + r.octets) (toc v max (c + 1) (c + 1 + 1) (drop (c + 1 + 1) p)))
        unfolding toc walked_from
        next f =
            let i = from-put v c s (type_of (get_or p (c + 1) 0)) (toc v max (c + 1) (suc (c + 1)) (drop (suc (c + 1)) p)) in
            simp (drop-cons p (c + 1) 0 h, lt-leb max c m, k, le-leb 128 _ f, add-one (c + 1)) (simp k at i)
