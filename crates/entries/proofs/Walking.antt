-- The walk over entries, an entry at a time. Assumes nothing.
use Rattle.std.proofs.Common.{Some, None, Ok}
use Prim.Native.Nat.{ℕ, zero, suc, ◌+◌, ◌-◌, ◌≤◌, ◌<◌}
use mathlib.Core.Path.{◌≡◌, refl, sym, ap, ◌∙◌}
use mathlib.Core.List.{List, [], ◌∷◌}
use mathlib.Core.Bool.{Bool, true, false, cond}
use native.Mathlib.Nat.{add-zero, zero-add, add-sub_cancel_left}
use native.Mathlib.Numerals.{add-one}
use native.Mathlib.Omega.{arith}
use lib.ListN.{length, take, drop, get_or, drop_of_length-le, length-drop}
use lib.Seq.{drop-cons, drop-drop}
use borrow.Author.Tests.{lt-ltb, le-ltb}
use Rattle.octets.proofs.Logic.{apart}
use Rattle.frame.specs.FrameTable.{Frame, row_of}
use Rattle.frame.specs.declared.Row.{Row}
use Rattle.answers.specs.declared.Refusal.TheVariants.{ReservedType, NotSendable, BodyCut}
use Rattle.entries.specs.Kind.{Kind}
use Rattle.entries.specs.Entries.{EntriesRead, frames, refused_entries, put, entries}
use Rattle.entries.specs.Counting.{counted_from, counted_of}

pub from_start : (w : EntriesRead) → counted_from 0 w ≡ counted_of w
unfolding counted_from counted_of
from_start (frames fs) = simp zero-add
from_start (refused_entries fault) = refl

pub from-put : (n : ℕ) (f : Frame) (w : EntriesRead) → counted_from n (put f w) ≡ counted_from (n + 1) w
unfolding counted_from
from-put n f (frames fs) = ap Ok (omega arith)
from-put n f (refused_entries fault) = refl

-- a frame put before others
pub unput : (g : Frame) (fs : List Frame) (w : EntriesRead) → put g w ≡ frames fs → (gs : List Frame) × (fs ≡ g ∷ gs) × (w ≡ frames gs)
unput g fs (frames gs) e = (gs, cc, refl)
unput g fs (refused_entries fault) e = apart (cc)

-- the entries whose first stands at a place, by whether its type is known, its body cut short, and its frame allowed
abbrev pub entry_if : ℕ → Frame → EntriesRead → Bool → Bool → Bool → EntriesRead
entry_if at f w good short fine =
    cond good (cond short (refused_entries (BodyCut at)) (cond fine (put f w) (refused_entries NotSendable))) (refused_entries (ReservedType at))

-- to skip octets is to drop them
pub skips : (kind : Kind) (ok : Frame → Bool) (at n : ℕ) (es : List ℕ) → entries kind ok at n es ≡ entries kind ok (at + n) 0 (drop n es)
unfolding entries
skips kind ok at zero es = rw add-zero
skips kind ok at (suc n) [] = refl
skips kind ok at (suc n) (x ∷ es) = skips kind ok (at + 1) n es ∙ ap (λ (i : ℕ). entries kind ok i 0 (drop n es)) (omega arith)

-- the entries of a list from a place on
abbrev pub entries_at : Kind → (Frame → Bool) → List ℕ → ℕ → EntriesRead
entries_at kind ok p at = entries kind ok at 0 (drop at p)

-- the frame of the entry at a place, its body of n octets as the code takes it
abbrev pub entry_at : Kind → List ℕ → ℕ → ℕ → Frame
entry_at kind p at n = record { type = kind.type_of (get_or p at 0); body = take (at + 1 + n - (at + 1)) (drop (at + 1) p) }

module _ (kind : Kind) (ok : Frame → Bool) (p : List ℕ) (at : ℕ) where
  pub ended : length p ≤ at → entries_at kind ok p at ≡ frames []
  unfolding entries
  ended h = rw (drop_of_length-le p h)

  module _ (h : at < length p) where
    pub not_known : row_of kind.table (kind.type_of (get_or p at 0)) ≡ None → entries_at kind ok p at ≡ refused_entries (ReservedType at)
    unfolding entries
    not_known k = simp (drop-cons p at 0 h, k)

    module _ (r : Row) (k : row_of kind.table (kind.type_of (get_or p at 0)) ≡ Some r) where
      pub body-cut : length p - (at + 1) < r.octets → entries_at kind ok p at ≡ refused_entries (BodyCut at)
      unfolding entries
      body-cut s =
          let a : length (drop (suc at) p) < r.octets = omega (arith, length-drop (suc at) p) in
          simp (drop-cons p at 0 h, k, lt-ltb _ _ a)

      module _ (s : r.octets ≤ length p - (at + 1)) where
        behind : r.octets ≤ length (drop (suc at) p)
        behind = omega (arith, length-drop (suc at) p)

        body_is : take (at + 1 + r.octets - (at + 1)) (drop (at + 1) p) ≡ take r.octets (drop (suc at) p)
        body_is = simp (add-sub_cancel_left, add-one)

        pub not-allowed : ok (entry_at kind p at r.octets) ≡ false → entries_at kind ok p at ≡ refused_entries NotSendable
        unfolding entries
        not-allowed g =
            let g' : ok (record { type = kind.type_of (get_or p at 0); body = take r.octets (drop (suc at) p) }) ≡ false = rw body_is at g in
            simp (drop-cons p at 0 h, k, le-ltb _ _ behind, g')

        pub next : ok (entry_at kind p at r.octets) ≡ true → entries_at kind ok p at ≡ put (entry_at kind p at r.octets) (entries_at kind ok p (at + 1 + r.octets))
        unfolding entries
        next g =
            let g' : ok (record { type = kind.type_of (get_or p at 0); body = take r.octets (drop (suc at) p) }) ≡ true = rw body_is at g in
            let i : entries kind ok (at + 1) r.octets (drop (suc at) p) ≡ entries_at kind ok p (at + 1 + r.octets) =
            skips kind ok (at + 1) r.octets (drop (suc at) p)
            ∙ ap (entries kind ok (at + 1 + r.octets) 0) (drop-drop r.octets (suc at) p ∙ ap (λ (j : ℕ). drop (j + r.octets) p) (sym (add-one at))) in
            rw body_is (simp (drop-cons p at 0 h, k, le-ltb _ _ behind, g') (ap (put _) i))
