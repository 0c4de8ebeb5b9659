-- The search for entry k: one turn of it, and where it leads from a place on. Assumes nothing.
use Prim.Native.Nat.{ℕ, suc, ◌+◌, ◌-◌, ◌≤◌, ◌<◌}
use mathlib.Core.Path.{◌≡◌, ap, ◌∙◌}
use mathlib.Core.List.{List}
use native.Mathlib.Numerals.{add-one}
use native.Mathlib.Omega.{arith}
use lib.ListN.{length, take, drop, get_or}
use Rattle.octets.proofs.OctetsLaws.{to_the_end}
use Rattle.frame.specs.FrameTable.{Frame, size}
use Rattle.frame.specs.Places.{taken, frame_at}
use Rattle.entries.specs.Kind.{Kind}
use Rattle.entries.specs.Entries.{allowed, entries_from, entries_in, frames_in}
use Rattle.entries.specs.declared.Rule.TheVariants.{Any}
use Rattle.entries.proofs.Clearing.{read-any}
use Rattle.entries.proofs.EntriesLaws.{Entry, entry_of, walks, taken-suc, are-frames}

-- ---- one turn of the search for entry k
pub record Turn (kind : Kind) (p : List ℕ) (at i : ℕ) (fs : List Frame) : Type 0 where
  pub here : at < length p
  pub inside : at + 1 + size kind.table (kind.type_of (get_or p at 0)) ≤ length p
  pub on : at + 1 + size kind.table (kind.type_of (get_or p at 0)) ≡ taken 1 (take (i + 1) fs)

pub turn :
    (kind : Kind) (p : List ℕ) (at i k : ℕ) →
    at ≡ taken 1 (take i (frames_in (entries_in kind Any p))) →
    i < k →
    k < length (frames_in (entries_in kind Any p)) →
    Turn kind p at i (frames_in (entries_in kind Any p))
turn kind p at i k e q r =
    let fs = frames_in (entries_in kind Any p) in
    let z : 0 + taken 1 (take i fs) ≡ at = omega arith in
    let x : Entry kind (allowed kind.table Any) p at (frame_at fs i) (drop (suc i) fs) =
    rw z at (entry_of kind (allowed kind.table Any) p 0 fs i (are-frames (entries_in kind Any p) k r) (omega arith)) in
    let s : taken 1 (take (i + 1) fs) ≡ taken 1 (take i fs) + 1 + length (frame_at fs i).body = rw (add-one i) (taken-suc 1 fs i (omega arith)) in
    record { here = x.here; inside = x.inside; on = omega (arith, x.octets) }

-- ---- the frames of the entries that stand from a place on
abbrev pub frames_from : Kind → List ℕ → ℕ → List Frame
frames_from kind p at = frames_in (entries_from kind Any at (drop at p))

-- entry k of those sought in the part that begins there, as the code takes it: from its place on the others are read
pub record Sought (kind : Kind) (p : List ℕ) (at k : ℕ) : Type 0 where
  pub inside : at ≤ length p
  pub few : k < length (frames_in (entries_in kind Any (take (length p - at) (drop at p))))
  pub on :
      (r : ℕ) →
      r ≡ taken 1 (take k (frames_in (entries_in kind Any (take (length p - at) (drop at p))))) →
      frames_from kind p (at + r) ≡ drop k (frames_from kind p at)

pub seek-from : (kind : Kind) (p : List ℕ) (at k : ℕ) → k < length (frames_from kind p at) → Sought kind p at k
unfolding frames_in
seek-from kind p at k q =
    let fs = frames_from kind p at in
    let e = are-frames (entries_from kind Any at (drop at p)) k q in
    let g : frames_in (entries_in kind Any (take (length p - at) (drop at p))) ≡ fs = rw to_the_end (ap frames_in (read-any kind Any at (drop at p) fs e)) in
    let x = entry_of kind (allowed kind.table Any) p at fs k e q in
    record {
      inside = omega (arith, x.here);
      few = rw g q;
      on = λ r z.
          ap (λ (j : ℕ). frames_from kind p (at + j)) (z ∙ ap (λ (gs : List Frame). taken 1 (take k gs)) g)
          ∙ ap frames_in (walks kind (allowed kind.table Any) p at fs k (omega arith) e);
    }
