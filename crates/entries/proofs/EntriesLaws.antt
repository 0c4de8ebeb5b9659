-- Entries that were read: what stands where. Assumes nothing.
use Rattle.std.proofs.Common.{Option, Some, None}
use Prim.Native.Nat.{ℕ, zero, suc, ◌+◌, ◌-◌, ◌≤◌, ◌<◌}
use mathlib.Core.Path.{◌≡◌, refl, sym, ap, ◌∙◌}
use mathlib.Core.List.{List, [], ◌∷◌}
use mathlib.Core.Bool.{Bool, true, false}
use native.Mathlib.Nat.{add-zero, le_of_suc-le-suc, add-sub_cancel_left}
use native.Mathlib.Omega.{arith}
use lib.Dec.{ltb}
use lib.ListN.{length, take, drop, get_or, length-drop}
use lib.Seq.{drop-cons, length-take-le}
use borrow.Author.Tests.{ltb-true, ltb-false}
use Rattle.octets.proofs.Logic.{apart}
use Rattle.frame.specs.FrameTable.{Frame, row_of, known, size}
use Rattle.frame.specs.Places.{taken, frame_at, no_frame}
use Rattle.frame.specs.declared.Row.{Row}
use Rattle.frame.proofs.FrameTableLaws.{found-known, found-size}
use Rattle.frame.proofs.PlacesLaws.{Laid}
use Rattle.entries.specs.Kind.{Kind}
use Rattle.entries.specs.Entries.{EntriesRead, frames, refused_entries, frames_in}
use Rattle.entries.proofs.Walking.{unput, entries_at, entry_at, ended, not_known, body-cut, not-allowed, next}

-- what stands at a place where the entries begin with a frame
pub record Entry (kind : Kind) (ok : Frame → Bool) (p : List ℕ) (at : ℕ) (f : Frame) (fs : List Frame) : Type 0 where
  pub here : at < length p
  pub type : f.type ≡ kind.type_of (get_or p at 0)
  pub known : known kind.table (kind.type_of (get_or p at 0)) ≡ true
  pub body : f.body ≡ take (size kind.table (kind.type_of (get_or p at 0))) (drop (at + 1) p)
  pub octets : length f.body ≡ size kind.table (kind.type_of (get_or p at 0))
  pub inside : at + 1 + size kind.table (kind.type_of (get_or p at 0)) ≤ length p
  pub allowed : ok f ≡ true
  pub rest : entries_at kind ok p (at + 1 + size kind.table (kind.type_of (get_or p at 0))) ≡ frames fs

pub entry : (kind : Kind) (ok : Frame → Bool) (p : List ℕ) (at : ℕ) (f : Frame) (fs : List Frame) → entries_at kind ok p at ≡ frames (f ∷ fs) → Entry kind ok p at f fs
entry kind ok p at f fs e = by_place (ltb at (length p)) refl
  where
    by-rule : at < length p → (r : Row) → row_of kind.table (kind.type_of (get_or p at 0)) ≡ Some r → r.octets ≤ length p - (at + 1) →
        (b : Bool) → ok (entry_at kind p at r.octets) ≡ b → Entry kind ok p at f fs
    by-rule h r k s false g = let q = not-allowed kind ok p at h r k s g in apart (cc)
    by-rule h r k s true g =
        let y = unput (entry_at kind p at r.octets) (f ∷ fs) (entries_at kind ok p (at + 1 + r.octets)) (sym (next kind ok p at h r k s g) ∙ e) in
        let is : f ≡ entry_at kind p at r.octets = cc y.1 in
        let behind : entries_at kind ok p (at + 1 + r.octets) ≡ frames fs = y.2 ∙ ap frames (cc y.1) in
        let z = found-size kind.table (kind.type_of (get_or p at 0)) r k in
        let b : f.body ≡ take (size kind.table (kind.type_of (get_or p at 0))) (drop (at + 1) p) =
        ap (λ (x : Frame). x.body) is ∙ ap (λ (i : ℕ). take i (drop (at + 1) p)) (add-sub_cancel_left (at + 1) r.octets ∙ sym z) in
        record {
          here = h;
          type = ap (λ (x : Frame). x.type) is;
          known = found-known kind.table (kind.type_of (get_or p at 0)) r k;
          body = b;
          octets = ap length b ∙ length-take-le (size kind.table (kind.type_of (get_or p at 0))) (drop (at + 1) p) (omega (arith, length-drop (at + 1) p));
          inside = omega arith;
          allowed = ap ok is ∙ g;
          rest = rw z behind;
        }

    by_size : at < length p → (r : Row) → row_of kind.table (kind.type_of (get_or p at 0)) ≡ Some r → (b : Bool) → ltb (length p - (at + 1)) r.octets ≡ b → Entry kind ok p at f fs
    by_size h r k true q = let x = body-cut kind ok p at h r k (ltb-true _ _ q) in apart (cc)
    by_size h r k false q = by-rule h r k (ltb-false _ _ q) (ok (entry_at kind p at r.octets)) refl

    by-type : at < length p → (l : Option Row) → row_of kind.table (kind.type_of (get_or p at 0)) ≡ l → Entry kind ok p at f fs
    by-type h (Some r) k = by_size h r k (ltb (length p - (at + 1)) r.octets) refl
    by-type h None k = let x = not_known kind ok p at h k in apart (cc)

    by_place : (b : Bool) → ltb at (length p) ≡ b → Entry kind ok p at f fs
    by_place true q = by-type (ltb-true _ _ q) (row_of kind.table (kind.type_of (get_or p at 0))) refl
    by_place false q = let x = ended kind ok p at (ltb-false _ _ q) in apart (cc)

-- the frames of entries lie in them
pub entries-laid : (kind : Kind) (ok : Frame → Bool) (p : List ℕ) (head : ℕ) (fs : List Frame) → entries_at kind ok p head ≡ frames fs → Laid p head 1 fs
entries-laid kind ok p head [] e = tt
entries-laid kind ok p head (f ∷ fs) e =
    let x = entry kind ok p head f fs e in (
      rw x.octets (sym x.body),
      omega (arith, x.octets, x.inside),
      rw x.octets (entries-laid kind ok p (head + 1 + size kind.table (kind.type_of (get_or p head 0))) fs x.rest),
    )

-- past the entries of the first i frames stand those of the others
pub walks :
    (kind : Kind) (ok : Frame → Bool) (p : List ℕ) (h : ℕ) (fs : List Frame) (i : ℕ) →
    i ≤ length fs →
    entries_at kind ok p h ≡ frames fs →
    entries_at kind ok p (h + taken 1 (take i fs)) ≡ frames (drop i fs)
walks kind ok p h fs zero q e = rw add-zero e
walks kind ok p h [] (suc i) q e = absurd (omega arith)
walks kind ok p h (f ∷ fs) (suc i) q e =
    let x = entry kind ok p h f fs e in
    let r = walks kind ok p (h + 1 + size kind.table (kind.type_of (get_or p h 0))) fs i (le_of_suc-le-suc q) x.rest in
    let n : h + (1 + length f.body + taken 1 (take i fs)) ≡ h + 1 + size kind.table (kind.type_of (get_or p h 0)) + taken 1 (take i fs) = omega (arith, x.octets) in
    ap (λ (j : ℕ). entries_at kind ok p j) n ∙ r

pub entry_of :
    (kind : Kind) (ok : Frame → Bool) (p : List ℕ) (h : ℕ) (fs : List Frame) (k : ℕ) →
    entries_at kind ok p h ≡ frames fs →
    k < length fs →
    Entry kind ok p (h + taken 1 (take k fs)) (frame_at fs k) (drop (suc k) fs)
entry_of kind ok p h fs k e q =
    entry kind ok p (h + taken 1 (take k fs)) (frame_at fs k) (drop (suc k) fs) (walks kind ok p h fs k (omega arith) e ∙ ap frames (drop-cons fs k no_frame q))

pub taken-suc : (gap : ℕ) (fs : List Frame) (k : ℕ) → k < length fs → taken gap (take (suc k) fs) ≡ taken gap (take k fs) + gap + length (frame_at fs k).body
taken-suc gap [] k h = absurd (omega arith)
taken-suc gap (f ∷ fs) zero h = omega arith
taken-suc gap (f ∷ fs) (suc k) h = let i = taken-suc gap fs k (le_of_suc-le-suc h) in omega arith

pub are-frames : (w : EntriesRead) (k : ℕ) → k < length (frames_in w) → w ≡ frames (frames_in w)
unfolding frames_in
are-frames (frames fs) k h = refl
are-frames (refused_entries f) k h = absurd (omega arith)
