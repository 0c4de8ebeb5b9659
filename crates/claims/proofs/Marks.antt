-- The types in a holding that holds a packet are octets. Assumes nothing.
use Prim.Native.Nat.{ℕ, suc, ◌+◌, ◌*◌, ◌/◌, ◌%◌, ◌<◌}
use mathlib.Core.Path.{◌≡◌, refl, ap, subst, ◌∙◌}
use mathlib.Core.List.{List, [], ◌∷◌}
use mathlib.Core.Bool.{Bool, true, false, ◌&&◌}
use native.Mathlib.Omega.{arith}
use lib.Dec.{T, ltb, ltb→lt}
use lib.ListN.{length, drop, get_or, get_or-replicate}
use lib.Seq.{get_or-take, get_or-drop}
use Rattle.octets.specs.Octets.{region}
use Rattle.octets.proofs.Logic.{both_true}
use Rattle.octets.proofs.Below.{all-at}
use Rattle.frame.specs.FrameTable.{known, erasure, erases}
use Rattle.frame.proofs.FrameTableLaws.{erasure-listed}
use Rattle.frame.specs.Shape.{Voice, packets_of}
use Rattle.bundle.specs.Bundles.{not_held, mark_at, may_stand, frame_right, frames_right}
use Rattle.bundle.specs.declared.Bundle.{Bundle}
use Rattle.holding.specs.Group.{held_at, bundle_of, bundle_at}
use Rattle.holding.specs.declared.Holding.{Holding}
use Rattle.entries.proofs.Written.{type-passes}
use Rattle.knowledge.specs.Knowledge.{Box}
use Rattle.knowledge.proofs.JoinLaws.{box-blank, right-held}
use Rattle.claims.specs.Packets.{narrow, AreOctets}

-- a list whose every place is an octet
pub places-octets : (xs : List ℕ) → ((i : ℕ) → i < length xs → get_or xs i 0 < 256) → AreOctets xs
places-octets [] h = tt
places-octets (x ∷ xs) h = (h 0 (omega arith), places-octets xs (λ i k. h (suc i) (omega arith)))

-- the type at place k of packet n
mark-place : (v : Voice) (h : Holding) (n k : ℕ) → k < 10 → mark_at (bundle_at v.shape h n) k ≡ get_or h.marks (10 * n + k) 0
unfolding mark_at bundle_of region
mark-place v h n k i = get_or-take 10 (drop (10 * n) h.marks) k 0 i ∙ get_or-drop (10 * n) h.marks k 0

-- is one of the table, held or not
mark-known : (v : Voice) → T (erases v.table) → (h : Holding) → Box v h → (n k : ℕ) → n < packets_of v.shape → k < 10 → known v.table (mark_at (bundle_at v.shape h n) k) ≡ true
unfolding frames_right frame_right not_held mark_at
mark-known v z h x n k i j = go (held_at h n) refl
  where
    go : (t : Bool) → held_at h n ≡ t → known v.table (mark_at (bundle_at v.shape h n) k) ≡ true
    go true e =
        let p = bundle_at v.shape h n in
        let q = all-at (frame_right v h.numbers.b p) 10 k (right-held v h x n i e).1 j in
        (both_true (known v.table (mark_at p k)) (may_stand h.numbers.b k (mark_at p k)) (both_true (known v.table (mark_at p k) && may_stand h.numbers.b k (mark_at p k)) _ q).0).0
    go false e = ap (λ (p : Bundle). known v.table (get_or p.marks k 0)) (box-blank v h x n i e) ∙ ap (known v.table) (get_or-replicate 10 k erasure 0 j) ∙ (erasure-listed v.table z).0

pub box-marks : (v : Voice) → T (narrow v.table) → T (erases v.table) → (h : Holding) → Box v h → AreOctets h.marks
box-marks v w z h x = places-octets h.marks at
  where
    at : (i : ℕ) → i < length h.marks → get_or h.marks i 0 < 256
    at i l =
        let e : 10 * (i / 10) + i % 10 ≡ i = omega arith in
        let n : i / 10 < packets_of v.shape = omega (arith, x.shaped.long_marks) in
        let k : i % 10 < 10 = omega arith in
        let q = mark-known v z h x (i / 10) (i % 10) n k in
        let s : mark_at (bundle_at v.shape h (i / 10)) (i % 10) < 64 = ltb→lt _ 64 (type-passes (λ t. ltb t 64) v.table _ w q) in
        subst (λ (j : ℕ). get_or h.marks j 0 < 256) e (subst (λ (t : ℕ). t < 256) (mark-place v h (i / 10) (i % 10) k) (omega (arith, s)))
