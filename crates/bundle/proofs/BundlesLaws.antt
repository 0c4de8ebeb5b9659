-- Laws of one packet's frames. Assumes nothing.
use Rattle.std.proofs.Common.{Some, None}
use Prim.Native.Nat.{ℕ, zero, suc, ◌+◌, ◌-◌, ◌*◌, ◌≤◌, ◌<◌}
use mathlib.Core.Bool.{Bool, true, false, ◌&&◌}
use mathlib.Core.Path.{◌≡◌, refl, sym, ap, ◌∙◌}
use mathlib.Core.List.{List, [], ◌∷◌}
use native.Mathlib.Omega.{arith}
use lib.ListN.{length, take, drop, get_or, replicate}
use lib.Seq.{length-take-le}
use lib.Dec.{T, eqb}
use Rattle.octets.specs.Octets.{all_zero, same_octets, region}
use Rattle.octets.proofs.Logic.{both_false}
use Rattle.frame.specs.FrameTable.{row_of, known, size, within, erasure}
use Rattle.frame.specs.Shape.{Shape, Voice, room_of}
use Rattle.frame.specs.declared.Row.{Row}
use Rattle.frame.proofs.FrameTableLaws.{size-within, found-known, found-size}
use Rattle.octets.proofs.Regions.{region-fits, length-region, tail-is}
use Rattle.bundle.specs.Bundles.{bundle_in, not_held, same_bundles, mark_at, frame_of, may_stand, frame_right}
use Rattle.bundle.specs.declared.Bundle.{Bundle}

-- ---- a frame and its cell
pub cell-long : (v : Shape) (p : Bundle) (k : ℕ) → length p.room ≡ room_of v → k < 10 → length (region p.room v.cell k) ≡ v.cell
cell-long v p k e h =
    let f : v.cell * k + v.cell ≤ room_of v = region-fits v.cell k 10 h in
    length-region p.room v.cell k (omega arith)

-- its body is as long as the table says
pub frame-long :
    (v : Voice) → T (within v.shape.cell v.table) → (p : Bundle) (k : ℕ) → length p.room ≡ room_of v.shape → k < 10
    → length (frame_of v p k).body ≡ size v.table (mark_at p k)
unfolding frame_of
frame-long v w p k e h =
    length-take-le (size v.table (mark_at p k)) (region p.room v.shape.cell k)
    (omega (arith, cell-long v.shape p k e h, size-within v.shape.cell v.table (mark_at p k) w))

-- ---- a packet that is not held
zero_same : (rs : List ℕ) (n : ℕ) → length rs ≡ n → all_zero rs ≡ same_octets rs (replicate n 0)
unfolding all_zero same_octets
zero_same [] zero e = refl
zero_same [] (suc n) e = absurd (omega arith)
zero_same (x ∷ rs) zero e = absurd (omega arith)
zero_same (x ∷ rs) (suc n) e = ap (λ (t : Bool). eqb x 0 && t) (zero_same rs n (omega arith))

module _ (v : Shape) (ms rs : List ℕ) where
  pub types-stand : (t : Bool) → t ≡ same_octets ms (replicate 10 erasure) → t ≡ false → false ≡ same_bundles (bundle_in ms rs) (not_held v)
  unfolding same_bundles not_held
  types-stand t e f = simp (sym e ∙ f)

  pub all-erased :
      (t : Bool) → t ≡ same_octets ms (replicate 10 erasure) → t ≡ true → length rs ≡ room_of v → all_zero rs ≡ same_bundles (bundle_in ms rs) (not_held v)
  unfolding same_bundles not_held
  all-erased t e f l = zero_same rs (room_of v) l ∙ sym (simp (sym e ∙ f))

-- ---- a frame keeps the rule

module _ (v : Voice) (b k : ℕ) (ms rs : List ℕ) where
  pub mark-missing : row_of v.table (get_or ms k 0) ≡ None → false ≡ frame_right v b (bundle_in ms rs) k
  unfolding frame_right mark_at
  mark-missing e = simp e

  pub mark-past : may_stand b k (get_or ms k 0) ≡ false → false ≡ frame_right v b (bundle_in ms rs) k
  unfolding frame_right mark_at
  mark-past h = simp (h, both_false (known v.table (get_or ms k 0)))

  pub mark-stands : (r : Row) (t : Bool) (c : ℕ) → c ≡ v.shape.cell → row_of v.table (get_or ms k 0) ≡ Some r → r.octets ≤ v.shape.cell
      → may_stand b k (get_or ms k 0) ≡ true
      → t ≡ all_zero (take (c * k + c - (c * k + r.octets)) (drop (c * k + r.octets) rs)) → t ≡ frame_right v b (bundle_in ms rs) k
  unfolding frame_right mark_at
  mark-stands r t c s e fits g q =
      q ∙ rw (s, tail-is rs v.shape.cell k r.octets fits, found-known v.table _ r e, g, found-size v.table _ r e)
