-- Laws of a holding that the functions' proofs cite. Assumes nothing.
use Prim.Native.Nat.{ℕ, ◌+◌, ◌*◌, ◌≤◌, ◌<◌}
use mathlib.Core.Bool.{Bool, true, false, ◌&&◌, not}
use mathlib.Core.Path.{◌≡◌, refl, sym, ap, ◌∙◌}
use mathlib.Core.List.{List}
use native.Mathlib.Omega.{arith}
use native.Mathlib.Nat.{mul-le-mul_left}
use lib.ListN.{replicate}
use lib.Dec.{eqb, leb}
use borrow.Author.Tests.{ne_eqb, le-leb, leb-true}
use Rattle.octets.specs.Octets.{all_zero, any_set, same_octets, all_below}
use Rattle.octets.proofs.Logic.{both_true, both_false}
use Rattle.octets.proofs.OctetsLaws.{same_refl, same_true, zero-list, none-set}
use Rattle.frame.specs.FrameTable.{erasure}
use Rattle.frame.specs.Shape.{holding_shape, Shape, Voice, packets_of, room_of, shape_of}
use Rattle.bundle.specs.Bundles.{bundle_in, not_held, same_bundles}
use Rattle.bundle.specs.declared.Bundle.{Bundle}
use Rattle.octets.proofs.Regions.{region-fits, cut-is, cut_at}
use Rattle.frame.proofs.FrameTableLaws.{cell-small, packets-few}
use Rattle.frame.specs.declared.Vocoder.{Vocoder}
use Rattle.numbers.specs.Bases.{same_numbers}
use Rattle.holding.specs.Group.{no_numbers, begun, nothing, bare, is_nothing, bundle_of, packet_right, right_at, sound, holds}
use Rattle.holding.specs.declared.Holding.{Holding}

-- packet n's cells lie in the room of a vocoder's groups, which is not large
pub packet-in :
    (v : Vocoder) (c n r : ℕ) → c ≡ (shape_of v).cell → n < packets_of (shape_of v) → r ≡ room_of (shape_of v) * packets_of (shape_of v) →
    (c * 10 * n + c * 10 ≤ r) × (r ≤ 20400)
packet-in v c n r e h l =
    let p = packets_of (shape_of v) in
    let a : c * 10 * n + c * 10 ≤ c * 10 * p = region-fits (c * 10) n p h in
    let b : c * 10 * p ≡ r = ap (λ (i : ℕ). i * 10 * p) e ∙ sym l in
    let m : c * 10 * p ≤ c * 10 * 8 = mul-le-mul_left (c * 10) (packets-few v) in
    (omega arith, omega (arith, cell-small v))

-- packet n, as the code cuts it
pub packet-cut : (v : Shape) (ms rs : List ℕ) (n : ℕ) → bundle_in (cut_at ms 10 n) (cut_at rs (room_of v) n) ≡ bundle_of v ms rs n
unfolding bundle_of
packet-cut v ms rs n = rw (cut-is ms 10 n, cut-is rs (room_of v) n)

-- the same of the packets of a holding, for a search where the code cuts one out itself
pub cut_out : (ms rs : List ℕ) (n : ℕ) → bundle_of holding_shape ms rs n ≡ bundle_in (cut_at ms 10 n) (cut_at rs 220 n)
cut_out ms rs n = sym (packet-cut holding_shape ms rs n)

-- ---- a packet keeps the rule

module _ (v : Voice) (l b n : ℕ) (held : Bool) (p : Bundle) where
  pub packet-lost : held ≡ false → same_bundles p (not_held v.shape) ≡ packet_right v l b n held p
  unfolding packet_right
  packet-lost e = simp e

-- what a holding that keeps the rule has
pub record Sound (v : Voice) (h : Holding) : Type 0 where
  pub low : h.numbers.l ≤ v.shape.greatest
  pub some : 1 ≤ h.numbers.b
  pub few : h.numbers.b ≤ 10
  pub packets : all_below (right_at v h) (packets_of v.shape) ≡ true

pub sound-has : (v : Voice) (h : Holding) → sound v h ≡ true → Sound v h
unfolding sound
sound-has v h e =
    let x = leb h.numbers.l v.shape.greatest in
    let y = leb 1 h.numbers.b in
    let z = leb h.numbers.b 10 in
    let w = all_below (right_at v h) (packets_of v.shape) in
    let p = both_true (x && y && z) w e in
    let q = both_true (x && y) z p.0 in
    let r = both_true x y q.0 in
    record { low = leb-true _ _ r.0; some = leb-true _ _ r.1; few = leb-true _ _ q.1; packets = p.1 }

pub has-sound : (v : Voice) (h : Holding) → Sound v h → sound v h ≡ true
unfolding sound
has-sound v h s = simp (le-leb _ _ s.low, le-leb _ _ s.some, le-leb _ _ s.few, s.packets)

pub holds-sound : (v : Voice) (h : Holding) → holds v h ≡ true → (sound v h ≡ true) × (any_set h.held ≡ true)
unfolding holds
holds-sound v h e = both_true (sound v h) (any_set h.held) e

-- nothing is nothing
pub nothing_is : (v : Shape) → is_nothing v (nothing v) ≡ true
unfolding is_nothing nothing begun bare
nothing_is v =
    rw (none-set (packets_of v), same_refl (replicate (10 * packets_of v) erasure), zero-list (room_of v * packets_of v))

-- and has no frame
pub nothing-has : (u : Shape) (h : Holding) → is_nothing u h ≡ true → (h.marks ≡ (nothing u).marks) × (all_zero h.room ≡ true)
unfolding is_nothing bare
nothing-has u h e =
    let f : bare u h ≡ true = (both_true (same_numbers h.numbers no_numbers) _ (both_true (eqb h.source 0) _ e).1).1 in
    let g = both_true (same_octets h.marks (nothing u).marks) (all_zero h.room) (both_true (not (any_set h.held)) _ f).1 in
    (same_true _ _ g.0, g.1)

pub nothing-held : (v : Voice) (u : Shape) → holds v (nothing u) ≡ false
unfolding holds nothing begun
nothing-held v u = rw (none-set (packets_of u)) (both_false (sound v (nothing u)))

-- a holding that keeps the rule is not that of nothing: its B is not 0
other-bundle : (a c d t f : Bool) → a && ((c && (d && (t && false))) && f) ≡ false
other-bundle a c d t f = rw (both_false t, both_false d, both_false c, both_false a)

pub some-frames : (u : Shape) (h : Holding) → (h.numbers.b ≡ 0 → ⊥) → is_nothing u h ≡ false
unfolding is_nothing
some-frames u h b =
    rw (ne_eqb h.numbers.b 0 b) (other-bundle (eqb h.source 0) (eqb h.numbers.sequence 0) (eqb h.numbers.timestamp 0) (eqb h.numbers.l 0) (bare u h))

pub sound-something : (v : Voice) (h : Holding) → Sound v h → is_nothing v.shape h ≡ false
sound-something v h s = some-frames v.shape h (λ (e : h.numbers.b ≡ 0). absurd (omega (arith, s.some)))

-- and of one with no frame no packet is held
pub no-frame : (v : Voice) (h : Holding) → h.numbers.b ≡ 0 → holds v h ≡ false
no-frame v h z = go (holds v h) refl
  where
    go : (x : Bool) → holds v h ≡ x → x ≡ false
    go false e = refl
    go true e = absurd (omega (arith, (sound-has v h (holds-sound v h e).0).some))
