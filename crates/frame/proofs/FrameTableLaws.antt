-- Laws of any frame table. Assumes nothing.
use Rattle.std.proofs.Common.{Option, Some}
use Prim.Native.Nat.{ℕ, ◌*◌, ◌^◌, ◌%◌, ◌≤◌, ◌<◌, zero-le}
use mathlib.Core.Path.{◌≡◌, refl, sym, ap, subst, ◌∙◌}
use mathlib.Core.List.{[], ◌∷◌}
use mathlib.Core.Bool.{Bool, true, false, cond, ◌&&◌}
use native.Mathlib.Nat.{one-mul, mod-eq_of_lt, lt_of_lt_of_le}
use native.Mathlib.Omega.{arith}
use lib.Dec.{T, leb, eqb, leb→le, eqb→eq}
use lib.Pow.{pow_mono, shl_exact}
use borrow.Author.Tests.{eqb-true}
use Rattle.octets.proofs.Logic.{apart, both_hold, hold-true}
use Rattle.frame.specs.FrameTable.{FrameTable, rows_of, row_of, row_with, is_there, octets_of, known, size, within, erasure, erases}
use Rattle.frame.specs.FrameTable.{single, low_bits}
use Rattle.frame.specs.Shape.{packets_of, shape_of}
use Rattle.frame.specs.declared.Row.{Row}
use Rattle.frame.specs.declared.Vocoder.{Vocoder}
use Rattle.frame.specs.declared.Vocoder.TheVariants.{Evrc}

either : (b : Bool) (x y : Option Row) (m : ℕ) → octets_of x ≤ m → octets_of y ≤ m → octets_of (cond b x y) ≤ m
either true x y m p q = p
either false x y m p q = q

-- no body of a table within a bound is longer than the bound
pub size-within : (m : ℕ) (v : FrameTable) (t : ℕ) → T (within m v) → size v t ≤ m
unfolding row_of
size-within m [] t w = zero-le
size-within m (r ∷ v) t w =
    let h = both_hold (leb r.octets m) (within m v) w in
    either (eqb t r.kind) (Some r) (row_of v t) m (leb→le r.octets m h.0) (size-within m v t h.1)

-- of the table of every vocoder: no body is longer than a cell of its groups
pub rows_fit : (v : Vocoder) → T (within (shape_of v).cell (rows_of v))
unfolding rows_of shape_of
rows_fit Evrc = tt

pub row_fits : (v : Vocoder) (t : ℕ) → size (rows_of v) t ≤ (shape_of v).cell
row_fits v t = size-within (shape_of v).cell (rows_of v) t (rows_fit v)

-- the shape of any, as the code tells it, and its bounds
pub cell-any : (v : Vocoder) → 22 ≡ (shape_of v).cell
unfolding shape_of
cell-any Evrc = refl

pub packets-any : (v : Vocoder) → 8 ≡ packets_of (shape_of v)
unfolding shape_of
packets-any Evrc = refl

pub cell-small : (v : Vocoder) → (shape_of v).cell ≤ 255
cell-small v = omega (arith, cell-any v)

pub body-small : (v : Vocoder) (t : ℕ) → size (rows_of v) t ≤ 255
body-small v t = omega (arith, row_fits v t, cell-small v)

pub packets-few : (v : Vocoder) → packets_of (shape_of v) ≤ 8
packets-few v = omega (arith, packets-any v)

-- so the cells of a holding have room for the bodies of any
pub rows-within : (v : Vocoder) → T (within 22 (rows_of v))
rows-within v = subst (λ (i : ℕ). T (within i (rows_of v))) (sym (cell-any v)) (rows_fit v)

-- what a lookup says of the type
pub found-known : (v : FrameTable) (t : ℕ) (r : Row) → row_of v t ≡ Some r → known v t ≡ true
found-known v t r e = ap is_there e

pub found-size : (v : FrameTable) (t : ℕ) (r : Row) → row_of v t ≡ Some r → size v t ≡ r.octets
found-size v t r e = ap octets_of e

pub found-fits : (v : Vocoder) (t : ℕ) (r : Row) → row_of (rows_of v) t ≡ Some r → r.octets ≤ (shape_of v).cell
found-fits v t r e = rw (found-size (rows_of v) t r e) at (row_fits v t)

pub found-small : (v : Vocoder) (t : ℕ) (r : Row) → row_of (rows_of v) t ≡ Some r → r.octets ≤ 255
found-small v t r e = omega (arith, found-fits v t r e, cell-small v)

-- the lowest bits of an octet
pub all-bits : (x bits : ℕ) → x < 256 → 8 ≤ bits → x ≡ low_bits x bits
all-bits x bits h k = sym (mod-eq_of_lt (lt_of_lt_of_le h (pow_mono k)))

pub unit : (bits : ℕ) → bits < 8 → 1 * 2 ^ bits % 256 ≡ 2 ^ bits
unit bits h = shl_exact 1 bits 8 (omega arith) (omega arith) ∙ one-mul (2 ^ bits)

-- the row that a size finds, of a table whose types stand in one row each
pub size-listed : (v u : FrameTable) (n : ℕ) (r : Row) → T (single v u) → row_with u n ≡ Some r → (known v r.kind ≡ true) × (size v r.kind ≡ n)
unfolding row_with
size-listed v [] n r h e = apart (cc)
size-listed v (x ∷ u) n r h e = go (eqb n x.octets) refl e (size-listed v u n r a.1)
  where
    a : T (known v x.kind && eqb (size v x.kind) x.octets) × T (single v u)
    a = both_hold (known v x.kind && eqb (size v x.kind) x.octets) (single v u) h

    b : T (known v x.kind) × T (eqb (size v x.kind) x.octets)
    b = both_hold (known v x.kind) (eqb (size v x.kind) x.octets) a.0

    go :
        (t : Bool) →
        eqb n x.octets ≡ t →
        cond t (Some x) (row_with u n) ≡ Some r →
        (row_with u n ≡ Some r → (known v r.kind ≡ true) × (size v r.kind ≡ n)) →
        (known v r.kind ≡ true) × (size v r.kind ≡ n)
    go true q y i =
        let z : x ≡ r = cc in
        (rw z at (hold-true (known v x.kind) b.0), rw z at (eqb→eq (size v x.kind) x.octets b.1) ∙ sym (eqb-true n x.octets q ∙ ap (λ (y : Row). y.octets) z))
    go false q y i = i y

-- of the table of every vocoder
pub rows-single : (v : Vocoder) → T (single (rows_of v) (rows_of v))
unfolding rows_of row_of
rows-single Evrc = tt

pub rows-erases : (v : Vocoder) → T (erases (rows_of v))
unfolding rows_of row_of
rows-erases Evrc = tt

pub erasure-listed : (v : FrameTable) → T (erases v) → (known v erasure ≡ true) × (size v erasure ≡ 0)
erasure-listed v h =
    let p = both_hold (known v erasure) (eqb (size v erasure) 0) h in
    (hold-true (known v erasure) p.0, eqb→eq (size v erasure) 0 p.1)
