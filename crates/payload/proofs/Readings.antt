-- What is known of a payload that was read as a packet, in either form. Assumes nothing.
use Rattle.std.proofs.Common.{Option, Some, None}
use Prim.Native.Nat.{ℕ, ◌+◌, ◌≤◌, ◌<◌}
use mathlib.Core.Path.{◌≡◌, refl, sym, ap, subst}
use mathlib.Core.List.{List, [], ◌∷◌}
use mathlib.Core.Bool.{Bool, true, false, cond}
use native.Mathlib.Omega.{arith}
use lib.ListN.{length, drop, length-drop}
use lib.Seq.{length-take-le}
use lib.Dec.{T, eqb, leb}
use Rattle.octets.proofs.Logic.{apart}
use Rattle.frame.specs.FrameTable.{FrameTable, Frame, known, size, row_with, row_of_size, single, AllListed}
use Rattle.frame.specs.Entry.{type_of, more}
use Rattle.frame.specs.declared.Row.{Row}
use Rattle.form.specs.declared.Limits.{Limits}
use Rattle.form.specs.declared.Form.{Form}
use Rattle.form.specs.declared.Form.TheVariants.{HeaderFree, Interleaved}
use Rattle.frame.proofs.FrameTableLaws.{size-listed}
use Rattle.payload.specs.Payload.{packet, Toc, contents, fault, put, toc, total, cut, one_body, read_as}
use Rattle.payload.proofs.Tables.{entry_if}
use Rattle.payload.proofs.Laying.{Framed, framed, filled}

-- ---- the types of a table of contents that was read are in the frame table
abbrev TypesKnown : FrameTable → List ℕ → Type 0
TypesKnown v [] = Unit {0}
TypesKnown v (t ∷ ts) = (known v t ≡ true) × TypesKnown v ts

abbrev KnownIn : FrameTable → Toc → Type 0
KnownIn v (contents ts d at rest) = TypesKnown v ts
KnownIn v (fault f) = Unit {0}

put-known : (v : FrameTable) (t : ℕ) (w : Toc) → known v t ≡ true → KnownIn v w → KnownIn v (put t w)
put-known v t (contents ts d at rest) k h = (k, h)
put-known v t (fault f) k h = tt

entry_known :
    (v : FrameTable) (at e : ℕ) (es : List ℕ) (w : Toc) (full good on : Bool) →
    known v (type_of e) ≡ good →
    KnownIn v w →
    KnownIn v (entry_if at e es w full good on)
entry_known v at e es w true good on k h = tt
entry_known v at e es w false false on k h = tt
entry_known v at e es w false true true k h = put-known v (type_of e) w k h
entry_known v at e es w false true false k h = (k, tt)

toc-known : (v : FrameTable) (max count at : ℕ) (es : List ℕ) → KnownIn v (toc v max count at es)
unfolding toc
toc-known v max count at [] = tt
toc-known v max count at (e ∷ es) =
    entry_known v at e es (toc v max (count + 1) (at + 1) es) (leb max count) (known v (type_of e)) (more e) refl (toc-known v max (count + 1) (at + 1) es)

cut-listed : (v : FrameTable) (ts bs : List ℕ) → TypesKnown v ts → total v ts ≤ length bs → AllListed v (cut v ts bs)
cut-listed v [] bs k h = tt
cut-listed v (t ∷ ts) bs k h = (
  record { type_known = k.0; octets = length-take-le (size v t) bs (omega arith) },
  cut-listed v ts (drop (size v t) bs) k.1 (omega (arith, length-drop (size v t) bs)),
)

-- ---- L, N, B and the frames of a packet that was read
pub record IsPacket (v : FrameTable) (l n : ℕ) (fs : List Frame) : Type 0 where
  pub length_small : l ≤ 7
  pub index_in : n ≤ l
  pub some : 0 < length fs
  pub few : length fs ≤ 10
  pub listed : AllListed v fs

interleaved-is : (v : FrameTable) (m : Limits) (p : List ℕ) (l n d : ℕ) (fs : List Frame) → Framed v m p l n d fs → IsPacket v l n fs
interleaved-is v m p l n d fs o =
    let k : TypesKnown v o.ts = subst (KnownIn v) o.toc_is (toc-known v m.max_b 0 1 o.es) in
    let x = filled v m p l n d fs o in
    record {
      length_small = omega (arith, o.l_is);
      index_in = omega (arith, o.l_is, o.n_is, o.index);
      some = omega (arith, x.many, o.whole.some);
      few = x.few;
      listed = subst (AllListed v) (sym o.frames) (cut-listed v o.ts o.rest k (omega (arith, o.full)));
    }

one-is :
    (v : FrameTable) (p : List ℕ) →
    T (single v v) →
    (w : Option Row) →
    row_of_size v (length p) ≡ w →
    (l n d : ℕ) (fs : List Frame) →
    one_body w p ≡ packet l n d fs →
    IsPacket v l n fs
unfolding one_body
one-is v p s None q l n d fs e = apart (cc)
one-is v p s (Some r) q l n d fs e =
    let x = size-listed v v (length p) r s (with_row (eqb (length p) 0) q) in
    let el : 0 ≡ l = cc in
    let en : 0 ≡ n = cc in
    let ef : record { type = r.kind; body = p } ∷ [] ≡ fs = cc in
    let c : 1 ≡ length fs = ap length ef in
    record {
      length_small = omega arith;
      index_in = omega arith;
      some = omega arith;
      few = omega arith;
      listed = subst (AllListed v) ef (record { type_known = x.0; octets = sym x.1 }, tt);
    }
  where
    with_row : (b : Bool) → cond b None (row_with v (length p)) ≡ Some r → row_with v (length p) ≡ Some r
    with_row true h = apart (cc)
    with_row false h = h

pub read_is : (v : FrameTable) → T (single v v) → (f : Form) (p : List ℕ) (l n d : ℕ) (fs : List Frame) → read_as v f p ≡ packet l n d fs → IsPacket v l n fs
unfolding read_as
read_is v s HeaderFree p l n d fs e = one-is v p s (row_of_size v (length p)) refl l n d fs e
read_is v s (Interleaved m) p l n d fs e = interleaved-is v m p l n d fs (framed v m p l n d fs e)
