-- The frames of a payload, laid out as a packet. Assumes nothing.
use Rattle.std.proofs.Common.{Some, None}
use Prim.Native.Nat.{ℕ, ◌+◌, ◌*◌, ◌≤◌}
use mathlib.Core.Path.{◌≡◌, refl, sym, ap, ap₂, ◌∙◌}
use mathlib.Core.List.{List, [], ◌∷◌, map}
use native.Mathlib.Nat.{mul-zero, le_refl}
use native.Mathlib.Omega.{arith}
use lib.ListN.{length, take, drop, set, replicate, length-drop, length-replicate}
use lib.Seq.{take_all}
use lib.Dec.{T}
use Rattle.octets.specs.Octets.{over}
use Rattle.octets.proofs.Logic.{apart}
use Rattle.octets.proofs.OctetsLaws.{over-whole}
use Rattle.frame.specs.FrameTable.{FrameTable, Frame, row_of_size, within, single, erasure}
use Rattle.frame.specs.declared.Row.{Row}
use Rattle.frame.specs.Entry.{type_of}
use Rattle.frame.specs.Places.{taken}
use Rattle.frame.specs.Shape.{Shape, room_of}
use Rattle.form.specs.declared.Limits.{Limits}
use Rattle.form.specs.declared.Form.TheVariants.{HeaderFree, Interleaved}
use Rattle.bundle.specs.declared.Bundle.{Bundle}
use Rattle.bundle.specs.Bundles.{bundle_in, not_held}
use Rattle.bundle.specs.LaidOut.{laid}
use Rattle.bundle.proofs.LaidOutLaws.{Short, listed-short, LaidFirst, laid_none, laid_more, laid-all}
use Rattle.payload.specs.Payload.{Reading, packet, refused_payload, total, cut, one_body, read_as}
use Rattle.payload.specs.Shown.{contents_of, frames_read, holds_packet}
use Rattle.answers.proofs.Exits.{same_ok}
use Rattle.payload.specs.declared.Contents.{Contents}
use Rattle.payload.proofs.Laying.{framesAlong, framed, filled, cut-taken}
use Rattle.payload.proofs.Checks.{length_cut}
use Rattle.payload.proofs.Readings.{read_is}

-- erasures and zeros: no frame of these is laid out yet
pub none-laid : (u : Shape) (ms rs : List ℕ) → bundle_in ms rs ≡ not_held u → (fs : List Frame) → (length ms ≡ 10) × (length rs ≡ room_of u) × LaidFirst u fs 0 ms rs
unfolding not_held
none-laid u ms rs e fs =
    let m : ms ≡ (not_held u).marks = ap (λ (p : Bundle). p.marks) e in
    let r : rs ≡ (not_held u).room = ap (λ (p : Bundle). p.room) e in
    (ap length m ∙ length-replicate {A = ℕ} 10 erasure, ap length r ∙ length-replicate {A = ℕ} (room_of u) 0, rw (m, r) (laid_none u fs))

-- ten marks and a packet's cells, whatever was there, filled with them
pub cleared : (u : Shape) (ms₀ rs₀ ms rs : List ℕ) → length ms₀ ≡ 10 → length rs₀ ≡ room_of u
    → ms ≡ over ms₀ 0 (replicate 10 erasure) → rs ≡ over rs₀ 0 (replicate (room_of u) 0) → bundle_in ms rs ≡ not_held u
unfolding not_held
cleared u ms₀ rs₀ ms rs a b e f =
    let m = e ∙ over-whole ms₀ (replicate 10 erasure) (a ∙ sym (length-replicate {A = ℕ} 10 erasure)) in
    let r = f ∙ over-whole rs₀ (replicate (room_of u) 0) (b ∙ sym (length-replicate {A = ℕ} (room_of u) 0)) in
    rw (m, r)

pub laid-empty : (u : Shape) (fs : List Frame) → length fs ≡ 0 → not_held u ≡ laid u fs
laid-empty u fs e = laid-all u fs 0 (not_held u).marks (not_held u).room (omega arith) (laid_none u fs)

-- how many frames were read
pub packet-many : (w : Reading) (l n b d : ℕ) → holds_packet l n b d ≡ contents_of w → b ≡ length (frames_read w)
unfolding contents_of frames_read
packet-many (packet l' n' d' fs) l n b d e = ap (λ (c : Contents). c.b) (same_ok _ _ e)
packet-many (refused_payload r) l n b d e = apart (cc)

-- the frames of a type 1 payload that was read are those along its entries and bodies
pub record ReadAlong (v : FrameTable) (p : List ℕ) (b : ℕ) (fs : List Frame) : Type 0 where
  pub few : b ≤ 10
  pub fits : 1 + b + total v (take b (map type_of (drop 1 p))) ≤ length p
  pub frames : framesAlong v p b ≡ fs

pub read-along : (v : FrameTable) → T (single v v) → (m : Limits) (p : List ℕ) (b : ℕ) → b ≡ length (frames_read (read_as v (Interleaved m) p)) → (b ≡ 0 → ⊥)
    → ReadAlong v p b (frames_read (read_as v (Interleaved m) p))
unfolding frames_read
read-along v one m p b e z = go (read_as v (Interleaved m) p) refl e
  where
    go : (w : Reading) → read_as v (Interleaved m) p ≡ w → b ≡ length (frames_read w) → ReadAlong v p b (frames_read w)
    go (refused_payload r) q h = absurd (z h)
    go (packet l n d fs) q h =
        let o = framed v m p l n d fs q in
        let x = filled v m p l n d fs o in
        let c : length o.ts ≡ b = sym x.many ∙ sym h in
        let t : o.ts ≡ take b (map type_of (drop 1 p)) = x.types ∙ ap (λ (i : ℕ). take i (map type_of (drop 1 p))) c in
        record {
          few = omega (arith, (read_is v one (Interleaved m) p l n d fs q).few);
          fits = omega (arith, x.fills, ap (total v) t, c);
          frames = sym (x.frames ∙ ap₂ (λ (q : List ℕ) (i : ℕ). cut v q (drop (1 + i) p)) t c);
        }

-- and their bodies take what octet 0 and the entries leave of it
pub read-fills : (v : FrameTable) (m : Limits) (p : List ℕ) (l n d : ℕ) (fs : List Frame) → read_as v (Interleaved m) p ≡ packet l n d fs → 1 + length fs + taken 0 fs ≡ length p
read-fills v m p l n d fs e =
    let o = framed v m p l n d fs e in
    let x = filled v m p l n d fs o in
    let bs = drop (1 + length o.ts) p in
    let c = cut-taken v o.ts bs (length o.ts) (omega (arith, x.fills, length-drop (1 + length o.ts) p)) in
    let f = ap (taken 0) (sym (take_all (length o.ts) (cut v o.ts bs) (omega (arith, length_cut v o.ts bs)))) in
    let t = ap (total v) (take_all (length o.ts) o.ts (le_refl _)) in
    omega (arith, x.fills, x.many, ap (taken 0) x.frames, c, f, t)

-- ---- the one frame of a header-free payload, if it has one
module _ (v : FrameTable) (u : Shape) (p ms rs : List ℕ) (e : bundle_in ms rs ≡ not_held u) where
  pub free-none : row_of_size v (length p) ≡ None → bundle_in ms rs ≡ laid u (frames_read (read_as v HeaderFree p))
  unfolding read_as one_body frames_read
  free-none q = e ∙ rw q (laid-empty u [] refl)

  module _ (one : T (single v v)) (w : T (within u.cell v)) (r : Row) (q : row_of_size v (length p) ≡ Some r) where
    -- it fits a cell
    free-short : Short u.cell (record { type = r.kind; body = p } ∷ [])
    unfolding read_as one_body
    free-short =
        let fs : List Frame = record { type = r.kind; body = p } ∷ [] in
        let e : read_as v HeaderFree p ≡ packet 0 0 0 fs = rw q in
        listed-short u.cell v w fs (read_is v one HeaderFree p 0 0 0 fs e).listed

    pub free-fits : 0 + length p ≤ length rs
    free-fits = omega (arith, free-short.0, (none-laid u ms rs e []).1)

    pub free_one : (rs' : List ℕ) → rs' ≡ over rs 0 p → bundle_in (set ms 0 r.kind) rs' ≡ laid u (frames_read (read_as v HeaderFree p))
    unfolding read_as one_body frames_read
    free_one rs' f =
        let fs : List Frame = record { type = r.kind; body = p } ∷ [] in
        let first = (none-laid u ms rs e fs).2 in
        let g : rs' ≡ over rs (u.cell * 0) p = f ∙ ap (λ (i : ℕ). over rs i p) (sym (mul-zero u.cell)) in
        let more = laid_more u fs (omega arith) free-short 0 (omega arith) ms rs rs' p r.kind first refl refl g in
        laid-all u fs (0 + 1) (set ms 0 r.kind) rs' (omega arith) more ∙ rw q
