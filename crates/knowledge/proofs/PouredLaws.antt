-- The octets that a group pours: one for each place of a group just begun, and a packet that is put in adds its bodies. Assumes nothing.
use Prim.Native.Nat.{ℕ, ◌+◌, ◌*◌, ◌≤◌, ◌<◌}
use mathlib.Core.Bool.{false}
use mathlib.Core.Path.{◌≡◌, refl, sym, ap, ap₂, ◌∙◌}
use mathlib.Core.List.{List}
use native.Mathlib.Omega.{arith}
use lib.ListN.{length, get_or-replicate}
use lib.Dec.{T}
use Rattle.octets.proofs.Below.{all-at}
use Rattle.frame.specs.FrameTable.{Frame, size, within, erasure, erases, AllListed}
use Rattle.frame.specs.Shape.{Voice, packets_of}
use Rattle.frame.specs.Places.{taken, frame_at}
use Rattle.frame.proofs.FrameTableLaws.{erasure-listed}
use Rattle.numbers.specs.declared.GroupNumbers.{GroupNumbers}
use Rattle.entries.specs.Entries.{entries_of}
use Rattle.bundle.specs.Bundles.{not_held, mark_at}
use Rattle.bundle.specs.LaidOut.{laid}
use Rattle.bundle.specs.declared.Bundle.{Bundle}
use Rattle.bundle.proofs.LaidOutLaws.{listed-short}
use Rattle.holding.specs.Group.{begun, held_at, bundle_of, bundle_at, with_packet, right_in, right_at}
use Rattle.holding.specs.declared.Holding.{Holding}
use Rattle.holding.proofs.GroupLaws.{sound-has, holds-sound, packet-lost}
use Rattle.pouring.specs.Pouring.{type_in, rows_size, in_time}
use Rattle.pouring.proofs.PouringLaws.{length-rows}
use Rattle.pouring.proofs.Growing.{sum_below, sum-taken, rows_grow, rows-places}
use Rattle.knowledge.proofs.Cells.{Cell, cell, with-here, with-other}
use Rattle.knowledge.proofs.PacketLaws.{laid-sized, laid-mark, packets-true}
use Rattle.knowledge.proofs.PutLaws.{Keeps, with-head, put-box, begun-keeps, begun-lost}

module _ (v : Voice) (w : T (within v.shape.cell v.table)) (z : T (erases v.table)) where
  -- the types of packet n, by its cell
  type-cell : (h : Holding) (n k : ℕ) (c : Cell) → cell v.shape h n ≡ c → type_in h.marks n k ≡ mark_at c.1 k
  unfolding type_in cell bundle_of mark_at
  type-cell h n k c e = ap (λ (x : Cell). mark_at x.1 k) e

  -- a packet that is not held reads as erasures, which take nothing
  unheld-small : (h : Holding) → Keeps v h → (n k : ℕ) → n < packets_of v.shape → k < 10 → held_at h n ≡ false → size v.table (type_in h.marks n k) ≡ 0
  unfolding right_in held_at type_in bundle_of not_held mark_at
  unheld-small h kh n k p q e =
      let b = bundle_at v.shape h n in
      let r = all-at (right_at v h) (packets_of v.shape) n (sound-has v h kh.rule).packets p in
      let s : b ≡ not_held v.shape = packets-true b (not_held v.shape) (packet-lost v h.numbers.l h.numbers.b n (held_at h n) b e ∙ r) in
      ap (λ (x : Bundle). size v.table (mark_at x k)) s ∙ ap (size v.table) (get_or-replicate 10 k erasure 0 q) ∙ (erasure-listed v.table z).1

  pours-long : (h : Holding) → Keeps v h → length (entries_of (in_time v h)) ≡ rows_size v.table h.marks (h.numbers.l + 1) h.numbers.b
  pours-long h kh =
      let s = sound-has v h kh.rule in
      length-rows v w h.marks h.room kh.shaped.long_room (h.numbers.l + 1) h.numbers.b (omega (arith, s.low)) s.few

  -- a group of which no packet is held yet
  pub begun-pours : (source : ℕ) (g : GroupNumbers) → g.l ≤ v.shape.greatest → 1 ≤ g.b → g.b ≤ 10 → length (entries_of (in_time v (begun v.shape source g))) ≡ g.b * (g.l + 1)
  unfolding begun
  begun-pours source g i j k =
      let h = begun v.shape source g in
      let kh = begun-keeps v source g i j k in
      pours-long h kh
      ∙ rows-places v.table h.marks (g.l + 1) (λ n m p q. unheld-small h kh n m (omega arith) q (begun-lost v source g n (omega arith))) g.b k

  -- a packet put in that was not held
  module _ (h : Holding) (kh : Keeps v h) (n : ℕ) (le : n ≤ h.numbers.l) (fs : List Frame) (many : length fs ≡ h.numbers.b) (a : AllListed v.table fs) where
    pub put-pours : held_at h n ≡ false
        → length (entries_of (in_time v (with_packet v.shape h n (laid v.shape fs)))) ≡ length (entries_of (in_time v h)) + taken 0 fs
    put-pours e =
        let s = sound-has v h kh.rule in
        let few : length fs ≤ 10 = omega (arith, s.few) in
        let below : n < packets_of v.shape = omega (arith, s.low) in
        let short = listed-short v.shape.cell v.table w fs a in
        let p = laid v.shape fs in
        let sized = laid-sized v.shape fs few short in
        let put = with_packet v.shape h n p in
        let x = put-box v w z h kh n le fs many a in
        let hd = with-head v.shape h n p in
        let here : (k : ℕ) → k < length fs → size v.table (type_in put.marks n k) ≡ size v.table (frame_at fs k).type =
        λ k q. ap (size v.table) (type-cell put n k _ (with-here v.shape h n p kh.shaped sized below) ∙ laid-mark v.shape fs few short k q) in
        let other : (j k : ℕ) → (j ≡ n → ⊥) → type_in put.marks j k ≡ type_in h.marks j k =
        λ j k d. type-cell put j k _ (with-other v.shape h n p kh.shaped sized below j d) ∙ sym (type-cell h j k _ refl) in
        let grown =
        rows_grow v.table h.marks put.marks n other (λ k q. unheld-small h kh n k below q e) (h.numbers.l + 1) h.numbers.b (omega arith) s.few in
        let bodies : sum_below (λ k. size v.table (type_in put.marks n k)) h.numbers.b ≡ taken 0 fs =
        ap (sum_below (λ k. size v.table (type_in put.marks n k))) (sym many) ∙ sum-taken v.table fs a (λ k. size v.table (type_in put.marks n k)) here in
        pours-long put (record { shaped = x.shaped; rule = (holds-sound v put x.some).0 })
        ∙ ap₂ (λ (l b : ℕ). rows_size v.table put.marks (l + 1) b) hd.l hd.b
        ∙ grown
        ∙ ap₂ ◌+◌ (sym (pours-long h kh)) bodies
