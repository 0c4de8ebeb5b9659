-- Equal knowledge is equal content. Assumes nothing.
use Prim.Native.Nat.{ℕ, ◌<◌}
use mathlib.Core.Bool.{Bool, true, false}
use mathlib.Core.Path.{◌≡◌, refl, sym, ap, ap₂, ◌∙◌}
use mathlib.Core.List.{[]}
use native.Mathlib.Omega.{arith}
use native.Mathlib.Nat.{sub-zero}
use lib.Dec.{T}
use lib.ListN.{replicate}
use Rattle.frame.specs.FrameTable.{within, erases, erasure}
use Rattle.frame.specs.Shape.{Shape, Voice, packets_of, room_of}
use Rattle.frame.specs.Places.{no_frame}
use Rattle.frame.proofs.PlacesLaws.{upTo-at}
use Rattle.holding.specs.Group.{held_at, bundle_at}
use Rattle.bundle.specs.Bundles.{not_held, frame_of}
use Rattle.bundle.specs.LaidOut.{filled, rooms, laid}
use Rattle.holding.specs.declared.Holding.{Holding}
use Rattle.bundle.specs.declared.Bundle.{Bundle}
use Rattle.joining.proofs.Heads.{SameHead}
use Rattle.knowledge.specs.Knowledge.{Box, Known, told, known_of, frame_known}
use Rattle.knowledge.proofs.Cells.{Cell, cell, packet-sized, cells_ext}
use Rattle.knowledge.proofs.PacketLaws.{erased-frame, right-laid}
use Rattle.knowledge.proofs.JoinLaws.{box-sound, box-blank, right-held}

-- ---- the cell of a packet and what is known of it tell each other
-- a packet is known to be held if it is
pub known-held : (v : Voice) (h : Holding) (n : ℕ) → (known_of v h n).held ≡ held_at h n
unfolding known_of told
known-held v h n = go (held_at h n)
  where
    go : (t : Bool) → (told v h.numbers.b t (bundle_at v.shape h n)).held ≡ t
    go true = refl
    go false = refl

-- what a cell tells
pub known_at : (v : Voice) (h : Holding) (b n : ℕ) (c : Cell) → h.numbers.b ≡ b → cell v.shape h n ≡ c → known_of v h n ≡ told v b c.0 c.1
unfolding known_of cell
known_at v h b n c e q = ap₂ (λ (i : ℕ) (d : Cell). told v i d.0 d.1) e q

pub known-cell : (v : Voice) (a b : Holding) (n : ℕ) → a.numbers.b ≡ b.numbers.b → cell v.shape a n ≡ cell v.shape b n → known_of v a n ≡ known_of v b n
unfolding known_of cell
known-cell v a b n e q = known_at v a b.numbers.b n (cell v.shape b n) e q

-- the cell of a packet of which this is known: its frames laid out
abbrev pub cell_for : Shape → Known → Cell
cell_for u w = (w.held, laid u w.frames)

laid_none : (u : Shape) → laid u [] ≡ not_held u
unfolding laid filled rooms not_held
laid_none u = ap (λ (n : ℕ). record { marks = replicate {A = ℕ} 10 erasure; room = replicate n 0 }) (sub-zero (room_of u))

module _ (v : Voice) (w : T (within v.shape.cell v.table)) (z : T (erases v.table)) where
  pub cell-known : (h : Holding) → Box v h → (n : ℕ) → n < packets_of v.shape → cell v.shape h n ≡ cell_for v.shape (known_of v h n)
  unfolding cell known_of told
  cell-known h x n k = go (held_at h n) refl
    where
      pair : {t u : Bool} {p q : Bundle} → t ≡ u → p ≡ q → ◌≡◌ {A = Cell} (t, p) (u, q)
      pair e f = ap₂ (λ (i : Bool) (j : Bundle). (i, j)) e f

      go : (t : Bool) → held_at h n ≡ t → (held_at h n, bundle_at v.shape h n) ≡ cell_for v.shape (told v h.numbers.b t (bundle_at v.shape h n))
      go true e = pair e (right-laid v w z h.numbers.b (box-sound v h x).few (bundle_at v.shape h n) (packet-sized v.shape h n x.shaped k) (right-held v h x n k e).1)
      go false e = pair e (box-blank v h x n k e ∙ sym (laid_none v.shape))

  pub same-cell : (a b : Holding) → Box v a → Box v b → (n : ℕ) → n < packets_of v.shape → known_of v a n ≡ known_of v b n → cell v.shape a n ≡ cell v.shape b n
  same-cell a b x y n k e = cell-known a x n k ∙ ap (cell_for v.shape) e ∙ sym (cell-known b y n k)

  pub same_known : (a b : Holding) → Box v a → Box v b → SameHead a b → ((n : ℕ) → n < packets_of v.shape → known_of v a n ≡ known_of v b n) → a ≡ b
  same_known a b x y g h = cells_ext v.shape a b x.shaped y.shaped g (λ n k. same-cell a b x y n k (h n k))

  -- frame k of packet n as it is poured: the frame that is known, or an erasure
  pub known-frame : (h : Holding) → Box v h → (n : ℕ) → n < packets_of v.shape → (k : ℕ) → k < h.numbers.b → frame_of v (bundle_at v.shape h n) k ≡ frame_known (known_of v h n) k
  unfolding known_of told
  known-frame h x n i k j = go (held_at h n) refl
    where
      few : k < 10
      few = omega (arith, (box-sound v h x).few)

      go : (t : Bool) → held_at h n ≡ t → frame_of v (bundle_at v.shape h n) k ≡ frame_known (told v h.numbers.b t (bundle_at v.shape h n)) k
      go true e = sym (upTo-at (frame_of v (bundle_at v.shape h n)) h.numbers.b k no_frame j)
      go false e = ap (λ (p : Bundle). frame_of v p k) (box-blank v h x n i e) ∙ erased-frame v z k few
