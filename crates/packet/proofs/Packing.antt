-- The frames of packet N, their table of contents and their bodies. Assumes nothing.
use Prim.Native.Nat.{ℕ, zero, suc, ◌+◌, ◌*◌, ◌≤◌, ◌<◌}
use mathlib.Core.Path.{◌≡◌, refl, sym, ap, ◌∙◌}
use mathlib.Core.List.{List, [], ◌∷◌, ◌++◌, append_assoc, append-nil}
use mathlib.Core.Logic.{◌⊎◌, inl, inr, ⊎_elim}
use mathlib.Core.Bool.{Bool, true, false}
use native.Mathlib.Nat.{le_of_suc-le-suc, zero-add, add_comm}
use native.Mathlib.Numerals.{add-one}
use native.Mathlib.Omega.{arith}
use lib.ListN.{length, get_or, set, length-append}
use lib.Seq.{paste}
use lib.Dec.{ltb}
use borrow.Author.Tests.{ltb-true, ltb-false}
use Rattle.octets.specs.Octets.{over}
use Rattle.octets.proofs.OctetsLaws.{copy_more, copy-all, set-over, over-append}
use Rattle.frame.specs.FrameTable.{Frame, types_of, Every}
use Rattle.frame.specs.Entry.{type_of}
use Rattle.frame.specs.Places.{frame_at, no_frame, up_to}
use Rattle.frame.proofs.PlacesLaws.{length-upTo, upTo-at, length_types, every-at, every-up_to}
use Rattle.packet.specs.Packet.{place_of, packet_frames, bodies_of, toc_of, packed}
use Rattle.packet.proofs.Numbering.{place_in}

le_split : (i j : ℕ) → i ≤ j → (i < j) ⊎ (i ≡ j)
le_split i j h = go (ltb i j) refl
  where
    go : (b : Bool) → ltb i j ≡ b → (i < j) ⊎ (i ≡ j)
    go true e = inl (ltb-true i j e)
    go false e = let q = ltb-false i j e in inr (omega arith)

pub length-packet : (l n b : ℕ) (fs : List Frame) → length (packet_frames l n b fs) ≡ b
unfolding packet_frames
length-packet l n b fs = length-upTo (λ k. frame_at fs (place_of l n k)) b

-- what each frame of a group is, each of packet N is
pub packet-every : (P : Frame → Type 0) (l n b : ℕ) (fs : List Frame) → Every P fs → n ≤ l → (l + 1) * b ≤ length fs → Every P (packet_frames l n b fs)
unfolding packet_frames
packet-every P l n b fs a h m =
    every-up_to P (λ k. frame_at fs (place_of l n k)) b (λ k q. every-at P fs (place_of l n k) a (omega (arith, place_in l n b k h q)))

-- "Frame k of packet N stands at time place k x (L + 1) + N."
pub packet-at : (l n b : ℕ) (fs : List Frame) (k : ℕ) → k < b → frame_at (packet_frames l n b fs) k ≡ frame_at fs (place_of l n k)
unfolding packet_frames
packet-at l n b fs k h = upTo-at (λ j. frame_at fs (place_of l n j)) b k no_frame h

length-toc : (d : ℕ) (ts : List ℕ) → length (toc_of d ts) ≡ length ts
length-toc d [] = refl
length-toc d (t ∷ ts) = ap suc (length-toc d ts)

-- an entry that another follows, and the last
toc-more : (d : ℕ) (ts : List ℕ) (k : ℕ) → k + 1 < length ts → get_or (toc_of d ts) k 0 ≡ 128 + d * 64 + get_or ts k 0
toc-more d [] k h = absurd (omega arith)
toc-more d (t ∷ []) k h = absurd (omega arith)
toc-more d (t ∷ u ∷ ts) zero h = refl
toc-more d (t ∷ u ∷ ts) (suc k) h = toc-more d (u ∷ ts) k (omega arith)

toc-last : (d : ℕ) (ts : List ℕ) (k : ℕ) → k + 1 ≡ length ts → get_or (toc_of d ts) k 0 ≡ d * 64 + get_or ts k 0
toc-last d [] k h = absurd (omega arith)
toc-last d (t ∷ []) zero h = ap (λ (x : ℕ). x + t) (zero-add (d * 64))
toc-last d (t ∷ []) (suc k) h = absurd (omega arith)
toc-last d (t ∷ u ∷ ts) zero h = absurd (omega arith)
toc-last d (t ∷ u ∷ ts) (suc k) h = toc-last d (u ∷ ts) k (omega arith)

-- bodies, a frame at a time
bodies-append : (xs ys : List Frame) → bodies_of (xs ++ ys) ≡ bodies_of xs ++ bodies_of ys
bodies-append [] ys = refl
bodies-append (f ∷ xs) ys = ap (λ (l : List ℕ). f.body ++ l) (bodies-append xs ys) ∙ sym (append_assoc f.body (bodies_of xs) (bodies_of ys))

pub bodies-next : (l n k : ℕ) (fs : List Frame) → bodies_of (packet_frames l n (k + 1) fs) ≡ bodies_of (packet_frames l n k fs) ++ (frame_at fs (place_of l n k)).body
unfolding packet_frames up_to
bodies-next l n k fs =
    rw (add-one k)
    (bodies-append (packet_frames l n k fs) (frame_at fs (place_of l n k) ∷ [])
    ∙ ap (λ (x : List ℕ). bodies_of (packet_frames l n k fs) ++ x) (append-nil (frame_at fs (place_of l n k)).body))

pub bodies-within : (l n k b : ℕ) (fs : List Frame) → k ≤ b → length (bodies_of (packet_frames l n k fs)) ≤ length (bodies_of (packet_frames l n b fs))
unfolding packet_frames up_to
bodies-within l n k zero fs h = let z : k ≡ 0 = omega arith in rw z (omega arith)
bodies-within l n k (suc b) fs h = ⊎_elim (λ (q : k < suc b). less (bodies-within l n k b fs (le_of_suc-le-suc q))) (λ (q : k ≡ suc b). rw q (omega arith)) (le_split k (suc b) h)
  where
    less : length (bodies_of (packet_frames l n k fs)) ≤ length (bodies_of (packet_frames l n b fs)) → length (bodies_of (packet_frames l n k fs)) ≤ length (bodies_of (packet_frames l n (suc b) fs))
    less i =
        let a = bodies-append (packet_frames l n b fs) (frame_at fs (place_of l n b) ∷ []) in
        let c = length-append (bodies_of (packet_frames l n b fs)) (bodies_of (frame_at fs (place_of l n b) ∷ [])) in
        omega (arith, ap length a)

-- the types of the entries that stand at b places
unfoldable pub types_at : List ℕ → List ℕ → ℕ → List ℕ
types_at es places b = up_to (λ k. type_of (get_or es (get_or places k 0) 0)) b

module _ (es places : List ℕ) (b : ℕ) where
  pub length_at : length (types_at es places b) ≡ b
  unfolding types_at
  length_at = length-upTo _ b

  pub type_at : (k : ℕ) → k < b → get_or (types_at es places b) k 0 ≡ type_of (get_or es (get_or places k 0) 0)
  unfolding types_at
  type_at k q = upTo-at _ b k 0 q

-- their table of contents stored behind octet 0: an entry that another follows, the last, and all
module _ (d : ℕ) (es places : List ℕ) (b : ℕ) (out₀ : List ℕ) (h : 1 + b ≤ length out₀) (k : ℕ) (out : List ℕ) (e : out ≡ paste out₀ 1 (toc_of d (types_at es places b)) k) where
  length-table : length (toc_of d (types_at es places b)) ≡ b
  length-table = length-toc d (types_at es places b) ∙ length_at es places b

  stored : (x : ℕ) → k < b → get_or (toc_of d (types_at es places b)) k 0 ≡ x → set out (k + 1) x ≡ paste out₀ 1 (toc_of d (types_at es places b)) (k + 1)
  stored x q y =
      ap (set out (k + 1)) (sym y) ∙ ap (λ (j : ℕ). set out j (get_or (toc_of d (types_at es places b)) k 0)) (add_comm k 1)
      ∙ copy_more out₀ 1 (toc_of d (types_at es places b)) out k e (omega (arith, length-table)) (omega (arith, length-table))

  pub more-stored : k + 1 < b → set out (k + 1) (128 + d * 64 + type_of (get_or es (get_or places k 0) 0)) ≡ paste out₀ 1 (toc_of d (types_at es places b)) (k + 1)
  more-stored q = stored _ (omega arith) (toc-more d (types_at es places b) k (omega (arith, length_at es places b)) ∙ ap (λ (t : ℕ). 128 + d * 64 + t) (type_at es places b k (omega arith)))

  pub last_stored : k + 1 ≡ b → set out (k + 1) (d * 64 + type_of (get_or es (get_or places k 0) 0)) ≡ paste out₀ 1 (toc_of d (types_at es places b)) (k + 1)
  last_stored q = stored _ (omega arith) (toc-last d (types_at es places b) k (q ∙ sym (length_at es places b)) ∙ ap (λ (t : ℕ). d * 64 + t) (type_at es places b k (omega arith)))

  pub all-stored : k ≡ b → out ≡ over out₀ 1 (toc_of d (types_at es places b))
  all-stored q = copy-all out₀ 1 (toc_of d (types_at es places b)) out k e (omega (arith, length-table)) (omega (arith, length-table))

-- the whole packet: its octets, and how it is written, octet 0, then the table of contents, then the bodies
module _ (l n b d : ℕ) (fs : List Frame) where
  entries : length (toc_of d (types_of (packet_frames l n b fs))) ≡ b
  entries = length-toc d (types_of (packet_frames l n b fs)) ∙ length_types (packet_frames l n b fs) ∙ length-packet l n b fs

  pub length-packed : length (packed l n d (packet_frames l n b fs)) ≡ 1 + b + length (bodies_of (packet_frames l n b fs))
  length-packed = omega (arith, length-append (toc_of d (types_of (packet_frames l n b fs))) (bodies_of (packet_frames l n b fs)), entries)

  pub packed-over :
      (out : List ℕ) →
      0 < length out →
      over (over (set out 0 (l * 8 + n)) 1 (toc_of d (types_of (packet_frames l n b fs)))) (1 + b) (bodies_of (packet_frames l n b fs))
      ≡ over out 0 (packed l n d (packet_frames l n b fs))
  packed-over out h =
      let x = l * 8 + n in
      let t = toc_of d (types_of (packet_frames l n b fs)) in
      let z = bodies_of (packet_frames l n b fs) in
      let a : over (set out 0 x) 1 t ≡ over out 0 (x ∷ t) = ap (λ (o : List ℕ). over o 1 t) (set-over out 0 x h) ∙ over-append out 0 (x ∷ []) t (omega arith) in
      let m : 1 + b ≡ 0 + length (x ∷ t) = omega (arith, entries) in
      ap (λ (o : List ℕ). over o (1 + b) z) a ∙ ap (λ (i : ℕ). over (over out 0 (x ∷ t)) i z) m ∙ over-append out 0 (x ∷ t) z (omega arith)
