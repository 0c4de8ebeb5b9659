-- Pouring, row by row. Assumes nothing.
use Prim.Native.Nat.{ℕ, zero, suc, ◌+◌, ◌-◌, ◌*◌, ◌≤◌, ◌<◌}
use mathlib.Core.Bool.{true, false}
use mathlib.Core.Path.{◌≡◌, refl, sym, ap, ap₂, subst, ◌∙◌}
use mathlib.Core.List.{List, [], ◌∷◌, ◌++◌, map, append_assoc, append-nil}
use mathlib.Core.Logic.{⊎_elim}
use native.Mathlib.Numerals.{add-one}
use native.Mathlib.Nat.{zero-mul, suc-mul, mul-le-mul_right, zero-add, le_refl, eq-or-lt_of_le, le_of_suc-le-suc}
use native.Mathlib.Omega.{arith}
use lib.ListN.{length, take, drop, get_or, set, length-append, length-take, length-drop, get_or-append}
use lib.Seq.{get_or-append-add, get_or-take, get_or-drop, take-take, drop-drop}
use lib.Dec.{T}
use Rattle.std.specs.List.{sum, range_with_len}
use Rattle.std.proofs.lemmas.List.FromFn.{sum_by-map-range_with_len_more}
use Rattle.octets.specs.Octets.{over, region}
use Rattle.octets.proofs.OctetsLaws.{over-append, over_nothing, set-over, part-is, drop-take}
use Rattle.octets.proofs.Regions.{region-fits, length-region}
use Rattle.frame.specs.FrameTable.{FrameTable, Frame, size, within, rows_of}
use Rattle.frame.specs.Shape.{Voice, packets_of, room_of, shape_of}
use Rattle.frame.specs.declared.Vocoder.{Vocoder}
use Rattle.frame.proofs.FrameTableLaws.{size-within, body-small}
use Rattle.entries.specs.Entries.{entries_of}
use Rattle.frame.specs.Places.{up_to, frame_at, no_frame}
use Rattle.frame.proofs.PlacesLaws.{length-upTo, upTo-at}
use Rattle.answers.specs.Outputs.{octets, refused_output, Writes}
use Rattle.answers.specs.declared.Refusal.{Refusal}
use Rattle.answers.specs.declared.Refusal.TheVariants.{NotApplicable}
use Rattle.std.proofs.Common.{Result}
use Rattle.bundle.specs.Bundles.{mark_at, frame_of}
use Rattle.bundle.proofs.BundlesLaws.{frame-long}
use Rattle.holding.specs.Group.{bundle_of, holds}
use Rattle.holding.proofs.GroupLaws.{packet-in}
use Rattle.holding.specs.declared.Holding.{Holding}
use Rattle.pouring.specs.Pouring.{row, rows, type_in, row_size, rows_size, in_time, poured}

-- ---- entries one after the other
pub entries-append : (fs gs : List Frame) → entries_of (fs ++ gs) ≡ entries_of fs ++ entries_of gs
entries-append [] gs = refl
entries-append (f ∷ fs) gs =
    ap (λ (es : List ℕ). f.type ∷ es) (ap (λ (es : List ℕ). f.body ++ es) (entries-append fs gs) ∙ sym (append_assoc f.body (entries_of fs) (entries_of gs)))

-- ---- where the code finds a frame: its type, and its body, by their places in the arrays
pub type-in : (ms : List ℕ) (n k : ℕ) → k < 10 → get_or ms (10 * n + k) 0 ≡ type_in ms n k
unfolding type_in region
type-in ms n k h = sym (get_or-take 10 (drop (10 * n) ms) k 0 h ∙ get_or-drop (10 * n) ms k 0)

body-in : (rs : List ℕ) (c n k z : ℕ) → k < 10 → z ≤ c → take z (drop (c * 10 * n + c * k) rs) ≡ take z (region (region rs (c * 10) n) c k)
unfolding region
body-in rs c n k z h f =
    let xs = drop (c * 10 * n) rs in
    let i : c * k + c ≤ c * 10 = region-fits c k 10 h in
    sym (take-take z c (drop (c * k) (take (c * 10) xs)) f
    ∙ ap (take z) (drop-take (c * k) (c * 10) xs)
    ∙ take-take z (c * 10 - c * k) (drop (c * k) xs) (omega arith)
    ∙ ap (take z) (drop-drop (c * k) (c * 10 * n) rs))

-- where the code finds a cell: it ends within the room, and no number on the way there is large
module _ (v : Vocoder) (c n k : ℕ) (e : c ≡ (shape_of v).cell) (p : n < packets_of (shape_of v)) (q : k < 10) where
  abbrev room : ℕ
  room = room_of (shape_of v) * packets_of (shape_of v)

  packet-there : (c * 10 * n + c * 10 ≤ room) × (room ≤ 20400)
  packet-there = packet-in v c n room e p refl

  pub cell-fits : c * 10 * n + c * k + c ≤ room
  cell-fits = omega (arith, packet-there.0, region-fits c k 10 q)

  pub cell-low : c * 10 * n + c * k + c ≤ 20400
  cell-low = omega (arith, cell-fits, packet-there.1)

-- ---- sizes
pub row-size-more : (t : FrameTable) (ms : List ℕ) (k m s z : ℕ) → k < 10 → s ≡ row_size t ms k m → z ≡ size t (get_or ms (10 * m + k) 0) → s + (1 + z) ≡ row_size t ms k (m + 1)
unfolding row_size
row-size-more t ms k m s z h e f =
    let q : row_size t ms k (m + 1) ≡ row_size t ms k m + 1 + size t (type_in ms m k) = rw (add-one m) in
    let g : z ≡ size t (type_in ms m k) = f ∙ ap (size t) (type-in ms m k h) in
    omega arith

pub rows-size-more : (t : FrameTable) (ms : List ℕ) (m b s z : ℕ) → s ≡ rows_size t ms m b → z ≡ row_size t ms b m → s + z ≡ rows_size t ms m (b + 1)
unfolding rows_size
rows-size-more t ms m b s z e f = rw (add-one b, e, f)

-- the same as sums, and how large they are
pub row-size-sum : (t : FrameTable) (ms : List ℕ) (k m : ℕ) → k < 10 → sum (map (λ (n : ℕ). 1 + size t (get_or ms (10 * n + k) 0)) (range_with_len 0 m)) ≡ row_size t ms k m
unfolding row_size
row-size-sum t ms k zero h = refl
row-size-sum t ms k (suc m) h =
    let f : ℕ → ℕ = λ n. 1 + size t (get_or ms (10 * n + k) 0) in
    ap (λ (j : ℕ). sum (map f (range_with_len 0 j))) (sym (add-one m))
    ∙ sum_by-map-range_with_len_more (λ (x : ℕ). x) f 0 m m (omega arith)
    ∙ row-size-more t ms k m _ _ h (row-size-sum t ms k m h) refl
    ∙ ap (row_size t ms k) (add-one m)

pub row-size-few : (v : Vocoder) (ms : List ℕ) (k m : ℕ) → row_size (rows_of v) ms k m ≤ 256 * m
unfolding row_size
row-size-few v ms k zero = omega arith
row-size-few v ms k (suc m) = omega (arith, row-size-few v ms k m, body-small v (type_in ms m k))

pub rows-size-sum : (t : FrameTable) (ms : List ℕ) (m b : ℕ) → sum (map (λ (k : ℕ). row_size t ms k m) (range_with_len 0 b)) ≡ rows_size t ms m b
unfolding rows_size
rows-size-sum t ms m zero = refl
rows-size-sum t ms m (suc b) =
    let f : ℕ → ℕ = λ k. row_size t ms k m in
    ap (λ (j : ℕ). sum (map f (range_with_len 0 j))) (sym (add-one b))
    ∙ sum_by-map-range_with_len_more (λ (x : ℕ). x) f 0 b b (omega arith)
    ∙ ap (λ (s : ℕ). s + row_size t ms b m) (rows-size-sum t ms m b)

pub rows-size-few : (v : Vocoder) (ms : List ℕ) (m b : ℕ) → m ≤ 8 → rows_size (rows_of v) ms m b ≤ 2048 * b
unfolding rows_size
rows-size-few v ms m zero h = omega arith
rows-size-few v ms m (suc b) h = omega (arith, rows-size-few v ms m b h, row-size-few v ms b m)

-- sizes grow with the packets, and with the rows
grows : (t : FrameTable) (ms : List ℕ) (k i m : ℕ) → i < m → row_size t ms k i + 1 + size t (type_in ms i k) ≤ row_size t ms k m
unfolding row_size
grows t ms k i zero h = absurd (omega arith)
grows t ms k i (suc m) h =
    ⊎_elim (λ (q : i ≡ m). rw q (le_refl _)) (λ (q : i < m). omega (arith, grows t ms k i m q)) (eq-or-lt_of_le (le_of_suc-le-suc h))

pub row-size-grows : (t : FrameTable) (ms : List ℕ) (k i m : ℕ) → k < 10 → i < m → row_size t ms k i + 1 + size t (get_or ms (10 * i + k) 0) ≤ row_size t ms k m
row-size-grows t ms k i m q h = rw (type-in ms i k q) (grows t ms k i m h)

pub rows-size-grows : (t : FrameTable) (ms : List ℕ) (m i b : ℕ) → i < b → rows_size t ms m i + row_size t ms i m ≤ rows_size t ms m b
unfolding rows_size
rows-size-grows t ms m i zero h = absurd (omega arith)
rows-size-grows t ms m i (suc b) h =
    ⊎_elim (λ (q : i ≡ b). rw q (le_refl _)) (λ (q : i < b). omega (arith, rows-size-grows t ms m i b q)) (eq-or-lt_of_le (le_of_suc-le-suc h))

-- ---- the entries take the octets that the sizes tell
module _ (v : Voice) (w : T (within v.shape.cell v.table)) (ms rs : List ℕ) (long : length rs ≡ room_of v.shape * packets_of v.shape) where
  abbrev here : ℕ → ℕ → Frame
  here n k = frame_of v (bundle_of v.shape ms rs n) k

  length-body : (n k : ℕ) → n < packets_of v.shape → k < 10 → length (here n k).body ≡ size v.table (type_in ms n k)
  unfolding bundle_of mark_at type_in
  length-body n k p q =
      let r = room_of v.shape in
      let f : r * n + r ≤ length rs = subst (λ (i : ℕ). r * n + r ≤ i) (sym long) (region-fits r n (packets_of v.shape) p) in
      frame-long v w (bundle_of v.shape ms rs n) k (length-region rs r n f) q

  length-row : (k m : ℕ) → m ≤ packets_of v.shape → k < 10 → length (entries_of (row v ms rs k m)) ≡ row_size v.table ms k m
  unfolding row up_to row_size
  length-row k zero p q = refl
  length-row k (suc m) p q =
      let f = here m k in
      let i = length-row k m (omega arith) q in
      let e : length (entries_of (row v ms rs k m ++ (f ∷ []))) ≡ length (entries_of (row v ms rs k m)) + length (entries_of (f ∷ [])) =
      ap length (entries-append (row v ms rs k m) (f ∷ [])) ∙ length-append (entries_of (row v ms rs k m)) (entries_of (f ∷ [])) in
      let b : length (f.body ++ []) ≡ size v.table (type_in ms m k) = ap length (append-nil f.body) ∙ length-body m k p q in
      omega arith

  pub length-rows : (m b : ℕ) → m ≤ packets_of v.shape → b ≤ 10 → length (entries_of (rows v ms rs m b)) ≡ rows_size v.table ms m b
  unfolding rows rows_size
  length-rows m zero p q = refl
  length-rows m (suc b) p q =
      let i = length-rows m b p (omega arith) in
      let j = length-row b m p q in
      ap length (entries-append (rows v ms rs m b) (row v ms rs b m)) ∙ length-append (entries_of (rows v ms rs m b)) (entries_of (row v ms rs b m)) ∙ ap₂ ◌+◌ i j

  -- one more entry written
  module _ (k n : ℕ) (p : n < packets_of v.shape) (q : k < 10) where
    abbrev from : ℕ
    from = room_of v.shape * n + v.shape.cell * k

    -- the frame, as the code finds it
    found : (z : ℕ) → z ≡ size v.table (get_or ms (10 * n + k) 0) → take (from + z - from) (drop from rs) ≡ (here n k).body
    unfolding frame_of bundle_of mark_at type_in
    found z g =
        let c = v.shape.cell in
        let t : z ≡ size v.table (type_in ms n k) = g ∙ ap (size v.table) (type-in ms n k q) in
        let f : z ≤ c = omega (arith, size-within c v.table (type_in ms n k) w) in
        part-is rs from z ∙ body-in rs c n k z q f ∙ ap (λ (i : ℕ). take i (region (region rs (room_of v.shape) n) c k)) t

    here-type : get_or ms (10 * n + k) 0 ≡ (here n k).type
    unfolding frame_of bundle_of mark_at type_in
    here-type = type-in ms n k q

    pub row_more : (out₀ out last : List ℕ) (at next z s : ℕ) → s ≡ from → at ≤ length out₀ → next < length out → next ≡ at + row_size v.table ms k n
        → out ≡ over out₀ at (entries_of (row v ms rs k n))
        → z ≡ size v.table (get_or ms (10 * n + k) 0)
        → last ≡ over (set out next (get_or ms (10 * n + k) 0)) (next + 1) (take (s + z - s) (drop s rs))
        → last ≡ over out₀ at (entries_of (row v ms rs k (n + 1)))
    unfolding row up_to
    row_more out₀ out last at next z s i le lt e f g h =
        let t = get_or ms (10 * n + k) 0 in
        let body = (here n k).body in
        let es = entries_of (row v ms rs k n) in
        let c : take (s + z - s) (drop s rs) ≡ body = ap (λ (j : ℕ). take (j + z - j) (drop j rs)) i ∙ found z g in
        let one : over (set out next t) (next + 1) body ≡ over out next (t ∷ body) =
        ap (λ (d : List ℕ). over d (next + 1) body) (set-over out next t lt) ∙ over-append out next (t ∷ []) body (omega arith) in
        let at-end : next ≡ at + length es = e ∙ ap (λ (i : ℕ). at + i) (sym (length-row k n (omega arith) q)) in
        let two : over out next (t ∷ body) ≡ over out₀ at (es ++ (t ∷ body)) =
        ap₂ (λ (d : List ℕ) (i : ℕ). over d i (t ∷ body)) f at-end ∙ over-append out₀ at es (t ∷ body) le in
        let all : es ++ (t ∷ body) ≡ entries_of (row v ms rs k n ++ (here n k ∷ [])) =
        ap₂ (λ (y : ℕ) (b : List ℕ). es ++ (y ∷ b)) here-type (sym (append-nil body)) ∙ sym (entries-append (row v ms rs k n) (here n k ∷ [])) in
        h ∙ ap (over (set out next t) (next + 1)) c ∙ one ∙ two ∙ ap (over out₀ at) (all ∙ rw (add-one n))

  -- one more row written
  pub rows_more : (m k : ℕ) → m ≤ packets_of v.shape → k < 10 → (out₀ out last : List ℕ) (at : ℕ) → at ≡ rows_size v.table ms m k
      → out ≡ over out₀ 0 (entries_of (rows v ms rs m k))
      → last ≡ over out at (entries_of (row v ms rs k m)) → last ≡ over out₀ 0 (entries_of (rows v ms rs m (k + 1)))
  unfolding rows
  rows_more m k p q out₀ out last at e f h =
      let es = entries_of (rows v ms rs m k) in
      let r = entries_of (row v ms rs k m) in
      let at-end : at ≡ 0 + length es = e ∙ sym (length-rows m k p (omega arith)) ∙ sym (zero-add (length es)) in
      let all : es ++ r ≡ entries_of (rows v ms rs m (k + 1)) = sym (entries-append (rows v ms rs m k) (row v ms rs k m)) ∙ rw (add-one k) in
      h ∙ ap₂ (λ (d : List ℕ) (i : ℕ). over d i r) f at-end ∙ over-append out₀ 0 es r (omega arith) ∙ ap (over out₀ 0) all

-- nothing written yet
pub row-none : (v : Voice) (ms rs : List ℕ) (k : ℕ) (out : List ℕ) (at : ℕ) → out ≡ over out at (entries_of (row v ms rs k 0))
unfolding row up_to
row-none v ms rs k out at = over_nothing out at

pub rows_none : (v : Voice) (ms rs : List ℕ) (m : ℕ) (out : List ℕ) → out ≡ over out 0 (entries_of (rows v ms rs m 0))
unfolding rows
rows_none v ms rs m out = over_nothing out 0

-- a part, as the code cuts it, is no longer than it was cut
pub length-piece : (xs : List ℕ) (from z : ℕ) → length (take (from + z - from) (drop from xs)) ≤ z
length-piece xs from z = simp (length-take, length-drop) (omega arith)

-- ---- the answers of a pouring
pub pour-none : (v : Voice) (h : Holding) → holds v h ≡ false → poured v h ≡ refused_output NotApplicable
unfolding poured
pour-none v h e = simp e

pub pour-all : (v : Voice) (h : Holding) → holds v h ≡ true → poured v h ≡ octets (entries_of (in_time v h))
unfolding poured
pour-all v h e = simp e

-- ---- what stands at a time place
module _ (v : Voice) (ms rs : List ℕ) (m : ℕ) where
  pub count-rows : (b : ℕ) → length (rows v ms rs m b) ≡ b * m
  unfolding rows row
  count-rows zero = sym (zero-mul m)
  count-rows (suc b) =
      length-append (rows v ms rs m b) (row v ms rs b m) ∙ ap₂ ◌+◌ (count-rows b) (length-upTo (λ n. frame_of v (bundle_of v.shape ms rs n) b) m) ∙ sym (suc-mul b m)

  -- "Frame k of packet N stands at time place k x (L + 1) + N."
  pub rows_at : (b n k : ℕ) → n < m → k < b → frame_at (rows v ms rs m b) (k * m + n) ≡ frame_of v (bundle_of v.shape ms rs n) k
  unfolding rows row
  rows_at zero n k p q = absurd (omega arith)
  rows_at (suc b) n k p q =
      ⊎_elim
      (λ (e : k ≡ b).
      rw e
      (ap (λ (i : ℕ). frame_at (rows v ms rs m b ++ row v ms rs b m) (i + n)) (sym (count-rows b))
      ∙ get_or-append-add (rows v ms rs m b) (row v ms rs b m) n no_frame ∙ upTo-at (λ i. frame_of v (bundle_of v.shape ms rs i) b) m n no_frame p))
      (λ (e : k < b).
      get_or-append (rows v ms rs m b) (row v ms rs b m) no_frame (k * m + n) (omega (arith, count-rows b, suc-mul k m, mul-le-mul_right m e)) ∙ rows_at b n k p e)
      (eq-or-lt_of_le (le_of_suc-le-suc q))

-- ---- of a holding, by its numbers, types and cells
pub poured-held :
    (v : Voice) (h : Holding) (l b : ℕ) (ms rs out after : List ℕ) (r : Result ℕ Refusal) →
    Writes (octets (entries_of (rows v ms rs (l + 1) b))) out r after → l ≡ h.numbers.l → b ≡ h.numbers.b → ms ≡ h.marks → rs ≡ h.room →
    Writes (octets (entries_of (in_time v h))) out r after
poured-held v h l b ms rs out after r w p q marks room = rw (p, q, marks, room) at w
