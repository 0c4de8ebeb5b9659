-- A capture's table. Assumes nothing.
use Rattle.std.proofs.Common.{Ok, Err, is_ok}
use Prim.Native.Nat.{ℕ, zero, suc, ◌+◌, ◌*◌, ◌≤◌, ◌<◌}
use mathlib.Core.Bool.{Bool, true, false, cond, ◌&&◌}
use mathlib.Core.Path.{◌≡◌, refl, sym, ap, ap₂, ◌∙◌}
use mathlib.Core.List.{List, map}
use mathlib.Core.Logic.{⊎_elim}
use native.Mathlib.Nat.{le_refl, eq-or-lt_of_le, le_of_suc-le-suc}
use native.Mathlib.Numerals.{add-one}
use native.Mathlib.Omega.{arith}
use lib.ListN.{length, drop, get_or, length-drop}
use lib.Seq.{length-take-le}
use Rattle.std.specs.List.{sum, range_with_len}
use Rattle.std.proofs.lemmas.List.FromFn.{sum_by-map-range_with_len_more}
use lib.Dec.{eqb, leb}
use borrow.Author.Tests.{ne_eqb, eqb-true, leb-true, leb-false}
use Rattle.octets.specs.Octets.{two_at}
use Rattle.octets.proofs.Logic.{both_true}
use Rattle.capture.specs.declared.Packet.{Packet}
use Rattle.capture.specs.Capture.{Heard, as_heard, heard_at, count_of, length_at, lengths, start_at, end_fault, table_fault, count_fault, fault_of, good}
use Rattle.capture.specs.declared.Fault.TheVariants.{TooLong, NoCount, TooManyPackets, TableCut, PayloadsCut, OctetsLeft}

-- ---- the octets of the first payloads
-- as a sum along the table
pub lengths-sum : (c : List ℕ) (n : ℕ) → sum (map (length_at c) (range_with_len 0 n)) ≡ lengths c n
unfolding lengths
lengths-sum c zero = refl
lengths-sum c (suc n) =
    ap (λ (k : ℕ). sum (map (length_at c) (range_with_len 0 k))) (sym (add-one n))
    ∙ sum_by-map-range_with_len_more (λ (x : ℕ). x) (length_at c) 0 n n (omega arith)
    ∙ ap (λ (s : ℕ). s + length_at c n) (lengths-sum c n)

pub lengths-few : (c : List ℕ) → ((i : ℕ) → get_or c i 0 < 256) → (n : ℕ) → lengths c n ≤ 65535 * n
unfolding lengths two_at
lengths-few c h zero = omega arith
lengths-few c h (suc n) = omega (arith, lengths-few c h n, h (2 + 12 * n + 10), h (2 + 12 * n + 10 + 1))

pub lengths-more : (c : List ℕ) (n s x : ℕ) → s ≡ lengths c n → x ≡ two_at c (2 + 12 * n + 10) → s + x ≡ lengths c (n + 1)
unfolding lengths
lengths-more c n s x e f = rw (add-one n, e, f)

lengths-grow : (c : List ℕ) (i n : ℕ) → i < n → lengths c i + length_at c i ≤ lengths c n
unfolding lengths
lengths-grow c i zero h = absurd (omega arith)
lengths-grow c i (suc n) h =
    ⊎_elim (λ (q : i ≡ n). rw q (le_refl _)) (λ (q : i < n). omega (arith, lengths-grow c i n q)) (eq-or-lt_of_le (le_of_suc-le-suc h))

-- what ends where its octets end has no fault, and nothing else
end_none : (end n : ℕ) → is_ok (end_fault end n) ≡ eqb end n
unfolding end_fault
end_none end n = go (eqb end n) (leb end n)
  where
    go : (s t : Bool) → is_ok (cond s (Ok (tt {0})) (cond t (Err (OctetsLeft end)) (Err (PayloadsCut end)))) ≡ s
    go true t = refl
    go false true = refl
    go false false = refl

-- what ends before its table does, does not end where its payloads end
not_there : (c : List ℕ) → length c < 2 + 12 * count_of c → eqb (start_at c (count_of c)) (length c) ≡ false
unfolding start_at
not_there c h = ne_eqb (start_at c (count_of c)) (length c) (λ (e : start_at c (count_of c) ≡ length c). absurd (omega arith))

-- a capture: at most 65,536 octets and 256 packets, and it ends where its last payload does
pub good-means : (c : List ℕ) → good c ≡ (leb (length c) 65536 && leb (count_of c) 256 && eqb (start_at c (count_of c)) (length c))
unfolding fault_of count_fault table_fault good
good-means c =
    go (leb (length c) 65536) (leb 2 (length c)) (leb (count_of c) 256) (leb (2 + 12 * count_of c) (length c))
    (λ e. let h : length c < 2 = leb-false _ _ e in not_there c (omega arith)) (λ e. not_there c (leb-false _ _ e))
  where
    go : (s w m t : Bool) → (w ≡ false → eqb (start_at c (count_of c)) (length c) ≡ false) →
        (t ≡ false → eqb (start_at c (count_of c)) (length c) ≡ false) →
        is_ok (cond s (cond w (cond m (cond t (end_fault (start_at c (count_of c)) (length c))
        (Err (TableCut (2 + 12 * count_of c)))) (Err (TooManyPackets (count_of c)))) (Err NoCount)) (Err TooLong))
        ≡ (s && m && eqb (start_at c (count_of c)) (length c))
    go false w m t h k = refl
    go true false false t h k = refl
    go true false true t h k = sym (h refl)
    go true true false t h k = refl
    go true true true false h k = sym (k refl)
    go true true true true h k = end_none _ _

-- a capture that is good
pub record Good (c : List ℕ) : Type 0 where
  pub short : length c ≤ 65536
  pub few : count_of c ≤ 256
  pub whole : start_at c (count_of c) ≡ length c

pub good-is : (c : List ℕ) → good c ≡ true → Good c
good-is c e =
    let h = both_true (leb (length c) 65536 && leb (count_of c) 256) (eqb (start_at c (count_of c)) (length c)) (sym (good-means c) ∙ e) in
    let k = both_true (leb (length c) 65536) (leb (count_of c) 256) h.0 in
    record { short = leb-true _ _ k.0; few = leb-true _ _ k.1; whole = eqb-true _ _ h.1 }

-- its table and each payload lie in it
pub table-in : (c : List ℕ) → Good c → 2 + 12 * count_of c ≤ length c
unfolding start_at
table-in c g = let w = g.whole in omega arith

pub payload_in : (c : List ℕ) → Good c → (i : ℕ) → i < count_of c → start_at c i + length_at c i ≤ length c
unfolding start_at
payload_in c g i h = let w = g.whole in omega (arith, lengths-grow c i (count_of c) h)

-- where the payloads start, one after the other
pub start-at : (c : List ℕ) (n i total : ℕ) → n ≡ count_of c → total ≡ lengths c i → 2 + 12 * n + total ≡ start_at c i
unfolding start_at
start-at c n i total e f = ap₂ (λ (x y : ℕ). 2 + 12 * x + y) e f

pub start_first : (c : List ℕ) (n : ℕ) → n ≡ count_of c → 2 + 12 * n ≡ start_at c 0
unfolding start_at lengths
start_first c n e = omega arith

-- the payload of packet i has as many octets as its row says, and the next one starts behind it
pub payload-long : (c : List ℕ) (i : ℕ) → start_at c i + length_at c i ≤ length c → length (heard_at c i).payload ≡ length_at c i
unfolding heard_at
payload-long c i h = length-take-le (length_at c i) (drop (start_at c i) c) (omega (arith, length-drop (start_at c i) c))

-- where the next payload begins
pub start-more : (c : List ℕ) (i s x : ℕ) → s ≡ start_at c i → x ≡ two_at c (2 + 12 * i + 10) → s + x ≡ start_at c (i + 1)
unfolding start_at
start-more c i s x e f = let q = lengths-more c i (lengths c i) x refl f in omega arith

module _ (c : List ℕ) (i s : ℕ) (p : Packet) (e : s ≡ start_at c i) (k : s + length_at c i ≤ length c) (h : as_heard p ≡ heard_at c i) where
  pub payload-is : length p.payload.now ≡ length_at c i
  payload-is =
      let j : start_at c i + length_at c i ≤ length c = omega arith in
      ap (λ (y : Heard). length y.payload) h ∙ payload-long c i j

  pub next-start : s + length p.payload.now ≡ start_at c (i + 1)
  next-start = start-more c i s (length p.payload.now) e payload-is

-- packet i of a good capture
pub record Turn (c : List ℕ) (i start : ℕ) : Type 0 where
  pub row_in : 2 + 12 * (i + 1) ≤ length c
  pub payload_in : start + length_at c i ≤ length c
  pub short : length c ≤ 65536

pub turn : (c : List ℕ) → good c ≡ true → (i n start : ℕ) → n ≡ count_of c → i < n → start ≡ start_at c i → Turn c i start
turn c e i n start q h f =
    let g = good-is c e in
    let k : i < count_of c = omega arith in
    record { row_in = omega (arith, table-in c g); payload_in = omega (arith, payload_in c g i k); short = g.short }
