-- Where a payload that is refused is at fault, and what stands before that place. Assumes nothing.
use Rattle.std.proofs.Common.{Option, Some, None}
use Prim.Native.Nat.{ℕ, zero, suc, ◌+◌, ◌≤◌, ◌<◌}
use mathlib.Core.Path.{◌≡◌, refl, sym, ap, subst, ◌∙◌}
use mathlib.Core.List.{List, [], ◌∷◌, ◌++◌, append_assoc}
use mathlib.Core.Bool.{Bool, true, false, cond}
use native.Mathlib.Nat.{add-zero, add_comm, le_of_suc-le-suc}
use native.Mathlib.Numerals.{one-add}
use native.Mathlib.Omega.{arith}
use lib.Dec.{eqb, leb, ltb}
use lib.ListN.{length, take, drop, get_or, length-drop, length-append}
use lib.Seq.{take-append-add}
use borrow.Author.Tests.{leb-true, leb-false, ltb-true, ltb-false, lt-ltb, le-ltb}
use Rattle.octets.proofs.Logic.{apart}
use Rattle.frame.specs.FrameTable.{FrameTable, known, size, row_of_size}
use Rattle.frame.specs.Entry.{type_of, d_of, more}
use Rattle.frame.specs.declared.Row.{Row}
use Rattle.form.specs.Agreed.{in_range}
use Rattle.form.specs.declared.Limits.{Limits}
use Rattle.form.specs.declared.Form.{Form}
use Rattle.form.specs.declared.Form.TheVariants.{HeaderFree, Interleaved}
use Rattle.answers.specs.Answers.{number_of, place_of}
use Rattle.answers.specs.declared.Refusal.{Refusal}
use Rattle.answers.specs.declared.Refusal.TheVariants.{NoOctet, IndexPastLength, LengthPastMaximum, TableCut, ReservedType, TooManyFrames, BodiesCut, OctetsLeft}
use Rattle.answers.specs.declared.Refusal.TheVariants.{HeaderFreeLength, NotApplicable}
use Rattle.payload.specs.Payload.{packet, refused_payload, Toc, contents, fault, put, toc, total, cut, first_cut, bodies, interleaved, one_body}
use Rattle.payload.specs.Payload.{read_as, l_of, n_of}
use Rattle.payload.proofs.Tables.{entry_if}

-- ---- the table of contents

-- how the walk over a table ends, behind n entries that are each followed by another; a table is read so whatever is behind it
data Ends (v : FrameTable) (max count at : ℕ) (es : List ℕ) (n : ℕ) : Toc → Type 0 where
  no_entry : (i : ℕ) → i ≡ at + n → n ≡ length es → Ends v max count at es n (fault (TableCut i))
  unknown : (i : ℕ) → i ≡ at + n → n < length es → known v (type_of (get_or es n 0)) ≡ false → Ends v max count at es n (fault (ReservedType i))
  no_room : (i : ℕ) → i ≡ at + n → n < length es → (count ≤ max → count + n ≡ max) → Ends v max count at es n (fault (TooManyFrames i))
  table : (ts : List ℕ) (d behind : ℕ) (rest head : List ℕ) → length ts ≡ n + 1 → behind ≡ at + n + 1 → length head ≡ n + 1 → head ++ rest ≡ es
      → ((xs : List ℕ) → toc v max count at (head ++ xs) ≡ contents ts d behind xs) → Ends v max count at es n (contents ts d behind rest)

-- the walk over a table: cut short behind any of these entries, it is a table that is cut
record Walk (v : FrameTable) (max count at : ℕ) (es : List ℕ) (w : Toc) : Type 0 where
  passed : ℕ
  short : (k : ℕ) → k ≤ passed → toc v max count at (take k es) ≡ fault (TableCut (at + k))
  ends : Ends v max count at es passed w

module _ (v : FrameTable) (max count at : ℕ) where
  -- cut short before the first entry
  at_once : (es : List ℕ) (k : ℕ) → k ≤ 0 → toc v max count at (take k es) ≡ fault (TableCut (at + k))
  unfolding toc
  at_once es zero h = rw add-zero
  at_once es (suc k) h = absurd (omega arith)

  starts : (es : List ℕ) (w : Toc) → Ends v max count at es 0 w → Walk v max count at es w
  starts es w h = record { passed = 0; short = at_once es; ends = h }

  -- an entry that is followed by another, before a walk
  module _ (e : ℕ) (room : count < max) (by : (xs : List ℕ) → toc v max count at (e ∷ xs) ≡ put (type_of e) (toc v max (count + 1) (at + 1) xs)) where
    one_more : (es : List ℕ) (n : ℕ) (w : Toc) → Ends v max (count + 1) (at + 1) es n w → Ends v max count at (e ∷ es) (suc n) (put (type_of e) w)
    one_more es n w (no_entry i q h) = no_entry i (omega arith) (omega arith)
    one_more es n w (unknown i q h k) = unknown i (omega arith) (omega arith) k
    one_more es n w (no_room i q h f) = no_room i (omega arith) (omega arith) (λ c. omega (arith, f (omega arith)))
    one_more es n w (table ts d behind rest head a b c s t) =
        table (type_of e ∷ ts) d behind rest (e ∷ head) (omega arith) (omega arith) (omega arith) (ap (λ (l : List ℕ). e ∷ l) s)
        (λ xs. by (head ++ xs) ∙ ap (put (type_of e)) (t xs))

    walk-on : (es : List ℕ) (w : Toc) → Walk v max (count + 1) (at + 1) es w → Walk v max count at (e ∷ es) (put (type_of e) w)
    walk-on es w h = record { passed = suc h.passed; short = go; ends = one_more es h.passed w h.ends }
      where
        go : (k : ℕ) → k ≤ suc h.passed → toc v max count at (take k (e ∷ es)) ≡ fault (TableCut (at + k))
        go zero q = at_once (e ∷ es) 0 (omega arith)
        go (suc k) q =
            let i : at + 1 + k ≡ at + suc k = omega arith in
            by (take k es) ∙ ap (put (type_of e)) (h.short k (le_of_suc-le-suc q)) ∙ ap (λ (x : ℕ). fault (TableCut x)) i

  entry-walk : (e : ℕ) (es : List ℕ) (w : Toc) (filled good on : Bool) → leb max count ≡ filled → known v (type_of e) ≡ good →
      ((xs : List ℕ) → toc v max count at (e ∷ xs) ≡ entry_if at e xs (toc v max (count + 1) (at + 1) xs) filled good on) →
      Walk v max (count + 1) (at + 1) es w →
      Walk v max count at (e ∷ es) (entry_if at e es w filled good on)
  entry-walk e es w true good on f k by h =
      let m = leb-true max count f in
      starts (e ∷ es) _ (no_room at (omega arith) (omega arith) (λ c. omega arith))
  entry-walk e es w false false on f k by h = starts (e ∷ es) _ (unknown at (omega arith) (omega arith) k)
  entry-walk e es w false true true f k by h = walk-on e (leb-false max count f) by es w h
  entry-walk e es w false true false f k by h = starts (e ∷ es) _ (table (type_of e ∷ []) (d_of e) (at + 1) es (e ∷ []) refl (omega arith) refl refl by)

toc-walk : (v : FrameTable) (max count at : ℕ) (es : List ℕ) → Walk v max count at es (toc v max count at es)
unfolding toc
toc-walk v max count at [] = starts v max count at [] _ (no_entry at (omega arith) refl)
toc-walk v max count at (e ∷ es) =
    entry-walk v max count at e es (toc v max (count + 1) (at + 1) es) (leb max count) (known v (type_of e)) (more e) refl refl (λ xs. refl)
    (toc-walk v max (count + 1) (at + 1) es)

-- ---- the bodies

-- the first body that does not fit whole: those before it do
pub record FirstCut (v : FrameTable) (at : ℕ) (ts bs : List ℕ) : Type 0 where
  pub k : ℕ
  pub there : k < length ts
  pub begins : first_cut v at ts bs ≡ at + total v (take k ts)
  pub before : total v (take k ts) ≤ length bs
  pub cut : length bs < total v (take k ts) + size v (get_or ts k 0)

pub first-cut : (v : FrameTable) (at : ℕ) (ts bs : List ℕ) → length bs < total v ts → FirstCut v at ts bs
unfolding first_cut
first-cut v at [] bs h = absurd (omega arith)
first-cut v at (t ∷ ts) bs h = go (ltb (length bs) (size v t)) refl (first-cut v (at + size v t) ts (drop (size v t) bs))
  where
    go : (b : Bool) → ltb (length bs) (size v t) ≡ b →
        (length (drop (size v t) bs) < total v ts → FirstCut v (at + size v t) ts (drop (size v t) bs)) → FirstCut v at (t ∷ ts) bs
    go true q i = record { k = 0; there = omega arith; begins = rw q (omega arith); before = omega arith; cut = omega (arith, ltb-true) }
    go false q i =
        let l = length-drop (size v t) bs in
        let f = ltb-false (length bs) (size v t) q in
        let x = i (omega arith) in
        record { k = suc x.k; there = omega arith; begins = rw q (omega (arith, x.begins)); before = omega arith; cut = omega arith }

-- of fewer octets, it is not further on
pub not-later : (v : FrameTable) (at : ℕ) (ts cs bs : List ℕ) → length cs ≤ length bs → length bs < total v ts → first_cut v at ts cs ≤ first_cut v at ts bs
unfolding first_cut
not-later v at [] cs bs h k = omega arith
not-later v at (t ∷ ts) cs bs h k =
    go (ltb (length cs) (size v t)) (ltb (length bs) (size v t)) (ltb-false _ _) (ltb-true _ _) (ltb-false _ _)
    (not-later v (at + size v t) ts (drop (size v t) cs) (drop (size v t) bs))
  where
    go : (a b : Bool) → (a ≡ false → size v t ≤ length cs) → (b ≡ true → length bs < size v t) → (b ≡ false → size v t ≤ length bs) →
        (length (drop (size v t) cs) ≤ length (drop (size v t) bs) → length (drop (size v t) bs) < total v ts →
        first_cut v (at + size v t) ts (drop (size v t) cs) ≤ first_cut v (at + size v t) ts (drop (size v t) bs)) →
        cond a at (first_cut v (at + size v t) ts (drop (size v t) cs)) ≤ cond b at (first_cut v (at + size v t) ts (drop (size v t) bs))
    go true true p q r i = omega arith
    go true false p q r i =
        let f = r refl in
        omega (arith, (first-cut v (at + size v t) ts (drop (size v t) bs) (omega (arith, length-drop (size v t) bs))).begins)
    go false true p q r i = absurd (omega (arith, p refl, q refl))
    go false false p q r i = let f = r refl in i (omega (arith, length-drop (size v t) cs, length-drop (size v t) bs)) (omega (arith, length-drop (size v t) bs))

-- bodies that fill what is behind the table, and bodies that are more
module _ (v : FrameTable) (l n : ℕ) (ts : List ℕ) (d behind : ℕ) (rest : List ℕ) where
  pub bodies-fill : length rest ≡ total v ts → bodies v l n (contents ts d behind rest) ≡ packet l n d (cut v ts rest)
  unfolding bodies
  bodies-fill h =
      let a : total v ts ≤ length rest = omega arith in
      let b : length rest ≤ total v ts = omega arith in
      simp (le-ltb _ _ a, le-ltb _ _ b)

  pub bodies-missing : length rest < total v ts → bodies v l n (contents ts d behind rest) ≡ refused_payload (BodiesCut (first_cut v behind ts rest))
  unfolding bodies
  bodies-missing h = simp (lt-ltb _ _ h)

-- ---- payloads

-- cut short anywhere in its first octets, a payload is refused, and there
pub record Cuts (v : FrameTable) (f : Form) (p : List ℕ) (n : ℕ) : Type 0 where
  pub any : 0 < n
  pub none : read_as v f [] ≡ refused_payload NoOctet
  pub some : (k : ℕ) → 0 < k → k ≤ n → read_as v f (take k p) ≡ refused_payload (TableCut k)

-- a payload with a table of contents: with fewer octets behind it, and with more, its table is the same
pub record Tabled (v : FrameTable) (f : Form) (p ts : List ℕ) (behind : ℕ) (rest : List ℕ) : Type 0 where
  pub l : ℕ
  pub n : ℕ
  pub d : ℕ
  pub begins : behind ≡ 1 + length ts
  pub octets : length p ≡ behind + length rest
  pub cuts : Cuts v f p (length ts)
  pub fewer : (j : ℕ) → read_as v f (take (behind + j) p) ≡ bodies v l n (contents ts d behind (take j rest))
  pub longer : (xs : List ℕ) → read_as v f (p ++ xs) ≡ bodies v l n (contents ts d behind (rest ++ xs))

-- how a payload is refused
pub data Faulted (v : FrameTable) (f : Form) (p : List ℕ) : Refusal → Type 0 where
  unplaced : (r : Refusal) → place_of r ≡ None → eqb (number_of r) 12 ≡ false → Faulted v f p r
  cut_table : (i : ℕ) → i ≡ length p → Cuts v f p i → Faulted v f p (TableCut i)
  reserved : (i : ℕ) → i < length p → Cuts v f p i → known v (type_of (get_or p i 0)) ≡ false → Faulted v f p (ReservedType i)
  full : (i : ℕ) → i < length p → Cuts v f p i → ((m : Limits) → f ≡ Interleaved m → i ≡ 1 + m.max_b) → Faulted v f p (TooManyFrames i)
  cut_bodies : (i : ℕ) (ts : List ℕ) (behind : ℕ) (rest : List ℕ) → Tabled v f p ts behind rest → length rest < total v ts → i ≡ first_cut v behind ts rest
      → Faulted v f p (BodiesCut i)
  left_over : (i : ℕ) (ts : List ℕ) (behind : ℕ) (rest : List ℕ) → Tabled v f p ts behind rest → total v ts < length rest → i ≡ behind + total v ts
      → Faulted v f p (OctetsLeft i)

module _ (v : FrameTable) (f : Form) where
  not-placed : (p : List ℕ) (q r : Refusal) → place_of q ≡ None → eqb (number_of q) 12 ≡ false → refused_payload q ≡ refused_payload r → Faulted v f p r
  not-placed p q r n m e = let s : q ≡ r = cc in subst (Faulted v f p) s (unplaced q n m)

  -- octet 0 is passed
  module _ (m : Limits) (is : f ≡ Interleaved m) (x : ℕ) (none : read_as v f [] ≡ refused_payload NoOctet)
      (reads : (xs : List ℕ) → read_as v f (x ∷ xs) ≡ bodies v (l_of x) (n_of x) (toc v m.max_b 0 1 xs)) where
    reads_as : (xs : List ℕ) (w : Toc) → toc v m.max_b 0 1 xs ≡ w → read_as v f (x ∷ xs) ≡ bodies v (l_of x) (n_of x) w
    reads_as xs w e = reads xs ∙ ap (bodies v (l_of x) (n_of x)) e

    cuts : (es : List ℕ) (n : ℕ) → ((k : ℕ) → k ≤ n → toc v m.max_b 0 1 (take k es) ≡ fault (TableCut (1 + k))) → Cuts v f (x ∷ es) (1 + n)
    unfolding bodies
    cuts es n short = record { any = omega arith; none = none; some = go }
      where
        go : (k : ℕ) → 0 < k → k ≤ 1 + n → read_as v f (take k (x ∷ es)) ≡ refused_payload (TableCut k)
        go zero h q = absurd (omega arith)
        go (suc k) h q = reads_as (take k es) _ (short k (omega arith)) ∙ ap (λ (i : ℕ). refused_payload (TableCut i)) (one-add k)

    by-table : (es : List ℕ) (r : Refusal) (w : Toc) → Walk v m.max_b 0 1 es w → bodies v (l_of x) (n_of x) w ≡ refused_payload r → Faulted v f (x ∷ es) r
    unfolding bodies
    by-table es r w h e = go w h.passed h.short h.ends e
      where
        told : (q : Refusal) → Faulted v f (x ∷ es) q → refused_payload q ≡ refused_payload r → Faulted v f (x ∷ es) r
        told q d k = let s : q ≡ r = cc in subst (Faulted v f (x ∷ es)) s d

        by_length : (ts : List ℕ) (d behind : ℕ) (rest : List ℕ) (a b : Bool) → (a ≡ true → length rest < total v ts) → (b ≡ true → total v ts < length rest) →
            Tabled v f (x ∷ es) ts behind rest →
            cond a (refused_payload (BodiesCut (first_cut v behind ts rest)))
            (cond b (refused_payload (OctetsLeft (behind + total v ts))) (packet (l_of x) (n_of x) d (cut v ts rest))) ≡ refused_payload r →
            Faulted v f (x ∷ es) r
        by_length ts d behind rest true b p q t k = told _ (cut_bodies (first_cut v behind ts rest) ts behind rest t (p refl) refl) k
        by_length ts d behind rest false true p q t k = told _ (left_over (behind + total v ts) ts behind rest t (q refl) refl) k
        by_length ts d behind rest false false p q t k = apart (cc)

        go : (w : Toc) (n : ℕ) → ((k : ℕ) → k ≤ n → toc v m.max_b 0 1 (take k es) ≡ fault (TableCut (1 + k))) → Ends v m.max_b 0 1 es n w →
            bodies v (l_of x) (n_of x) w ≡ refused_payload r →
            Faulted v f (x ∷ es) r
        go w n short (no_entry i q h) k = told _ (cut_table i (omega arith) (rw q (cuts es n short))) k
        go w n short (unknown i q h u) k = told _ (reserved i (omega arith) (rw q (cuts es n short)) (rw (q, one-add) u)) k
        go w n short (no_room i q h u) k =
            told _ (full i (omega arith) (rw q (cuts es n short)) (λ m' g. let s : m ≡ m' = cc in rw (← s) (omega (arith, u (omega arith))))) k
        go w n short (table ts d behind rest head a b c s t) k =
            by_length ts d behind rest (ltb (length rest) (total v ts)) (ltb (total v ts) (length rest)) (ltb-true _ _) (ltb-true _ _)
            (record {
              l = l_of x;
              n = n_of x;
              d = d;
              begins = omega arith;
              octets = omega (arith, ap length s, length-append head rest);
              cuts = rw (a, add_comm) (cuts es n short);
              fewer = λ j.
                  let z : behind + j ≡ suc (length head + j) = omega arith in
                  ap (λ (i : ℕ). read_as v f (take i (x ∷ es))) z
                  ∙ ap (λ (l : List ℕ). read_as v f (x ∷ l)) (ap (take (length head + j)) (sym s) ∙ take-append-add head rest j)
                  ∙ reads_as (head ++ take j rest) _ (t (take j rest));
              longer = λ xs.
                  ap (λ (l : List ℕ). read_as v f (x ∷ l)) (ap (λ (l : List ℕ). l ++ xs) (sym s) ∙ append_assoc head rest xs)
                  ∙ reads_as (head ++ (rest ++ xs)) _ (t (rest ++ xs));
            }) k

pub faulted : (v : FrameTable) (f : Form) (p : List ℕ) (r : Refusal) → read_as v f p ≡ refused_payload r → Faulted v f p r
unfolding read_as interleaved one_body
faulted v HeaderFree p r e = go (row_of_size v (length p)) e
  where
    go : (l : Option Row) → one_body l p ≡ refused_payload r → Faulted v HeaderFree p r
    go None k = not-placed v HeaderFree p HeaderFreeLength r refl refl k
    go (Some row) k = apart (cc)
faulted v (Interleaved m) [] r e = go (in_range m) e
  where
    go : (g : Bool) → cond g (refused_payload NoOctet) (refused_payload NotApplicable) ≡ refused_payload r → Faulted v (Interleaved m) [] r
    go true k = not-placed v (Interleaved m) [] NoOctet r refl refl k
    go false k = not-placed v (Interleaved m) [] NotApplicable r refl refl k
faulted v (Interleaved m) (x ∷ es) r e = go (in_range m) (ltb (l_of x) (n_of x)) (ltb m.max_l (l_of x)) refl (λ xs. refl)
  where
    go : (g a b : Bool) → read_as v (Interleaved m) [] ≡ cond g (refused_payload NoOctet) (refused_payload NotApplicable) →
        ((xs : List ℕ) → read_as v (Interleaved m) (x ∷ xs) ≡ cond g (cond a (refused_payload IndexPastLength) (cond b (refused_payload LengthPastMaximum)
        (bodies v (l_of x) (n_of x) (toc v m.max_b 0 1 xs)))) (refused_payload NotApplicable)) →
        Faulted v (Interleaved m) (x ∷ es) r
    go false a b none reads = not-placed v (Interleaved m) (x ∷ es) NotApplicable r refl refl (sym (reads es) ∙ e)
    go true true b none reads = not-placed v (Interleaved m) (x ∷ es) IndexPastLength r refl refl (sym (reads es) ∙ e)
    go true false true none reads = not-placed v (Interleaved m) (x ∷ es) LengthPastMaximum r refl refl (sym (reads es) ∙ e)
    go true false false none reads =
        by-table v (Interleaved m) m refl x none reads es r (toc v m.max_b 0 1 es) (toc-walk v m.max_b 0 1 es) (sym (reads es) ∙ e)

-- no payload is refused as one of a later group
pub never-later : (v : FrameTable) (f : Form) (p : List ℕ) (r : Refusal) → read_as v f p ≡ refused_payload r → eqb (number_of r) 12 ≡ false
never-later v f p r e = go r (faulted v f p r e)
  where
    go : (r : Refusal) → Faulted v f p r → eqb (number_of r) 12 ≡ false
    go r (unplaced _ n m) = m
    go r (cut_table i q c) = refl
    go r (reserved i q c k) = refl
    go r (full i q c k) = refl
    go r (cut_bodies i ts behind rest t h q) = refl
    go r (left_over i ts behind rest t h q) = refl
