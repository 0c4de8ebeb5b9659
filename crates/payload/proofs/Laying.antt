-- Where the frames of a payload that was read lie. Assumes nothing.
use Rattle.std.proofs.Common.{Option, Some, None, Err}
use Prim.Native.Nat.{ℕ, zero, suc, ◌+◌, ◌-◌, ◌≤◌, ◌<◌}
use mathlib.Core.Path.{◌≡◌, refl, sym, ap, ap₂, subst, ◌∙◌}
use mathlib.Core.List.{List, [], ◌∷◌, map}
use mathlib.Core.Bool.{Bool, true, false, cond}
use native.Mathlib.Omega.{arith}
use native.Mathlib.Nat.{add-zero, zero-add, add_comm, le_of_suc-le-suc}
use native.Mathlib.Numerals.{add-one, one-add}
use lib.ListN.{length, take, drop, get_or, length-drop, length-map, length-take, get_or-map}
use lib.Seq.{length-take-le, take-take, get_or-take, drop-drop, get_or-drop, take_all}
use lib.Dec.{T, ltb}
use borrow.Author.Tests.{ltb-false}
use Rattle.answers.proofs.Exits.{same_ok}
use Rattle.octets.proofs.Logic.{apart}
use Rattle.octets.proofs.OctetsLaws.{part-is}
use Rattle.frame.specs.FrameTable.{FrameTable, Frame, size, within, row_of_size}
use Rattle.frame.specs.Places.{taken, frame_at, located_of, lies_at}
use Rattle.form.specs.Agreed.{in_range}
use Rattle.form.specs.declared.Limits.{Limits}
use Rattle.frame.specs.declared.Row.{Row}
use Rattle.form.specs.declared.Form.{Form}
use Rattle.form.specs.declared.Form.TheVariants.{HeaderFree, Interleaved}
use Rattle.answers.specs.declared.Refusal.{Refusal}
use Rattle.answers.specs.declared.Refusal.TheVariants.{NotApplicable}
use Rattle.form.proofs.AgreedLaws.{range-bounds}
use Rattle.frame.proofs.PlacesLaws.{Laid, LaidIn, asked-refused, asked-past, asked}
use Rattle.frame.specs.Entry.{type_of}
use Rattle.frame.proofs.FrameTableLaws.{size-within}
use Rattle.bundle.proofs.LaidOutLaws.{Short}
use Rattle.payload.specs.Payload.{Reading, packet, refused_payload, Toc, contents, fault, toc, total, cut, bodies, interleaved}
use Rattle.payload.specs.Payload.{one_body, read_as, l_of, n_of}
use Rattle.payload.specs.Shown.{contents_of, given_of, given_as, holds_packet}
use Rattle.payload.specs.declared.Contents.{Contents}
use Rattle.payload.proofs.Tables.{Whole, Sound, toc-sound}
use Rattle.payload.proofs.Checks.{length_cut}

-- ---- sums of sizes
total-suc : (v : FrameTable) (ts : List ℕ) (k : ℕ) → k < length ts → total v (take (suc k) ts) ≡ total v (take k ts) + size v (get_or ts k 0)
total-suc v [] k h = absurd (omega arith)
total-suc v (t ∷ ts) zero h = omega arith
total-suc v (t ∷ ts) (suc k) h = let i = total-suc v ts k (le_of_suc-le-suc h) in omega arith

total-le : (v : FrameTable) (ts : List ℕ) (j k : ℕ) → j ≤ k → total v (take j ts) ≤ total v (take k ts)
total-le v ts zero k h = omega arith
total-le v ts (suc j) zero h = absurd (omega arith)
total-le v [] (suc j) (suc k) h = omega arith
total-le v (t ∷ ts) (suc j) (suc k) h = let i = total-le v ts j k (le_of_suc-le-suc h) in omega arith

-- entry i of the table of contents
pub type_at : (p : List ℕ) (i : ℕ) → get_or (map type_of (drop 1 p)) i 0 ≡ type_of (get_or p (i + 1) 0)
type_at p i = get_or-map type_of (drop 1 p) i 0 ∙ ap type_of (get_or-drop 1 p i 0 ∙ ap (λ (k : ℕ). get_or p k 0) (add_comm 1 i))

pub start-next : (v : FrameTable) (p : List ℕ) (i : ℕ) → i + 1 < length p →
    total v (take (i + 1) (map type_of (drop 1 p))) ≡ total v (take i (map type_of (drop 1 p))) + size v (type_of (get_or p (i + 1) 0))
start-next v p i h =
    rw (← type_at p i, add-one)
    (total-suc v (map type_of (drop 1 p)) i (omega (arith, length-map (drop 1 p) type_of, length-drop 1 p)))

-- ---- the frames that are cut
cut-type : (v : FrameTable) (ts bs : List ℕ) (k : ℕ) → (frame_at (cut v ts bs) k).type ≡ get_or ts k 0
cut-type v [] bs k = refl
cut-type v (t ∷ ts) bs zero = refl
cut-type v (t ∷ ts) bs (suc k) = cut-type v ts (drop (size v t) bs) k

cut-body : (v : FrameTable) (ts bs : List ℕ) (k : ℕ) → k < length ts
    → (frame_at (cut v ts bs) k).body ≡ take (size v (get_or ts k 0)) (drop (total v (take k ts)) bs)
cut-body v [] bs k h = absurd (omega arith)
cut-body v (t ∷ ts) bs zero h = refl
cut-body v (t ∷ ts) bs (suc k) h =
    cut-body v ts (drop (size v t) bs) k (le_of_suc-le-suc h)
    ∙ ap (take (size v (get_or ts k 0))) (drop-drop (total v (take k ts)) (size v t) bs)

cut_short : (v : FrameTable) (z : ℕ) → T (within z v) → (ts bs : List ℕ) → Short z (cut v ts bs)
cut_short v z w [] bs = tt
cut_short v z w (t ∷ ts) bs =
    (omega (arith, size-within z v t w, length-take (size v t) bs), cut_short v z w ts (drop (size v t) bs))

pub cut-size : (v : FrameTable) (ts bs : List ℕ) (k : ℕ) → total v ts ≤ length bs → k < length ts → length (frame_at (cut v ts bs) k).body ≡ size v (get_or ts k 0)
cut-size v [] bs k h q = absurd (omega arith)
cut-size v (t ∷ ts) bs zero h q = length-take-le (size v t) bs (omega arith)
cut-size v (t ∷ ts) bs (suc k) h q =
    cut-size v ts (drop (size v t) bs) k (omega (arith, length-drop (size v t) bs)) (le_of_suc-le-suc q)

pub cut-taken : (v : FrameTable) (ts bs : List ℕ) (k : ℕ) → total v ts ≤ length bs → taken 0 (take k (cut v ts bs)) ≡ total v (take k ts)
cut-taken v ts bs zero h = refl
cut-taken v [] bs (suc k) h = refl
cut-taken v (t ∷ ts) bs (suc k) h =
    ap₂ ◌+◌ (zero-add _ ∙ length-take-le (size v t) bs (omega arith))
    (cut-taken v ts (drop (size v t) bs) k (omega (arith, length-drop (size v t) bs)))

cut-laid : (v : FrameTable) (ts : List ℕ) (p : List ℕ) (h : ℕ) → h + total v ts ≤ length p → Laid p h 0 (cut v ts (drop h p))
cut-laid v [] p h q = tt
cut-laid v (t ∷ ts) p h q =
    let n : length (take (size v t) (drop h p)) ≡ size v t = length-take-le (size v t) (drop h p) (omega (arith, length-drop h p)) in
    let i = cut-laid v ts p (h + size v t) (omega arith) in (
      rw (n, add-zero),
      omega arith,
      rw (n, add-zero, drop-drop (size v t) h p) i,
    )

-- ---- a payload that was read as a packet
passed : (b : Bool) (f : Refusal) (x : Reading) (l n d : ℕ) (fs : List Frame) → cond b (refused_payload f) x ≡ packet l n d fs → (b ≡ false) × (x ≡ packet l n d fs)
passed true f x l n d fs e = apart (cc)
passed false f x l n d fs e = (refl, e)

-- octet 0, the table of contents and the bodies that its frames were cut from
pub record Framed (v : FrameTable) (m : Limits) (p : List ℕ) (l n d : ℕ) (fs : List Frame) : Type 0 where
  pub head : ℕ
  pub es : List ℕ
  pub ts : List ℕ
  pub behind : ℕ
  pub rest : List ℕ
  pub split : p ≡ head ∷ es
  pub range : in_range m ≡ true
  pub l_is : l_of head ≡ l
  pub n_is : n_of head ≡ n
  pub index : n_of head ≤ l_of head
  pub short : l_of head ≤ m.max_l
  pub toc_is : toc v m.max_b 0 1 es ≡ contents ts d behind rest
  pub whole : Whole m.max_b 0 1 es ts behind rest
  pub full : length rest ≡ total v ts
  pub frames : fs ≡ cut v ts rest

framed-table :
    (v : FrameTable) (m : Limits) (l n d x : ℕ) (es : List ℕ) (fs : List Frame) →
    in_range m ≡ true →
    n_of x ≤ l_of x →
    l_of x ≤ m.max_l →
    (w : Toc) →
    toc v m.max_b 0 1 es ≡ w →
    Sound m.max_b 0 1 es w →
    bodies v (l_of x) (n_of x) w ≡ packet l n d fs →
    Framed v m (x ∷ es) l n d fs
unfolding bodies
framed-table v m l n d x es fs g i s (fault f) q h e = apart (cc)
framed-table v m l n d x es fs g i s (contents ts d' at rest) q h e =
    let a = passed (ltb (length rest) (total v ts)) _ _ l n d fs e in
    let b = passed (ltb (total v ts) (length rest)) _ _ l n d fs a.1 in
    let z : d' ≡ d = cc b.1 in
    record {
      head = x;
      es = es;
      ts = ts;
      behind = at;
      rest = rest;
      split = refl;
      range = g;
      l_is = cc b.1;
      n_is = cc b.1;
      index = i;
      short = s;
      toc_is = q ∙ ap (λ (y : ℕ). contents ts y at rest) z;
      whole = h;
      full = omega (arith, ltb-false (length rest) (total v ts) a.0, ltb-false (total v ts) (length rest) b.0);
      frames = cc b.1;
    }

pub framed : (v : FrameTable) (m : Limits) (p : List ℕ) (l n d : ℕ) (fs : List Frame) → read_as v (Interleaved m) p ≡ packet l n d fs → Framed v m p l n d fs
unfolding read_as interleaved
framed v m p l n d fs e = at-range (in_range m) refl e
  where
    at-list : in_range m ≡ true → (q : List ℕ) → interleaved v m q ≡ packet l n d fs → Framed v m q l n d fs
    at-list g [] k = apart (cc)
    at-list g (x ∷ es) k =
        let a = passed (ltb (l_of x) (n_of x)) _ _ l n d fs k in
        let b = passed (ltb m.max_l (l_of x)) _ _ l n d fs a.1 in
        framed-table v m l n d x es fs g (ltb-false _ _ a.0) (ltb-false _ _ b.0) (toc v m.max_b 0 1 es) refl (toc-sound v m.max_b 0 1 es) b.1

    at-range : (b : Bool) → in_range m ≡ b → cond b (interleaved v m p) (refused_payload NotApplicable) ≡ packet l n d fs → Framed v m p l n d fs
    at-range true g k = at-list g p k
    at-range false g k = apart (cc)

-- its frames, of the types in the table of contents, lie one after the other behind that table and fill the payload
pub record Filled (v : FrameTable) (p : List ℕ) (fs : List Frame) (ts : List ℕ) : Type 0 where
  pub frames : fs ≡ cut v ts (drop (1 + length ts) p)
  pub types : ts ≡ take (length ts) (map type_of (drop 1 p))
  pub fills : 1 + length ts + total v ts ≡ length p
  pub many : length fs ≡ length ts
  pub few : length fs ≤ 10

module _ (v : FrameTable) (m : Limits) (p : List ℕ) (l n d : ℕ) (fs : List Frame) (o : Framed v m p l n d fs) where
  pub filled : Filled v p fs o.ts
  filled =
      let h = o.whole in
      let r : drop (length o.ts) o.es ≡ drop (1 + length o.ts) (o.head ∷ o.es) = simp one-add in
      let f : fs ≡ cut v o.ts (drop (1 + length o.ts) p) =
      o.frames ∙ ap (cut v o.ts) (h.follow ∙ r ∙ ap (drop (1 + length o.ts)) (sym o.split)) in
      let q = ap length f ∙ length_cut v o.ts (drop (1 + length o.ts) p) in
      record {
        frames = f;
        types = h.types ∙ ap (λ (q : List ℕ). take (length o.ts) (map type_of (drop 1 q))) (sym o.split);
        fills = omega (arith, o.full, ap length o.split, ap length h.follow, length-drop (length o.ts) o.es, h.within);
        many = q;
        few = omega (arith, q, h.few, (range-bounds m o.range).2);
      }

  framed-laid : Laid p (1 + length fs) 0 fs
  framed-laid =
      let x = filled in
      let i = cut-laid v o.ts p (1 + length o.ts) (omega (arith, x.fills)) in
      subst (λ (k : ℕ). Laid p (1 + k) 0 fs) (sym x.many) (subst (Laid p (1 + length o.ts) 0) (sym x.frames) i)

-- entry k and the bodies before body k, as the octets have them
abbrev pub type_in : List ℕ → ℕ → ℕ
type_in p k = type_of (get_or p (k + 1) 0)

abbrev pub before : FrameTable → List ℕ → ℕ → ℕ
before v p k = total v (take k (map type_of (drop 1 p)))

record Stands (v : FrameTable) (p : List ℕ) (fs : List Frame) (k : ℕ) : Type 0 where
  type : (frame_at fs k).type ≡ type_in p k
  start : taken 0 (take k fs) ≡ before v p k
  octets : length (frame_at fs k).body ≡ size v (type_in p k)
  entry : k + 1 < length p
  inside : 1 + length fs + before v p k ≤ length p

stands : (v : FrameTable) (m : Limits) (p : List ℕ) (l n d : ℕ) (fs : List Frame) (k : ℕ) → Framed v m p l n d fs → k < length fs → Stands v p fs k
stands v m p l n d fs k o h =
    let x = filled v m p l n d fs o in
    let ts = o.ts in
    let types = map type_of (drop 1 p) in
    let bs = drop (1 + length ts) p in
    let h' : k < length ts = omega (arith, x.many) in
    let fit : total v ts ≤ length bs = omega (arith, x.fills, length-drop (1 + length ts) p) in
    let t : get_or ts k 0 ≡ type_in p k = ap (λ (q : List ℕ). get_or q k 0) x.types ∙ get_or-take (length ts) types k 0 h' ∙ type_at p k in
    record {
      type = ap (λ (q : List Frame). (frame_at q k).type) x.frames ∙ cut-type v ts bs k ∙ t;
      start = ap (λ (q : List Frame). taken 0 (take k q)) x.frames
          ∙ cut-taken v ts bs k fit
          ∙ ap (λ (q : List ℕ). total v (take k q)) x.types
          ∙ ap (total v) (take-take k (length ts) types (omega arith));
      octets = ap (λ (q : List Frame). length (frame_at q k).body) x.frames ∙ cut-size v ts bs k fit h' ∙ ap (size v) t;
      entry = omega (arith, x.fills, x.many);
      inside = omega (arith, x.fills, x.many, total-le v types k (length ts) (omega arith), ap (total v) x.types);
    }

-- ---- b frames along their entries and their bodies
module _ (v : FrameTable) (p : List ℕ) (b : ℕ) where
  abbrev pub framesAlong : List Frame
  framesAlong = cut v (take b (map type_of (drop 1 p))) (drop (1 + b) p)

  -- frame k of them, where body k begins at `start`
  pub record Along (start k : ℕ) : Type 0 where
    pub entry : k + 1 < length p
    pub type : type_in p k ≡ (frame_at framesAlong k).type
    pub body : take (size v (type_in p k)) (drop start p) ≡ (frame_at framesAlong k).body
    pub inside : start + size v (type_in p k) ≤ length p
    pub next : start + size v (type_in p k) ≡ 1 + b + before v p (k + 1)

  -- its body, as the code cuts it
  pub piece : (start k z : ℕ) → Along start k → z ≡ size v (type_in p k) → take (start + z - start) (drop start p) ≡ (frame_at framesAlong k).body
  piece start k z a e = part-is p start z ∙ ap (λ (i : ℕ). take i (drop start p)) e ∙ a.body

  module _ (fits : 1 + b + total v (take b (map type_of (drop 1 p))) ≤ length p) where
    types_long : length (take b (map type_of (drop 1 p))) ≡ b
    types_long = length-take-le b (map type_of (drop 1 p)) (omega (arith, length-map (drop 1 p) type_of, length-drop 1 p))

    pub many-along : length framesAlong ≡ b
    many-along = length_cut v (take b (map type_of (drop 1 p))) (drop (1 + b) p) ∙ types_long

    -- none of them is longer than a cell
    pub along-short : (z : ℕ) → T (within z v) → Short z framesAlong
    along-short z w = cut_short v z w (take b (map type_of (drop 1 p))) (drop (1 + b) p)

    pub along : (start k : ℕ) → k < b → start ≡ 1 + b + before v p k → Along start k
    along start k h e =
        let types = map type_of (drop 1 p) in
        let ts = take b types in
        let q : k < length ts = omega (arith, types_long) in
        let t : get_or ts k 0 ≡ type_in p k = get_or-take b types k 0 h ∙ type_at p k in
        let s : total v (take k ts) ≡ before v p k = ap (total v) (take-take k b types (omega arith)) in
        let n = start-next v p k (omega arith) in
        let m = total-le v types (k + 1) b (omega arith) in
        record {
          entry = omega arith;
          type = sym (cut-type v ts (drop (1 + b) p) k ∙ t);
          body = sym (cut-body v ts (drop (1 + b) p) k q
              ∙ ap₂ (λ (z i : ℕ). take (size v z) (drop i (drop (1 + b) p))) t s
              ∙ ap (take (size v (type_in p k))) (drop-drop (before v p k) (1 + b) p ∙ ap (λ (i : ℕ). drop i p) (sym e)));
          inside = omega arith;
          next = omega arith;
        }

-- ---- frame k is asked of a type 1 payload
pub show-refused : (f : Form) (w : Reading) (k : ℕ) (r : Refusal) → Err r ≡ contents_of w → Err r ≡ located_of (given_of f w) k
unfolding contents_of given_of
show-refused f (refused_payload x) k r e = let q : r ≡ x = cc in ap Err q ∙ asked-refused x k
show-refused f (packet l n d fs) k r e = apart (cc)

pub show-past : (f : Form) (w : Reading) (k l n b d : ℕ) → holds_packet l n b d ≡ contents_of w → b ≤ k → Err NotApplicable ≡ located_of (given_of f w) k
unfolding contents_of given_of
show-past f (refused_payload x) k l n b d e h = apart (cc)
show-past f (packet l' n' d' fs) k l n b d e h = let q = ap (λ (c : Contents). c.b) (same_ok _ _ e) in asked-past _ _ fs k (omega (arith, q))

pub record Shows (v : FrameTable) (m : Limits) (p : List ℕ) (k b : ℕ) : Type 0 where
  pub place : lies_at (type_in p k) (1 + b + before v p k) (size v (type_in p k)) ≡ located_of (given_as v (Interleaved m) p) k
  pub entry : k + 1 < length p
  pub few : b ≤ 10
  pub inside : 1 + b + before v p k ≤ length p

pub shows : (v : FrameTable) (m : Limits) (p : List ℕ) (k l n b d : ℕ) → holds_packet l n b d ≡ contents_of (read_as v (Interleaved m) p) → k < b → Shows v m p k b
unfolding contents_of given_of given_as
shows v m p k l n b d e h = go (read_as v (Interleaved m) p) refl e
  where
    go : (w : Reading) → read_as v (Interleaved m) p ≡ w → holds_packet l n b d ≡ contents_of w → Shows v m p k b
    go (refused_payload f) q x = apart (cc)
    go (packet l' n' d' fs) q x =
        let c : b ≡ length fs = ap (λ (c : Contents). c.b) (same_ok _ _ x) in
        let h' : k < length fs = omega arith in
        let o = framed v m p l' n' d' fs q in
        let s = stands v m p l' n' d' fs k o h' in
        let z : 1 + b + before v p k ≡ 1 + length fs + taken 0 (take k fs) + 0 = omega (arith, s.start) in
        record {
          place = rw q (cc (s.type, s.octets, z, asked (1 + length fs) 0 fs k h'));
          entry = s.entry;
          few = omega (arith, (filled v m p l' n' d' fs o).few);
          inside = omega (arith, s.inside);
        }

-- ---- what a payload gives lies in it
free-laid : (l : Option Row) (p : List ℕ) → LaidIn p (given_of HeaderFree (one_body l p))
unfolding given_of one_body
free-laid None p = tt
free-laid (Some r) p = (take_all (length p) p (omega arith), omega arith, tt)

in-laid : (v : FrameTable) (m : Limits) (p : List ℕ) (w : Reading) → read_as v (Interleaved m) p ≡ w → LaidIn p (given_of (Interleaved m) w)
unfolding given_of
in-laid v m p (refused_payload f) e = tt
in-laid v m p (packet l n d fs) e = framed-laid v m p l n d fs (framed v m p l n d fs e)

pub laid_as : (v : FrameTable) (f : Form) (p : List ℕ) → LaidIn p (given_as v f p)
unfolding read_as given_as
laid_as v HeaderFree p = free-laid (row_of_size v (length p)) p
laid_as v (Interleaved m) p = in-laid v m p (read_as v (Interleaved m) p) refl
