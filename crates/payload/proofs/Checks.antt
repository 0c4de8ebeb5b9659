-- Reading a payload, a check at a time: each law is the answer of one way out of the readers. Assumes nothing.
use Rattle.std.proofs.Common.{Some, None, Ok, Err}
use Prim.Native.Nat.{ℕ, suc, ◌+◌, ◌-◌, ◌≤◌, ◌<◌}
use mathlib.Core.Path.{◌≡◌, refl, sym, ap, ap₂, ◌∙◌}
use mathlib.Core.List.{List, [], ◌∷◌, map}
use mathlib.Core.Bool.{cond}
use native.Mathlib.Omega.{arith}
use lib.Dec.{ltb}
use lib.ListN.{length, take, drop, length-drop}
use Rattle.std.specs.List.{slice_get}
use lib.Seq.{drop-drop}
use borrow.Author.Tests.{lt-ltb, le-ltb}
use Rattle.frame.specs.Entry.{type_of}
use Rattle.frame.specs.FrameTable.{FrameTable, size}
use Rattle.form.specs.Agreed.{opened}
use Rattle.form.specs.declared.Limits.{Limits}
use Rattle.form.specs.declared.Form.TheVariants.{Interleaved}
use Rattle.answers.specs.declared.Refusal.{Refusal}
use Rattle.answers.specs.declared.Refusal.TheVariants.{NoOctet, IndexPastLength, LengthPastMaximum, BodiesCut, OctetsLeft}
use Rattle.form.proofs.AgreedLaws.{opened-agreed, opened-refused, range-bounds}
use Rattle.octets.proofs.Logic.{apart}
use Rattle.payload.specs.Payload.{Reading, refused_payload, Toc, contents, fault, toc, total, cut, first_cut, bodies, interleaved}
use Rattle.payload.specs.Payload.{read_as, l_of, n_of}
use Rattle.payload.specs.Shown.{contents_of, walked, holds_packet, whole_table}
use Rattle.payload.proofs.Tables.{Counted, counted}

headed : FrameTable → Limits → ℕ → List ℕ → Reading
headed v m h es =
    cond (ltb (l_of h) (n_of h)) (refused_payload IndexPastLength)
    (cond (ltb m.max_l (l_of h)) (refused_payload LengthPastMaximum)
    (bodies v (l_of h) (n_of h) (toc v m.max_b 0 1 es)))

has-head : (v : FrameTable) (m : Limits) (p : List ℕ) (x : ℕ) → slice_get p 0 ≡ Some x → interleaved v m p ≡ headed v m x (drop 1 p)
unfolding headed interleaved
has-head v m [] x h = apart (cc)
has-head v m (y ∷ p) x h = let e : y ≡ x = cc in rw e refl

pub length_cut : (v : FrameTable) (ts bs : List ℕ) → length (cut v ts bs) ≡ length ts
length_cut v [] bs = refl
length_cut v (t ∷ ts) bs = ap suc (length_cut v ts (drop (size v t) bs))

pub no-octet : (v : FrameTable) (m : Limits) (p : List ℕ) → slice_get p 0 ≡ None → Err NoOctet ≡ contents_of (interleaved v m p)
unfolding interleaved contents_of
no-octet v m [] h = refl
no-octet v m (x ∷ p) h = apart (cc)

-- octet 0 is there
module _ (v : FrameTable) (m : Limits) (p : List ℕ) (x : ℕ) (h : slice_get p 0 ≡ Some x) where
  pub n-above : l_of x < n_of x → Err IndexPastLength ≡ contents_of (interleaved v m p)
  unfolding headed contents_of
  n-above a = rw (has-head v m p x h, lt-ltb _ _ a)

  module _ (n : n_of x ≤ l_of x) where
    pub l-above : m.max_l < l_of x → Err LengthPastMaximum ≡ contents_of (interleaved v m p)
    unfolding headed contents_of
    l-above a = rw (has-head v m p x h) (simp (le-ltb _ _ n, lt-ltb _ _ a))

    -- the checks before the walk are passed
    module _ (l : l_of x ≤ m.max_l) where
      begun : interleaved v m p ≡ bodies v (l_of x) (n_of x) (toc v m.max_b 0 1 (drop 1 p))
      unfolding headed
      begun = has-head v m p x h ∙ simp (le-ltb _ _ n, le-ltb _ _ l)

      pub at-fault : (r : Refusal) → Err r ≡ walked v (toc v m.max_b 0 1 (drop 1 p)) → Err r ≡ contents_of (interleaved v m p)
      unfolding walked bodies contents_of
      at-fault r e = sym (ap contents_of begun ∙ go (toc v m.max_b 0 1 (drop 1 p)) e)
        where
          go : (w : Toc) → Err r ≡ walked v w → contents_of (bodies v (l_of x) (n_of x) w) ≡ Err r
          go (contents ts d at rest) q = apart (cc)
          go (fault f) q = cc

      -- the walk went through
      module _ (c s d : ℕ) (e : whole_table c s d ≡ walked v (toc v m.max_b 0 1 (drop 1 p))) where
        yields : Counted v m.max_b (drop 1 p) (toc v m.max_b 0 1 (drop 1 p)) c s d
        yields = counted v m.max_b (drop 1 p) c s d e

        left : length yields.rest ≡ length p - 1 - c
        left = yields.left ∙ ap (λ (n : ℕ). n - c) (length-drop 1 p)

        pub bodies-cut : (at : ℕ)
            → (length p - 1 - c < total v (take c (map type_of (drop 1 p))) → at ≡ first_cut v (1 + c) (take c (map type_of (drop 1 p))) (drop (1 + c) p))
            → length p - 1 - c < s → Err (BodiesCut at) ≡ contents_of (interleaved v m p)
        unfolding bodies contents_of
        bodies-cut at q k =
            let a : length yields.rest < total v yields.ts = omega (arith, left, yields.octets) in
            let f : yields.rest ≡ drop (1 + c) p = yields.follow ∙ drop-drop c 1 p in
            let t : s ≡ total v (take c (map type_of (drop 1 p))) = yields.octets ∙ ap (total v) yields.types in
            rw (begun, yields.is, lt-ltb _ _ a) (ap (λ (i : ℕ). Err (BodiesCut i)) (rw (yields.begins, yields.types, f) (q (omega arith))))

        pub octets-left : s < length p - 1 - c → Err (OctetsLeft (1 + c + s)) ≡ contents_of (interleaved v m p)
        unfolding bodies contents_of
        octets-left k =
            let a : total v yields.ts < length yields.rest = omega (arith, left, yields.octets) in
            let b : total v yields.ts ≤ length yields.rest = omega arith in
            rw begun (simp (yields.is, le-ltb _ _ b, lt-ltb _ _ a) (ap₂ (λ (i j : ℕ). Err (OctetsLeft (i + j))) (sym yields.begins) yields.octets))

        pub exact : s ≤ length p - 1 - c → length p - 1 - c ≤ s → holds_packet (l_of x) (n_of x) c d ≡ contents_of (interleaved v m p)
        unfolding bodies contents_of
        exact j k =
            let a : total v yields.ts ≤ length yields.rest = omega (arith, left, yields.octets) in
            let b : length yields.rest ≤ total v yields.ts = omega (arith, left, yields.octets) in
            rw begun (simp (yields.is, le-ltb _ _ a, le-ltb _ _ b, length_cut) (ap (λ (b : ℕ). holds_packet (l_of x) (n_of x) b d) yields.count))

-- type 1, with the limits opened
pub not_opened : (v : FrameTable) (m : Limits) (p : List ℕ) (r : Refusal) → opened m.max_l m.max_b ≡ Err r → Err r ≡ contents_of (read_as v (Interleaved m) p)
unfolding read_as contents_of
not_opened v m p r e = let h = opened-refused m r e in rw h.0 (ap Err h.1)

pub is-opened : (v : FrameTable) (m a : Limits) (p : List ℕ) → opened m.max_l m.max_b ≡ Ok a → contents_of (interleaved v a p) ≡ contents_of (read_as v (Interleaved m) p)
unfolding read_as
is-opened v m a p e = let h = opened-agreed m a e in rw h.0 (ap (λ (x : Limits). contents_of (interleaved v x p)) h.1)

pub opened-few : (m a : Limits) → opened m.max_l m.max_b ≡ Ok a → a.max_b ≤ 10
opened-few m a e = let h = opened-agreed m a e in rw h.1 (range-bounds m h.0).2
