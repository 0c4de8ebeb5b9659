-- Laws of frame k of these frames, for payloads and recordings alike. Assumes nothing.
use Rattle.std.proofs.Common.{Result, Err}
use Prim.Native.Nat.{ℕ, zero, suc, ◌+◌, ◌-◌, ◌≤◌, ◌<◌}
use mathlib.Core.Path.{◌≡◌, refl, sym, ap, ◌∙◌}
use mathlib.Core.List.{List, [], ◌∷◌, ◌++◌}
use mathlib.Core.Bool.{Bool, true, false, cond}
use mathlib.Core.Logic.{⊎_elim}
use native.Mathlib.Nat.{zero-add, le_of_suc-le-suc, eq-or-lt_of_le}
use native.Mathlib.Numerals.{add-one}
use native.Mathlib.Omega.{arith}
use lib.Dec.{ltb}
use lib.ListN.{length, take, drop, get_or, length-append, get_or-eq_default, get_or-append}
use lib.Seq.{get_or_at}
use denote.Ref.{Bor}
use borrow.Author.Tests.{le-leb, lt-leb, lt-ltb, le-ltb, ltb-true, ltb-false}
use Rattle.octets.proofs.Logic.{apart}
use Rattle.octets.proofs.OctetsLaws.{part-is}
use Rattle.answers.specs.declared.Refusal.{Refusal}
use Rattle.answers.specs.declared.Refusal.TheVariants.{NotApplicable}
use Rattle.frame.specs.FrameTable.{Frame, types_of, Every}
use Rattle.frame.specs.Places.{up_to, Given, frames, refused_frames, taken, frame_at, no_frame, located_of, body_of, start_of, size_of, lies_at}
use Rattle.frame.specs.Places.{lies_in, part_of, part_start, VeryPart}
use Rattle.frame.specs.declared.Located.{Located}

-- ---- the first n of a sequence
module _ {A : Type 0} (f : ℕ → A) where
  pub length-upTo : (n : ℕ) → length (up_to f n) ≡ n
  unfolding up_to
  length-upTo zero = refl
  length-upTo (suc n) = let i = length-upTo n in simp length-append (omega arith)

  pub upTo-more : (n : ℕ) → up_to f (n + 1) ≡ up_to f n ++ (f n ∷ [])
  unfolding up_to
  upTo-more n = rw (add-one n)

  pub upTo-at : (n k : ℕ) (d : A) → k < n → get_or (up_to f n) k d ≡ f k
  unfolding up_to
  upTo-at zero k d h = absurd (omega arith)
  upTo-at (suc n) k d h =
      ⊎_elim (λ (q : k ≡ n). get_or_at (up_to f n) (f n) [] d k (length-upTo n ∙ sym q) ∙ ap f (sym q))
      (λ (q : k < n). get_or-append (up_to f n) (f n ∷ []) d k (omega (arith, length-upTo n)) ∙ upTo-at n k d q)
      (eq-or-lt_of_le (le_of_suc-le-suc h))

-- its first is the first of the sequence
pub up_to-first : {A : Type 0} (f : ℕ → A) (n : ℕ) → up_to f (suc n) ≡ f 0 ∷ up_to (λ i. f (suc i)) n
unfolding up_to
up_to-first f zero = refl
up_to-first f (suc n) = ap (λ l. l ++ (f (suc n) ∷ [])) (up_to-first f n)

-- ---- the types of frames
pub types-at : (fs : List Frame) (k : ℕ) → get_or (types_of fs) k 0 ≡ (frame_at fs k).type
types-at [] k = refl
types-at (f ∷ fs) zero = refl
types-at (f ∷ fs) (suc k) = types-at fs k

pub length_types : (fs : List Frame) → length (types_of fs) ≡ length fs
length_types [] = refl
length_types (f ∷ fs) = ap suc (length_types fs)

-- ---- what each of some frames is
pub every-at : (P : Frame → Type 0) (fs : List Frame) (k : ℕ) → Every P fs → k < length fs → P (frame_at fs k)
every-at P [] k w h = absurd (omega arith)
every-at P (f ∷ fs) zero w h = w.0
every-at P (f ∷ fs) (suc k) w h = every-at P fs k w.1 (omega arith)

pub every_append : (P : Frame → Type 0) (fs gs : List Frame) → Every P fs → Every P gs → Every P (fs ++ gs)
every_append P [] gs a b = b
every_append P (f ∷ fs) gs a b = (a.0, every_append P fs gs a.1 b)

pub every-up_to : (P : Frame → Type 0) (f : ℕ → Frame) (n : ℕ) → ((k : ℕ) → k < n → P (f k)) → Every P (up_to f n)
unfolding up_to
every-up_to P f zero h = tt
every-up_to P f (suc n) h = every_append P (up_to f n) (f n ∷ []) (every-up_to P f n (λ k q. h k (omega arith))) (h n (omega arith), tt)

pub every-so : (P Q : Frame → Type 0) → ((f : Frame) → P f → Q f) → (fs : List Frame) → Every P fs → Every Q fs
every-so P Q h [] a = tt
every-so P Q h (f ∷ fs) a = (h f a.0, every-so P Q h fs a.1)

-- ---- a part
not_there : (l : Result Located Refusal) (p : List ℕ) → lies_in l p ≡ false → ([] ≡ part_of l p) × (0 ≡ part_start l p)
unfolding part_of part_start
not_there l p e = (rw e, rw e)

there : (l : Result Located Refusal) (p : List ℕ) → lies_in l p ≡ true → (take (size_of l) (drop (start_of l) p) ≡ part_of l p) × (start_of l ≡ part_start l p)
unfolding part_of part_start
there l p e = (rw e, rw e)

module _ (t s z : ℕ) (p : List ℕ) where
  pub starts-past : length p < s → lies_in (lies_at t s z) p ≡ false
  unfolding lies_in
  starts-past h = simp (lt-leb _ _ h)

  pub ends-past : s ≤ length p → length p - s < z → lies_in (lies_at t s z) p ≡ false
  unfolding lies_in
  ends-past h k = simp (le-leb _ _ h, lt-leb _ _ k)

  inside : s + z ≤ length p → lies_in (lies_at t s z) p ≡ true
  unfolding lies_in
  inside h =
      let a : s ≤ length p = omega arith in
      let b : z ≤ length p - s = omega arith in
      simp (le-leb _ _ a, le-leb _ _ b)

-- a reference to no octets, at the beginning; and one to the octets from s to s + z
pub no_part : (o r : Bor (List ℕ)) (l : Result Located Refusal) → lies_in l o.now ≡ false → r.now ≡ [] → r.ref_ptr ≡ o.ref_ptr → VeryPart o (part_start l o.now) (part_of l o.now) r
no_part o r l e h q =
    let j = not_there l o.now e in
    record {
      holds = h ∙ j.0;
      lies = q ∙ ap (λ (i : ℕ). (o.ref_ptr.0, i)) (sym (zero-add o.ref_ptr.1) ∙ ap (λ (s : ℕ). s + o.ref_ptr.1) j.1);
    }

pub very-part :
    (o r : Bor (List ℕ)) (t s z : ℕ) →
    s + z ≤ length o.now →
    r.now ≡ take (s + z - s) (drop s o.now) →
    r.ref_ptr ≡ (o.ref_ptr.0, s + o.ref_ptr.1) →
    VeryPart o (part_start (lies_at t s z) o.now) (part_of (lies_at t s z) o.now) r
very-part o r t s z h e q =
    let j = there (lies_at t s z) o.now (inside t s z o.now h) in
    record {
      holds = e ∙ part-is o.now s z ∙ j.0;
      lies = q ∙ ap (λ (i : ℕ). (o.ref_ptr.0, i + o.ref_ptr.1)) j.1;
    }

-- ---- frames that lie in a list of octets, one after the other
abbrev pub Laid : List ℕ → ℕ → ℕ → List Frame → Type 0
Laid p head gap [] = Unit {0}
Laid p head gap (f ∷ fs) =
    (take (length f.body) (drop (head + gap) p) ≡ f.body) × (head + gap + length f.body ≤ length p) ×
    Laid p (head + gap + length f.body) gap fs

-- frame k of them
pub record Lies (p : List ℕ) (start : ℕ) (b : List ℕ) : Type 0 where
  pub part : take (length b) (drop start p) ≡ b
  pub within : start + length b ≤ length p

lies : (p : List ℕ) (head gap : ℕ) (fs : List Frame) (k : ℕ) → Laid p head gap fs → k < length fs → Lies p (head + taken gap (take k fs) + gap) (frame_at fs k).body
lies p head gap [] k h q = absurd (omega arith)
lies p head gap (f ∷ fs) zero h q =
    let e : head + 0 + gap ≡ head + gap = omega arith in
    record { part = ap (λ (i : ℕ). take (length f.body) (drop i p)) e ∙ h.0; within = omega (arith, h.1) }
lies p head gap (f ∷ fs) (suc k) h q =
    let i = lies p (head + gap + length f.body) gap fs k h.2 (le_of_suc-le-suc q) in
    let e : head + (gap + length f.body + taken gap (take k fs)) + gap ≡ head + gap + length f.body + taken gap (take k fs) + gap = omega arith in
    rw e i

-- what a reader gives lies in the octets it was given
abbrev pub LaidIn : List ℕ → Given → Type 0
LaidIn p (frames head gap fs) = Laid p head gap fs
LaidIn p (refused_frames f) = Unit {0}

-- so the part of a located frame is its body, and starts where it was said to; of a refusal it is empty
part_body : (p : List ℕ) (g : Given) (k : ℕ) → LaidIn p g → (part_of (located_of g k) p ≡ body_of g k) × (part_start (located_of g k) p ≡ start_of (located_of g k))
unfolding located_of body_of lies_in
part_body p (refused_frames f) k h = let j = not_there (Err f) p refl in (sym j.0, sym j.1)
part_body p (frames head gap fs) k h = go (ltb k (length fs)) refl
  where
    go :
        (b : Bool) →
        ltb k (length fs) ≡ b →
        (part_of (located_of (frames head gap fs) k) p ≡ body_of (frames head gap fs) k)
        × (part_start (located_of (frames head gap fs) k) p ≡ start_of (located_of (frames head gap fs) k))
    go true e =
        let i = lies p head gap fs k h (ltb-true _ _ e) in
        let j = there (lies_at (frame_at fs k).type (head + taken gap (take k fs) + gap) (length (frame_at fs k).body)) p (inside (frame_at fs k).type _ _ p i.within) in
        rw e (sym j.0 ∙ i.part, sym j.1)
    go false e =
        let j = not_there (Err NotApplicable) p refl in
        rw e (sym j.0 ∙ sym (ap (λ (x : Frame). x.body) (get_or-eq_default fs no_frame (ltb-false _ _ e))), sym j.1)

pub very-body :
    (o r : Bor (List ℕ)) (g : Given) (k : ℕ) (l : Result Located Refusal) →
    LaidIn o.now g →
    l ≡ located_of g k →
    VeryPart o (part_start l o.now) (part_of l o.now) r →
    VeryPart o (start_of (located_of g k)) (body_of g k) r
very-body o r g k l h e x =
    let j = part_body o.now g k h in
    record {
      holds = x.holds ∙ ap (λ (m : Result Located Refusal). part_of m o.now) e ∙ j.0;
      lies = x.lies ∙ ap (λ (i : ℕ). (o.ref_ptr.0, i + o.ref_ptr.1)) (ap (λ (m : Result Located Refusal). part_start m o.now) e ∙ j.1);
    }

-- frame k is asked for
pub asked-refused : (r : Refusal) (k : ℕ) → Err r ≡ located_of (refused_frames r) k
unfolding located_of
asked-refused r k = refl

pub asked-past : (head gap : ℕ) (fs : List Frame) (k : ℕ) → length fs ≤ k → Err NotApplicable ≡ located_of (frames head gap fs) k
unfolding located_of
asked-past head gap fs k h = rw (le-ltb _ _ h)

pub asked : (head gap : ℕ) (fs : List Frame) (k : ℕ) → k < length fs →
    lies_at (frame_at fs k).type (head + taken gap (take k fs) + gap) (length (frame_at fs k).body) ≡ located_of (frames head gap fs) k
unfolding located_of
asked head gap fs k h = rw (lt-ltb _ _ h)

-- where frame k is said to lie, by whether there is one
abbrev pub place_if : ℕ → ℕ → List Frame → ℕ → Bool → Result Located Refusal
place_if head gap fs k b =
    cond b (lies_at (frame_at fs k).type (head + taken gap (take k fs) + gap) (length (frame_at fs k).body)) (Err NotApplicable)

-- "A refusal's part is empty."
pub refusal-empty : (g : Given) (k : ℕ) (r : Refusal) → Err r ≡ located_of g k → body_of g k ≡ []
unfolding located_of body_of
refusal-empty (refused_frames f) k r e = refl
refusal-empty (frames head gap fs) k r e = go (ltb k (length fs)) refl e
  where
    go : (b : Bool) → ltb k (length fs) ≡ b → Err r ≡ place_if head gap fs k b → (frame_at fs k).body ≡ []
    go true q x = apart (cc)
    go false q x = ap (λ (f : Frame). f.body) (get_or-eq_default fs no_frame (ltb-false _ _ q))
