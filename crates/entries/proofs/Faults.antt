-- Where entries that are refused are at fault, and what stands before that place. Assumes nothing.
use Rattle.std.proofs.Common.{Some}
use Prim.Native.Nat.{ℕ, zero, suc, ◌+◌, ◌≤◌, ◌<◌}
use mathlib.Core.Path.{◌≡◌, refl, sym, ap, subst, ◌∙◌}
use mathlib.Core.Logic.{◌⊎◌, inl, inr}
use mathlib.Core.List.{List, [], ◌∷◌}
use mathlib.Core.Bool.{Bool, true, false}
use native.Mathlib.Omega.{arith}
use lib.Dec.{ltb}
use lib.ListN.{length, take, drop, get_or, length-drop}
use lib.Seq.{length-take-le, take-take, get_or-drop}
use borrow.Author.Tests.{ltb-true, le-ltb}
use Rattle.octets.proofs.Logic.{apart}
use Rattle.octets.proofs.OctetsLaws.{drop-take, part-is}
use Rattle.frame.specs.FrameTable.{Frame, known, size}
use Rattle.answers.specs.Answers.{number_of, place_of}
use Rattle.answers.specs.declared.Refusal.{Refusal}
use Rattle.answers.specs.declared.Refusal.TheVariants.{ReservedType, BodyCut}
use Rattle.entries.specs.Kind.{Kind}
use Rattle.entries.specs.Entries.{EntriesRead, frames, refused_entries, frame_of, entries}
use Rattle.entries.proofs.Walking.{entry_if, entries_at}

-- what a refusal says of the entry octet at n: for 5 its type is reserved, for 19 it is known, and its body longer than what follows
pub record Blames (kind : Kind) (p : List ℕ) (r : Refusal) (n : ℕ) : Type 0 where
  pub number : number_of r ≡ 5 ⊎ number_of r ≡ 19
  pub inside : n < length p
  pub reserved : number_of r ≡ 5 → known kind.table (kind.type_of (get_or p n 0)) ≡ false
  pub cut : number_of r ≡ 19 →
      (known kind.table (kind.type_of (get_or p n 0)) ≡ true) × (length p < n + 1 + size kind.table (kind.type_of (get_or p n 0)))

-- a refusal's place: it is that of an entry octet, and the entries before it are read
record Fault (kind : Kind) (ok : Frame → Bool) (at skip : ℕ) (es : List ℕ) (r : Refusal) (i : ℕ) : Type 0 where
  n : ℕ
  place : i ≡ at + n
  skipped : skip ≤ n
  blames : Blames kind es r n
  fs : List Frame
  before : entries kind ok at skip (take n es) ≡ frames fs

abbrev Ends : Kind → (Frame → Bool) → ℕ → ℕ → List ℕ → EntriesRead → Type 0
Ends kind ok at skip es (frames fs) = Unit {0}
Ends kind ok at skip es (refused_entries r) = (i : ℕ) → place_of r ≡ Some i → Fault kind ok at skip es r i

module _ (kind : Kind) (ok : Frame → Bool) where
  -- behind one octet more
  later : (at skip s x : ℕ) (es : List ℕ) (r : Refusal) (i : ℕ) → skip ≤ suc s →
      ((n : ℕ) (fs : List Frame) → s ≤ n → n < length es → entries kind ok (at + 1) s (take n es) ≡ frames fs →
      (gs : List Frame) × (entries kind ok at skip (x ∷ take n es) ≡ frames gs)) →
      Fault kind ok (at + 1) s es r i →
      Fault kind ok at skip (x ∷ es) r i
  later at skip s x es r i h moved f =
      let b = f.blames in
      let m = moved f.n f.fs f.skipped b.inside f.before in
      record {
        n = suc f.n;
        place = omega (arith, f.place);
        skipped = omega (arith, f.skipped);
        blames = record { number = b.number; inside = omega (arith, b.inside); reserved = b.reserved; cut = λ e. ((b.cut e).0, omega (arith, (b.cut e).1)) };
        fs = m.0;
        before = m.1;
      }

  -- at once
  here : (at e : ℕ) (es : List ℕ) (r : Refusal) (i : ℕ) → i ≡ at → Blames kind (e ∷ es) r 0 → Fault kind ok at 0 (e ∷ es) r i
  unfolding entries
  here at e es r i q b = record { n = 0; place = omega arith; skipped = omega arith; blames = b; fs = []; before = refl }

  whole : (at : ℕ) (f : Frame) (w : EntriesRead) (fs : List Frame) (good short fine : Bool) → good ≡ true → short ≡ false → fine ≡ true → w ≡ frames fs →
      entry_if at f w good short fine ≡ frames (f ∷ fs)
  whole at f w fs good short fine g s o x = rw (g, s, o, x)

  -- an entry that is read, with its whole body behind it, before octets that are cut short
  moves : (at e : ℕ) (es : List ℕ) → known kind.table (kind.type_of e) ≡ true → ok (frame_of kind e es) ≡ true → (n : ℕ) (fs : List Frame) →
      size kind.table (kind.type_of e) ≤ n → n < length es → entries kind ok (at + 1) (size kind.table (kind.type_of e)) (take n es) ≡ frames fs →
      (gs : List Frame) × (entries kind ok at 0 (e ∷ take n es) ≡ frames gs)
  unfolding entries
  moves at e es k g n fs h q x =
      let s = size kind.table (kind.type_of e) in
      let l : length (take n es) ≡ n = length-take-le n es (omega arith) in
      let f : frame_of kind e (take n es) ≡ frame_of kind e es = ap (λ (b : List ℕ). record { type = kind.type_of e; body = b }) (take-take s n es h) in
      let w = entries kind ok (at + 1) s (take n es) in
      (frame_of kind e (take n es) ∷ fs, whole at (frame_of kind e (take n es)) w fs _ _ _ k (le-ltb (length (take n es)) s (omega arith)) (ap ok f ∙ g) x)

  skip-ends : (at s x : ℕ) (es : List ℕ) (w : EntriesRead) → Ends kind ok (at + 1) s es w → Ends kind ok at (suc s) (x ∷ es) w
  unfolding entries
  skip-ends at s x es (frames fs) h = tt
  skip-ends at s x es (refused_entries r) h = λ i q. later at (suc s) s x es r i (omega arith) (λ n fs a b c. (fs, c)) (h i q)

  entry-ends : (at e : ℕ) (es : List ℕ) (w : EntriesRead) (good short fine : Bool) →
      known kind.table (kind.type_of e) ≡ good →
      ltb (length es) (size kind.table (kind.type_of e)) ≡ short →
      ok (frame_of kind e es) ≡ fine →
      Ends kind ok (at + 1) (size kind.table (kind.type_of e)) es w →
      Ends kind ok at 0 (e ∷ es) (entry_if at (frame_of kind e es) w good short fine)
  entry-ends at e es w false short fine k s o h = λ i q.
      here at e es (ReservedType at) i (cc) (record { number = inl refl; inside = omega arith; reserved = λ x. k; cut = λ x. absurd (omega arith) })
  entry-ends at e es w true true fine k s o h = λ i q.
      here at e es (BodyCut at) i (cc) (record { number = inr refl; inside = omega arith; reserved = λ x. absurd (omega arith); cut = λ x. (k, omega (arith, ltb-true)) })
  entry-ends at e es w true false false k s o h = λ i q. apart (cc)
  entry-ends at e es (frames fs) true false true k s o h = tt
  entry-ends at e es (refused_entries r) true false true k s o h = λ i q.
      later at 0 (size kind.table (kind.type_of e)) e es r i (omega arith) (moves at e es k o) (h i q)

  entries-ends : (at skip : ℕ) (es : List ℕ) → Ends kind ok at skip es (entries kind ok at skip es)
  unfolding entries
  entries-ends at skip [] = tt
  entries-ends at (suc s) (x ∷ es) = skip-ends at s x es (entries kind ok (at + 1) s es) (entries-ends (at + 1) s es)
  entries-ends at zero (e ∷ es) =
      entry-ends at e es (entries kind ok (at + 1) (size kind.table (kind.type_of e)) es) (known kind.table (kind.type_of e))
      (ltb (length es) (size kind.table (kind.type_of e))) (ok (frame_of kind e es)) refl refl refl
      (entries-ends (at + 1) (size kind.table (kind.type_of e)) es)

-- the same of the entries of a list from a place on, counted in the list
pub record FaultAt (kind : Kind) (ok : Frame → Bool) (p : List ℕ) (head : ℕ) (r : Refusal) (at : ℕ) : Type 0 where
  pub behind : head ≤ at
  pub blames : Blames kind p r at
  pub fs : List Frame
  pub before : entries_at kind ok (take at p) head ≡ frames fs

pub fault-at : (kind : Kind) (ok : Frame → Bool) (p : List ℕ) (head : ℕ) (r : Refusal) (at : ℕ) → entries_at kind ok p head ≡ refused_entries r → place_of r ≡ Some at →
    FaultAt kind ok p head r at
fault-at kind ok p head r at e q =
    let f = subst (Ends kind ok head 0 (drop head p)) e (entries-ends kind ok head 0 (drop head p)) at q in
    let b = f.blames in
    let l = length-drop head p in
    let x : get_or (drop head p) f.n 0 ≡ get_or p at 0 = get_or-drop head p f.n 0 ∙ ap (λ (i : ℕ). get_or p i 0) (sym f.place) in
    let d : drop head (take at p) ≡ take f.n (drop head p) =
    ap (λ (i : ℕ). drop head (take i p)) f.place ∙ drop-take head (head + f.n) p ∙ part-is p head f.n in
    record {
      behind = omega (arith, f.place);
      blames = record {
        number = b.number;
        inside = omega (arith, f.place, b.inside);
        reserved = λ n. rw (← x) (b.reserved n);
        cut = λ n. rw (← x) ((b.cut n).0, omega (arith, f.place, (b.cut n).1));
      };
      fs = f.fs;
      before = rw d f.before;
    }
