-- Entries with F and D cleared. Assumes nothing.
use Prim.Native.Nat.{ℕ, zero, suc, ◌+◌, ◌-◌, ◌≤◌, ◌<◌}
use mathlib.Core.Path.{◌≡◌, refl, sym, ap, ◌∙◌}
use mathlib.Core.List.{List, [], ◌∷◌, ◌++◌}
use mathlib.Core.Bool.{Bool, true, false}
use native.Mathlib.Nat.{le_of_suc-le-suc}
use native.Mathlib.Numerals.{add-one}
use native.Mathlib.Omega.{arith}
use lib.Dec.{ltb}
use lib.ListN.{length, take, drop, get_or}
use lib.Seq.{drop-cons}
use borrow.Author.Tests.{ltb-false}
use Rattle.octets.proofs.Logic.{apart}
use Rattle.frame.specs.FrameTable.{Frame, known, size}
use Rattle.entries.specs.Kind.{Kind}
use Rattle.entries.specs.Entries.{EntriesRead, frames, put, frame_of, entries, allowed, entries_from, entries_in, entries_of}
use Rattle.entries.specs.Entries.{cleared}
use Rattle.entries.specs.declared.Rule.{Rule}
use Rattle.entries.specs.declared.Rule.TheVariants.{Any}
use Rattle.entries.proofs.Walking.{unput, entry_if}

pub length-cleared : (kind : Kind) (n : ℕ) (es : List ℕ) → length (cleared kind n es) ≡ length es
unfolding cleared
length-cleared kind n [] = refl
length-cleared kind (suc n) (x ∷ es) = ap suc (length-cleared kind n es)
length-cleared kind zero (e ∷ es) = ap suc (length-cleared kind (size kind.table (kind.type_of e)) es)

clear-entry : (kind : Kind) (ok : Frame → Bool) (at e : ℕ) (es : List ℕ) (fs : List Frame) (good short fine : Bool) → ltb (length es) (size kind.table (kind.type_of e)) ≡ short →
    ((gs : List Frame) → size kind.table (kind.type_of e) ≤ length es → entries kind ok (at + 1) (size kind.table (kind.type_of e)) es ≡ frames gs →
    take (size kind.table (kind.type_of e)) es ++ entries_of gs ≡ cleared kind (size kind.table (kind.type_of e)) es) →
    entry_if at (frame_of kind e es) (entries kind ok (at + 1) (size kind.table (kind.type_of e)) es) good short fine ≡ frames fs →
    entries_of fs ≡ kind.type_of e ∷ cleared kind (size kind.table (kind.type_of e)) es
clear-entry kind ok at e es fs false short fine q i h = apart (cc)
clear-entry kind ok at e es fs true true fine q i h = apart (cc)
clear-entry kind ok at e es fs true false false q i h = apart (cc)
clear-entry kind ok at e es fs true false true q i h =
    let u = unput _ fs (entries kind ok (at + 1) (size kind.table (kind.type_of e)) es) h in
    ap entries_of u.1 ∙ ap (λ (l : List ℕ). kind.type_of e ∷ l) (i u.0 (ltb-false _ _ q) u.2)

-- the frames of entries, as entries again, are the entries cleared
clears : (kind : Kind) (ok : Frame → Bool) (at n : ℕ) (es : List ℕ) (fs : List Frame) → n ≤ length es → entries kind ok at n es ≡ frames fs → take n es ++ entries_of fs ≡ cleared kind n es
unfolding entries cleared
clears kind ok at zero [] fs h e = let z : fs ≡ [] = cc in ap entries_of z
clears kind ok at (suc n) [] fs h e = absurd (omega arith)
clears kind ok at (suc n) (x ∷ es) fs h e = ap (λ (l : List ℕ). x ∷ l) (clears kind ok (at + 1) n es fs (le_of_suc-le-suc h) e)
clears kind ok at zero (x ∷ es) fs h e =
    clear-entry kind ok at x es fs (known kind.table (kind.type_of x)) (ltb (length es) (size kind.table (kind.type_of x))) (ok (frame_of kind x es)) refl
    (clears kind ok (at + 1) (size kind.table (kind.type_of x)) es) e

pub entries-cleared : (kind : Kind) (ok : Frame → Bool) (at : ℕ) (es : List ℕ) (fs : List Frame) → entries kind ok at 0 es ≡ frames fs → entries_of fs ≡ cleared kind 0 es
entries-cleared kind ok at es fs e = clears kind ok at 0 es fs (omega arith) e

-- one octet of them, behind `left` octets of a body: what it is, and what follows
pub record Octet (kind : Kind) (es : List ℕ) (i x left : ℕ) : Type 0 where
  pub here : x ≡ get_or (cleared kind 0 es) i 0
  pub rest : drop (i + 1) (cleared kind 0 es) ≡ cleared kind left (drop (i + 1) es)

module _ (kind : Kind) (es : List ℕ) (i : ℕ) (h : i < length es) where
  split : get_or (cleared kind 0 es) i 0 ∷ drop (i + 1) (cleared kind 0 es) ≡ drop i (cleared kind 0 es)
  split = sym (rw add-one (drop-cons (cleared kind 0 es) i 0 (rw length-cleared h)))

  after : drop i es ≡ get_or es i 0 ∷ drop (i + 1) es
  after = rw add-one (drop-cons es i 0 h)

  pub kept : (left : ℕ) → drop i (cleared kind 0 es) ≡ cleared kind left (drop i es) → 0 < left → Octet kind es i (get_or es i 0) (left - 1)
  unfolding cleared
  kept zero e p = absurd (omega arith)
  kept (suc l) e p =
      let q : l ≡ suc l - 1 = omega arith in
      let x = split ∙ e ∙ ap (cleared kind (suc l)) after in
      record { here = cc; rest = cc }

  pub clears-octet : (left : ℕ) → drop i (cleared kind 0 es) ≡ cleared kind left (drop i es) → left ≤ 0 →
      Octet kind es i (kind.type_of (get_or es i 0)) (size kind.table (kind.type_of (get_or es i 0)))
  unfolding cleared
  clears-octet zero e p = let x = split ∙ e ∙ ap (cleared kind 0) after in record { here = cc; rest = cc }
  clears-octet (suc l) e p = absurd (omega arith)

-- what is read under a rule is read as the same frames under none, from whatever octet on places are counted
any_entry : (at to : ℕ) (f : Frame) (w u : EntriesRead) (fs : List Frame) (good short fine : Bool) → ((gs : List Frame) → w ≡ frames gs → u ≡ frames gs) →
    entry_if at f w good short fine ≡ frames fs →
    entry_if to f u good short true ≡ frames fs
any_entry at to f w u fs false short fine i h = apart (cc)
any_entry at to f w u fs true true fine i h = apart (cc)
any_entry at to f w u fs true false false i h = apart (cc)
any_entry at to f w u fs true false true i h =
    let x = unput f fs w h in
    ap (put f) (i x.0 x.2) ∙ ap frames (sym x.1)

any-reads : (kind : Kind) (ok : Frame → Bool) (at to n : ℕ) (es : List ℕ) (fs : List Frame) → entries kind ok at n es ≡ frames fs → entries kind (allowed kind.table Any) to n es ≡ frames fs
unfolding entries allowed
any-reads kind ok at to n [] fs e = e
any-reads kind ok at to (suc n) (x ∷ es) fs e = any-reads kind ok (at + 1) (to + 1) n es fs e
any-reads kind ok at to zero (x ∷ es) fs e =
    let s = size kind.table (kind.type_of x) in
    any_entry at to (frame_of kind x es) (entries kind ok (at + 1) s es) (entries kind (allowed kind.table Any) (to + 1) s es) fs
    (known kind.table (kind.type_of x)) (ltb (length es) s) (ok (frame_of kind x es)) (any-reads kind ok (at + 1) (to + 1) s es) e

pub read-any : (kind : Kind) (rule : Rule) (at : ℕ) (es : List ℕ) (fs : List Frame) → entries_from kind rule at es ≡ frames fs → entries_in kind Any es ≡ frames fs
read-any kind rule at es fs e = any-reads kind (allowed kind.table rule) at 0 0 es fs e
