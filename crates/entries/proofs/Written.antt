-- Frames as entries are read as those frames. Assumes nothing.
use Rattle.std.proofs.Common.{Some}
use Prim.Native.Nat.{ℕ, ◌+◌, ◌≤◌}
use mathlib.Core.Path.{◌≡◌, refl, sym, ap, subst, ◌∙◌}
use mathlib.Core.List.{List, [], ◌∷◌, ◌++◌}
use mathlib.Core.Bool.{Bool, true, false, cond}
use native.Mathlib.Omega.{arith}
use lib.Dec.{T, eqb, eqb→eq}
use lib.ListN.{length, take, get_or, length-append}
use lib.Seq.{take_at, drop_at}
use borrow.Author.Tests.{eqb-true, le-ltb}
use Rattle.octets.proofs.Logic.{apart, both_hold}
use Rattle.frame.specs.FrameTable.{FrameTable, Frame, row_of, is_there, known, size, Listed, AllListed, Every}
use Rattle.entries.specs.Kind.{Kind, every_type, keeps_types}
use Rattle.entries.specs.Entries.{frames, entries, entries_of}
use Rattle.entries.specs.Entries as entry
use Rattle.entries.proofs.Walking.{skips, entries_at}
use Rattle.entries.proofs.EntriesLaws.{Entry}
use Rattle.entries.proofs.EntriesLaws as laws

-- a type of the table passes what every type passes
pub type-passes : (test : ℕ → Bool) (v : FrameTable) (t : ℕ) → T (every_type test v) → known v t ≡ true → T (test t)
unfolding row_of
type-passes test [] t h e = apart (cc)
type-passes test (x ∷ v) t h e = go (eqb t x.kind) refl e (type-passes test v t (both_hold (test x.kind) (every_type test v) h).1)
  where
    go : (b : Bool) → eqb t x.kind ≡ b → is_there (cond b (Some x) (row_of v t)) ≡ true → (known v t ≡ true → T (test t)) → T (test t)
    go true q y i = subst (λ (k : ℕ). T (test k)) (sym (eqb-true t x.kind q)) (both_hold (test x.kind) (every_type test v) h).0
    go false q y i = i y

-- each of these frames is allowed
abbrev pub AllOk : (Frame → Bool) → List Frame → Type 0
AllOk ok fs = Every (λ f. ok f ≡ true) fs

-- frames as entries, from whatever place
pub entries-written : (kind : Kind) → T (keeps_types kind) → (ok : Frame → Bool) (at : ℕ) (fs : List Frame) → AllListed kind.table fs → AllOk ok fs → entries kind ok at 0 (entries_of fs) ≡ frames fs
unfolding entries
entries-written kind h ok at [] w o = refl
entries-written kind h ok at (f ∷ fs) w o =
    let b = f.body in
    let r = entries_of fs in
    let s = size kind.table f.type in
    let t : kind.type_of f.type ≡ f.type = eqb→eq (kind.type_of f.type) f.type (type-passes (λ t. eqb (kind.type_of t) t) kind.table f.type h w.0.type_known) in
    let l : s ≤ length (b ++ r) = omega (arith, w.0.octets, length-append b r) in
    let k : take s (b ++ r) ≡ b = take_at b r s w.0.octets in
    let j : entries kind ok (at + 1) s (b ++ r) ≡ frames fs =
    skips kind ok (at + 1) s (b ++ r) ∙ ap (entries kind ok (at + 1 + s) 0) (drop_at b r s w.0.octets) ∙ entries-written kind h ok (at + 1 + s) fs w.1 o.1 in
    let a : ok (record { type = f.type; body = f.body }) ≡ true = o.0 in
    simp (t, w.0.type_known, le-ltb _ _ l, k, a) (ap (entry.put f) j)

-- what holds of each entry that is read holds of each frame
module _ (kind : Kind) (ok : Frame → Bool) (p : List ℕ) where
  each : (P : Frame → Type 0) → ((at : ℕ) (f : Frame) (fs : List Frame) → Entry kind ok p at f fs → P f) → (at : ℕ) (fs : List Frame) → entries_at kind ok p at ≡ frames fs → Every P fs
  each P h at [] e = tt
  each P h at (f ∷ fs) e =
      let x = laws.entry kind ok p at f fs e in
      (h at f fs x, each P h (at + 1 + size kind.table (kind.type_of (get_or p at 0))) fs x.rest)

  pub entries-listed : (at : ℕ) (fs : List Frame) → entries_at kind ok p at ≡ frames fs → AllListed kind.table fs
  entries-listed at fs e =
      each (Listed kind.table)
      (λ at f fs x. record { type_known = ap (known kind.table) x.type ∙ x.known; octets = x.octets ∙ ap (size kind.table) (sym x.type) })
      at fs e

  pub entries-ok : (at : ℕ) (fs : List Frame) → entries_at kind ok p at ≡ frames fs → AllOk ok fs
  entries-ok at fs e = each (λ f. ok f ≡ true) (λ at f fs x. x.allowed) at fs e
