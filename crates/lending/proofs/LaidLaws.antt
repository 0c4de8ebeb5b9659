-- Laying out, piece behind piece, and reading, piece by piece. Assumes nothing.
use Rattle.std.specs.Prelude.{Option, Some, is_some}
use Prim.Native.Nat.{ℕ, zero, suc, ◌+◌, ◌-◌, ◌≤◌, ◌<◌}
use mathlib.Core.Bool.{Bool, true, false}
use mathlib.Core.Path.{◌≡◌, sym, ap, subst, ◌∙◌}
use mathlib.Core.List.{List, [], ◌∷◌, ◌++◌, map}
use native.Mathlib.Omega.{arith}
use denote.Param.Members.{Mut}
use Rattle.std.specs.Fn.{Called}
use Rattle.std.specs.Array.{IsFromFnResultFrom}
use Rattle.std.proofs.Common.{⊎_elim, eq-or-lt_of_le}
use Rattle.std.proofs.lemmas.List.{ext_get_or, get_or-map}
use lib.ListN.{length, take, drop, get_or, set, replicate, length-map, length-take, length-drop}
use lib.Seq.{get_or-take, get_or-drop}
use borrow.Author.Tests.{le-leb, lt-leb, eq-eqb, ne_eqb, leb-true}
use Rattle.octets.proofs.Logic.{both_true}
use Rattle.octets.specs.Octets.{over, shifted, same_octets, two_octets, four_octets}
use Rattle.octets.proofs.OctetsLaws.{over-append, over-whole, set-three, part-is, length_two, length-four}
use Rattle.form.specs.declared.Limits.{Limits}
use Rattle.form.specs.declared.Form.{Form}
use Rattle.form.specs.declared.Form.TheVariants.{HeaderFree, Interleaved}
use Rattle.frame.specs.Shape.{holding_shape}
use Rattle.holding.specs.Group.{Shaped}
use Rattle.holding.specs.declared.Holding.{Holding}
use Rattle.numbers.specs.declared.GroupNumbers.{GroupNumbers}
use Rattle.session.specs.declared.Session.{Session}
use Rattle.lending.specs.Laid.{flag_octet, is_set, is_long, is_laid, number_octets, holding_octets, holding_at, is_holding}
use Rattle.lending.specs.Laid.{holding_in, holding_laid, form_octets, form_at, last_octets, session_head}
use Rattle.lending.specs.Parts.{type_octets, group_octets}
use Rattle.lending.proofs.Pieces.{A, B, C, D, F, M, O, G, S, P, Q, K, E, Z, T, length-ab, length-abc, length-abcd, length-numbers, length-f}
use Rattle.lending.proofs.Pieces.{length-fn, length-group, holding-parts, length-holding, length-og, length-ogs, length-ogsp, length-ke, length-kez, length-ogspq}

-- ---- one piece more behind what was laid out: both are laid out together
pub lay-more : (d e f : List ℕ) (at n : ℕ) (xs ys : List ℕ) → at ≤ length d → e ≡ over d at xs → n ≡ at + length xs → f ≡ over e n ys → f ≡ over d at (xs ++ ys)
lay-more d e f at n xs ys h p q r = r ∙ ap (λ (i : ℕ). over e i ys) q ∙ ap (λ (l : List ℕ). over l (at + length xs) ys) p ∙ over-append d at xs ys h

-- ---- flags
-- what `from_fn` made by a closure that answers h and stays as it is
module _ {F B : Type 0} (g : Mut F (ℕ × Unit {0}) B) (f : F) (h : ℕ → B) (ys : List B) (told : (i : ℕ) (y : B) (q : F) → Called g f (i, tt) y q → (q ≡ f) × (y ≡ h i)) where
  pub made-at : (n i : ℕ) → IsFromFnResultFrom g f ys i n → (j : ℕ) (d : B) → i ≤ j → j < i + n → get_or ys j d ≡ h j
  made-at zero i m j d a b = absurd (omega arith)
  made-at (suc n) i (q, y, at, call, more) j d a b =
      let t = told i y q call in
      ⊎_elim (λ (e : i ≡ j). rw (← e) (at.1 d ∙ t.1))
      (λ (l : i < j). made-at n (i + 1) (subst (λ (p : F). IsFromFnResultFrom g p ys (i + 1) n) t.0 more) j d (omega arith) (omega arith))
      (eq-or-lt_of_le a)

-- the eight from a place on
pub flags-read : (o : List ℕ) (at : ℕ) (flags : List Bool) → at + 8 ≤ length o → length flags ≡ 8 → ((i : ℕ) → i < 8 → get_or flags i false ≡ is_set (get_or o (at + i) 0))
    → flags ≡ map is_set (take 8 (drop at o))
flags-read o at flags h l each =
    let w = take 8 (drop at o) in
    let n : length w ≡ 8 = simp (length-take, length-drop) (omega arith) in
    ext_get_or false flags (map is_set w) (l ∙ sym (length-map w is_set ∙ n))
    (λ i k. each i (omega arith) ∙ sym (get_or-map is_set w i 0 false (omega arith) ∙ ap is_set (get_or-take 8 (drop at o) i 0 (omega arith) ∙ get_or-drop at o i 0)))

-- ---- a whole array written over, by a part of the lent octets
pub whole_part : (o r d : List ℕ) (at n : ℕ) → length d ≡ n → at + n ≤ length o → r ≡ over d 0 (take (at + n - at) (drop at o)) → r ≡ take n (drop at o)
whole_part o r d at n e h q =
    let l : length (take n (drop at o)) ≡ n = simp (length-take, length-drop) (omega arith) in
    q ∙ ap (over d 0) (part-is o at n) ∙ over-whole d (take n (drop at o)) (e ∙ sym l)

pub whole-shifted : (o r d : List ℕ) (at n by : ℕ) → length d ≡ n → at + n ≤ length o → r ≡ over d 0 (map (shifted by) (take (at + n - at) (drop at o))) → r ≡ map (shifted by) (take n (drop at o))
whole-shifted o r d at n by e h q =
    let l : length (map (shifted by) (take n (drop at o))) ≡ n = length-map (take n (drop at o)) (shifted by) ∙ simp (length-take, length-drop) (omega arith) in
    q ∙ ap (λ (w : List ℕ). over d 0 (map (shifted by) w)) (part-is o at n) ∙ over-whole d (map (shifted by) (take n (drop at o))) (e ∙ sym l)

-- ---- a form
pub form-free : (o : List ℕ) (at : ℕ) → (get_or o at 0 ≡ 1 → ⊥) → HeaderFree ≡ form_at o at
unfolding form_at
form-free o at n = simp (ne_eqb _ _ n)

pub form-interleaved : (o : List ℕ) (at : ℕ) → get_or o at 0 ≡ 1 → Interleaved (record { max_l = get_or o (at + 1) 0; max_b = get_or o (at + 2) 0 }) ≡ form_at o at
unfolding form_at
form-interleaved o at e = simp (eq-eqb _ _ e)

pub put-interleaved :
    (f : Form) (m : Limits) (d : List ℕ) (at : ℕ) →
    f ≡ Interleaved m →
    at + 3 ≤ length d →
    set (set (set d at 1) (at + 1) m.max_l) (at + 2) m.max_b ≡ over d at (form_octets f)
unfolding form_octets
put-interleaved f m d at q h = set-three d at 1 m.max_l m.max_b h ∙ ap (λ (g : Form). over d at (form_octets g)) (sym q)

-- ---- which packets are held, and the types
pub types-laid : (hs : List Bool) (ms d : List ℕ) (at : ℕ) → at ≤ length d → length hs ≡ 8 → (o₁ o₂ o₃ : List ℕ) → o₁ ≡ over d at (map flag_octet hs)
    → o₂ ≡ over o₁ (at + 8) (replicate 8 0) → o₃ ≡ over o₂ (at + 16) (map (shifted 242) ms) → o₃ ≡ over d at (type_octets hs ms)
types-laid hs ms d at le x o₁ o₂ o₃ e₁ e₂ e₃ =
    let s₂ = lay-more d o₁ o₂ at (at + 8) (F hs ms) (replicate 8 0) le e₁ (omega (arith, length-f hs ms x)) e₂ in
    lay-more d o₂ o₃ at (at + 16) (F hs ms ++ replicate 8 0) (M hs ms) le s₂ (omega (arith, length-fn hs ms x)) e₃

-- ---- a holding
module _ (h : Holding) (d : List ℕ) (at : ℕ) (le : at ≤ length d) where
  pub numbers-laid : (o₁ o₂ o₃ o₄ o₅ : List ℕ) → o₁ ≡ over d at (four_octets h.source) → o₂ ≡ over o₁ (at + 4) (two_octets h.numbers.sequence)
      → o₃ ≡ over o₂ (at + 6) (four_octets h.numbers.timestamp) → o₄ ≡ over o₃ (at + 10) (h.numbers.l ∷ h.numbers.b ∷ [])
      → o₅ ≡ over o₄ (at + 12) (replicate 4 0) → o₅ ≡ over d at (number_octets h)
  unfolding number_octets
  numbers-laid o₁ o₂ o₃ o₄ o₅ e₁ e₂ e₃ e₄ e₅ =
      let s₂ = lay-more d o₁ o₂ at (at + 4) (A h) (B h) le e₁ (omega (arith, length-four h.source)) e₂ in
      let s₃ = lay-more d o₂ o₃ at (at + 6) (A h ++ B h) (C h) le s₂ (omega (arith, length-ab h)) e₃ in
      let s₄ = lay-more d o₃ o₄ at (at + 10) (A h ++ B h ++ C h) (D h) le s₃ (omega (arith, length-abc h)) e₄ in
      lay-more d o₄ o₅ at (at + 12) (A h ++ B h ++ C h ++ D h) (replicate 4 0) le s₄ (omega (arith, length-abcd h)) e₅

  pub group-laid : (o₁ o₂ : List ℕ) → o₁ ≡ over d at (number_octets h) → o₂ ≡ over o₁ (at + 16) (type_octets h.held h.marks) → o₂ ≡ over d at (group_octets h)
  unfolding group_octets
  group-laid o₁ o₂ e₁ e₂ =
      lay-more d o₁ o₂ at (at + 16) (number_octets h) (type_octets h.held h.marks) le e₁ (ap (λ (i : ℕ). at + i) (sym (length-numbers h))) e₂

  pub holding-laid : Shaped holding_shape h → (o₁ o₂ : List ℕ) → o₁ ≡ over d at (group_octets h) → o₂ ≡ over o₁ (at + 112) h.room → o₂ ≡ over d at (holding_octets h)
  holding-laid x o₁ o₂ e₁ e₂ =
      lay-more d o₁ o₂ at (at + 112) (group_octets h) h.room le e₁ (ap (λ (i : ℕ). at + i) (sym (length-group h x))) e₂ ∙ ap (over d at) (sym (holding-parts h))

-- ---- the numbers of the last poured group
pub last-laid : (l : Option GroupNumbers) (g : GroupNumbers) (d : List ℕ) → 9 ≤ length d → (o₁ o₂ o₃ o₄ : List ℕ) → l ≡ Some g → o₁ ≡ over d 9 (two_octets g.sequence)
    → o₂ ≡ over o₁ 11 (g.l ∷ g.b ∷ []) → o₃ ≡ over o₂ 13 (replicate 3 0) → o₄ ≡ over o₃ 16 (four_octets g.timestamp) → o₄ ≡ over d 9 (last_octets l)
unfolding last_octets
last-laid l g d le o₁ o₂ o₃ o₄ q e₁ e₂ e₃ e₄ =
    let s₂ = lay-more d o₁ o₂ 9 11 (K g) (E g) le e₁ (omega (arith, length_two g.sequence)) e₂ in
    let s₃ = lay-more d o₂ o₃ 9 13 (K g ++ E g) (Z g) le s₂ (omega (arith, length-ke g)) e₃ in
    lay-more d o₃ o₄ 9 16 (K g ++ E g ++ Z g) (T g) le s₃ (omega (arith, length-kez g)) e₄
    ∙ ap (λ (k : Option GroupNumbers). over d 9 (last_octets k)) (sym q)

-- ---- all of a session but its group
pub head-laid : (s : Session) (d o₁ o₂ o₃ o₄ o₅ o₆ : List ℕ) → o₁ ≡ over d 0 (flag_octet s.«open» ∷ []) → o₂ ≡ over o₁ 1 (form_octets s.form) → o₃ ≡ over o₂ 4 (four_octets s.source)
    → o₄ ≡ over o₃ 8 (flag_octet (is_some s.last) ∷ []) → o₅ ≡ over o₄ 9 (last_octets s.last) → o₆ ≡ over o₅ 20 (replicate 12 0)
    → o₆ ≡ over d 0 (session_head s)
unfolding session_head
head-laid s d o₁ o₂ o₃ o₄ o₅ o₆ e₁ e₂ e₃ e₄ e₅ e₆ =
    let le : 0 ≤ length d = omega arith in
    let s₂ = lay-more d o₁ o₂ 0 1 (O s) (G s) le e₁ (omega arith) e₂ in
    let s₃ = lay-more d o₂ o₃ 0 4 (O s ++ G s) (S s) le s₂ (omega (arith, length-og s)) e₃ in
    let s₄ = lay-more d o₃ o₄ 0 8 (O s ++ G s ++ S s) (P s) le s₃ (omega (arith, length-ogs s)) e₄ in
    let s₅ = lay-more d o₄ o₅ 0 9 (O s ++ G s ++ S s ++ P s) (Q s) le s₄ (omega (arith, length-ogsp s)) e₅ in
    lay-more d o₅ o₆ 0 20 (O s ++ G s ++ S s ++ P s ++ Q s) (replicate 12 0) le s₅ (omega (arith, length-ogspq s)) e₆

-- ---- in all 2,304 octets
pub all-of-holding : (h : Holding) → Shaped holding_shape h → (d e f : List ℕ) → e ≡ over d 0 (holding_octets h) → f ≡ over e 1872 (replicate 432 0) → f ≡ over d 0 (holding_laid h)
unfolding holding_laid
all-of-holding h x d e f p q =
    let l : 1872 ≡ 0 + length (holding_octets h) = omega (arith, length-holding h x) in
    let z : 0 ≤ length d = omega arith in
    lay-more d e f 0 1872 (holding_octets h) (replicate 432 0) z p l q

-- ---- what lent octets are read as
pub long_enough : (o : List ℕ) → 2304 ≤ length o → is_long o ≡ true
unfolding is_long
long_enough o h = le-leb _ _ h

pub too_short : (o : List ℕ) → length o < 2304 → is_long o ≡ false
unfolding is_long
too_short o h = lt-leb _ _ h

pub laid-long : (o w : List ℕ) → is_laid o w ≡ true → 2304 ≤ length o
unfolding is_laid is_long
laid-long o w e = leb-true _ _ (both_true (is_long o) _ e).0

-- what is read is as long as its type makes it
pub at-shaped : (o : List ℕ) (at : ℕ) → at + 1872 ≤ length o → Shaped holding_shape (holding_at o at)
unfolding holding_at
at-shaped o at h =
    record {
      long_held = length-map (take 8 (drop (at + 16) o)) is_set ∙ window (at + 16) 8 (omega arith);
      long_marks = length-map (take 80 (drop (at + 32) o)) (shifted 14) ∙ window (at + 32) 80 (omega arith);
      long_room = window (at + 112) 1760 (omega arith);
    }
  where
    window : (k n : ℕ) → k + n ≤ length o → length (take n (drop k o)) ≡ n
    window k n p = simp (length-take, length-drop) (omega arith)

-- w was laid out in an array of its length, and that was compared
pub laid-again : (o d e w : List ℕ) (r : Bool) → 2304 ≤ length o → length d ≡ 2304 → length w ≡ 2304 → e ≡ over d 0 w → r ≡ same_octets e (take (2304 - 0) (drop 0 o)) → r ≡ is_laid o w
unfolding is_laid
laid-again o d e w r h l m p q = q ∙ ap (λ (x : List ℕ). same_octets x (take 2304 o)) (p ∙ over-whole d w (l ∙ sym m)) ∙ simp (long_enough o h)

module _ (o : List ℕ) (h : Holding) where
  pub holding-there : is_laid o (holding_laid h) ≡ true → h ≡ holding_at o 0 → h ≡ holding_in o
  unfolding holding_in is_holding
  holding-there e q = let z : is_laid o (holding_laid (holding_at o 0)) ≡ true = ap (λ (y : Holding). is_laid o (holding_laid y)) (sym q) ∙ e in q ∙ simp z
