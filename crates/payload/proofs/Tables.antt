-- What a table of contents that was read says of the octets. Assumes nothing.
use Prim.Native.Nat.{ℕ, ◌+◌, ◌-◌, ◌≤◌, ◌<◌}
use mathlib.Core.Path.{◌≡◌, refl, sym, ap, ◌∙◌}
use mathlib.Core.List.{List, [], ◌∷◌, map}
use mathlib.Core.Bool.{Bool, true, false, cond}
use native.Mathlib.Omega.{arith}
use lib.ListN.{length, take, drop, length-drop}
use lib.Dec.{leb}
use borrow.Author.Tests.{leb-false}
use Rattle.frame.specs.FrameTable.{FrameTable, known}
use Rattle.answers.specs.declared.Refusal.TheVariants.{TooManyFrames, ReservedType}
use Rattle.octets.proofs.Logic.{apart}
use Rattle.frame.specs.Entry.{type_of, d_of, more}
use Rattle.payload.specs.Payload.{Toc, contents, fault, put, toc, total}
use Rattle.payload.specs.Shown.{walked, whole_table}
use Rattle.payload.specs.declared.Walked.{Walked}

-- the types are those of the first entries, the rest is what follows them, there are some and not too many; it begins as many octets
-- behind the first entry as there are entries
pub record Whole (max count at : ℕ) (es ts : List ℕ) (behind : ℕ) (rest : List ℕ) : Type 0 where
  pub some : 0 < length ts
  pub few : count + length ts ≤ max
  pub within : length ts ≤ length es
  pub types : ts ≡ take (length ts) (map type_of es)
  pub follow : rest ≡ drop (length ts) es
  pub begins : behind ≡ at + length ts

abbrev pub Sound : ℕ → ℕ → ℕ → List ℕ → Toc → Type 0
Sound max count at es (contents ts d behind rest) = Whole max count at es ts behind rest
Sound max count at es (fault r) = Unit {0}

put-sound : (max count at e : ℕ) (es : List ℕ) (w : Toc) → Sound max (count + 1) (at + 1) es w → Sound max count at (e ∷ es) (put (type_of e) w)
put-sound max count at e es (contents ts d behind rest) h =
    record {
      some = omega arith;
      few = omega (arith, h.few);
      within = omega (arith, h.within);
      types = ap (λ (l : List ℕ). type_of e ∷ l) h.types;
      follow = h.follow;
      begins = omega (arith, h.begins);
    }
put-sound max count at e es (fault r) h = tt

-- the table that begins with entry e at octet `at`, by whether it is full already, the type is good, and another entry follows
abbrev pub entry_if : ℕ → ℕ → List ℕ → Toc → Bool → Bool → Bool → Toc
entry_if at e es w full good on =
    let rest = cond on (put (type_of e) w) (contents (type_of e ∷ []) (d_of e) (at + 1) es) in
    cond full (fault (TooManyFrames at)) (cond good rest (fault (ReservedType at)))

entry-sound :
    (max count at e : ℕ) (es : List ℕ) (w : Toc) (full good on : Bool) →
    (full ≡ false → count < max) →
    Sound max (count + 1) (at + 1) es w →
    Sound max count at (e ∷ es) (entry_if at e es w full good on)
entry-sound max count at e es w true good on f h = tt
entry-sound max count at e es w false false on f h = tt
entry-sound max count at e es w false true true f h = put-sound max count at e es w h
entry-sound max count at e es w false true false f h =
    let m = f refl in
    record { some = omega arith; few = omega arith; within = omega arith; types = refl; follow = refl; begins = refl }

pub toc-sound : (v : FrameTable) (max count at : ℕ) (es : List ℕ) → Sound max count at es (toc v max count at es)
unfolding toc
toc-sound v max count at [] = tt
toc-sound v max count at (e ∷ es) =
    entry-sound max count at e es (toc v max (count + 1) (at + 1) es) (leb max count) (known v (type_of e)) (more e) (leb-false max count)
    (toc-sound v max (count + 1) (at + 1) es)

-- the walk yielded a table: so there is one, and these are its numbers
pub record Counted (v : FrameTable) (max : ℕ) (es : List ℕ) (w : Toc) (c s d : ℕ) : Type 0 where
  pub ts : List ℕ
  pub behind : ℕ
  pub rest : List ℕ
  pub is : w ≡ contents ts d behind rest
  pub some : 0 < c
  pub count : c ≡ length ts
  pub octets : s ≡ total v ts
  pub types : ts ≡ take c (map type_of es)
  pub follow : rest ≡ drop c es
  pub begins : behind ≡ 1 + c
  pub left : length rest ≡ length es - c
  pub few : c ≤ max
  pub within : c ≤ length es

counted-table : (v : FrameTable) (max : ℕ) (es : List ℕ) (w : Toc) (c s d : ℕ) → Sound max 0 1 es w → whole_table c s d ≡ walked v w → Counted v max es w c s d
unfolding walked
counted-table v max es (fault r) c s d h e = apart (cc)
counted-table v max es (contents ts d' behind rest) c s d h e =
    let w : ◌≡◌ {A = Walked} (record { count = c; size = s; d = d }) (record { count = length ts; size = total v ts; d = d' }) = cc in
    let q : c ≡ length ts = ap (λ (x : Walked). x.count) w in
    let k : d' ≡ d = sym (ap (λ (x : Walked). x.d) w) in
    record {
      ts = ts;
      behind = behind;
      rest = rest;
      is = ap (λ (x : ℕ). contents ts x behind rest) k;
      some = omega (arith, h.some);
      count = q;
      octets = ap (λ (x : Walked). x.size) w;
      types = h.types ∙ ap (λ (x : ℕ). take x (map type_of es)) (sym q);
      follow = h.follow ∙ ap (λ (x : ℕ). drop x es) (sym q);
      begins = h.begins ∙ ap (λ (x : ℕ). 1 + x) (sym q);
      left = ap length h.follow ∙ length-drop (length ts) es ∙ ap (λ (x : ℕ). length es - x) (sym q);
      few = omega (arith, h.few);
      within = omega (arith, h.within);
    }

pub counted : (v : FrameTable) (max : ℕ) (es : List ℕ) (c s d : ℕ) → whole_table c s d ≡ walked v (toc v max 0 1 es) → Counted v max es (toc v max 0 1 es) c s d
counted v max es c s d e = counted-table v max es (toc v max 0 1 es) c s d (toc-sound v max 0 1 es) e
