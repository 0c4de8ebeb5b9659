-- Laws of lists of octets. Assumes nothing.
use Rattle.std.proofs.Common.{◌≡◌, ℕ, zero, suc, ◌+◌, ◌-◌, ◌*◌, ◌/◌, ◌%◌, ◌<◌, ◌≤◌, ◌^◌, Bool, true, false, ◌&&◌, eqb, List, [], ◌∷◌, ◌++◌, map, length, get_or, take, drop, set, replicate}
use Rattle.std.proofs.Common.{◌∙◌, ap₂, append_assoc, append-nil, le_refl, add-zero, zero-add, add-one, arith, length-append, length-drop, length-set, take-append-drop, drop_of_length-le, length-take}
use Rattle.std.proofs.Common.{sym, refl, ap, length-take-le, get_or-drop, take_all, get_or-take, take-take, drop-drop, take_at, take-add, drop_at, eq-eqb, eqb-true}
use native.Mathlib.Nat.{sub-zero, zero-sub, add-sub_cancel_left}
use lib.ListN.{length-map}
use lib.Seq.{take-nil, take-append-le, drop-append-add, paste, paste-suc}
use borrow.Rule.Slice.PartMut.{put_mid, post_of, Post-is}
use Rattle.std.proofs.Math.Bool.{and_assoc}
use Rattle.std.specs.Int.{w16, w32, to_be_bytes, from_be_bytes}
use Rattle.std.specs.List.{fold, list_any, zip}
use mathlib.Core.Bool.{beq}
use Rattle.octets.specs.Octets.{over, same_octets, all_zero, any_set, two_at, four_at, two_octets, four_octets}
use Rattle.octets.proofs.Logic.{apart, both_true, both_false, both_so}

-- ---- same_octets

pub same_refl : (a : List ℕ) → same_octets a a ≡ true
unfolding same_octets
same_refl [] = refl
same_refl (x ∷ xs) = rw (eq-eqb x x refl) (same_refl xs)

pub same_true : (a b : List ℕ) → same_octets a b ≡ true → a ≡ b
unfolding same_octets
same_true [] [] e = refl
same_true [] (y ∷ ys) e = apart (cc)
same_true (x ∷ xs) [] e = apart (cc)
same_true (x ∷ xs) (y ∷ ys) e =
    let h = both_true (eqb x y) (same_octets xs ys) e in
    let p : x ≡ y = eqb-true x y h.0 in
    let q : xs ≡ ys = same_true xs ys h.1 in
    cc

pub same-long : (a b : List ℕ) → (length a ≡ length b → ⊥) → same_octets a b ≡ false
unfolding same_octets
same-long [] [] h = absurd (h refl)
same-long [] (y ∷ ys) h = refl
same-long (x ∷ xs) [] h = refl
same-long (x ∷ xs) (y ∷ ys) h = rw (same-long xs ys (λ e. h (ap suc e))) (both_false (eqb x y))

-- a fold over both as pairs, from what was found so far
pub same-folded : (a b : List ℕ) (so_far : Bool) → length a ≡ length b → fold (λ (t : Bool) (p : ℕ × ℕ). t && eqb p.0 p.1) so_far (zip a b) ≡ so_far && same_octets a b
unfolding same_octets
same-folded [] [] so_far e = sym (both_so so_far)
same-folded [] (y ∷ ys) so_far e = absurd (omega arith)
same-folded (x ∷ xs) [] so_far e = absurd (omega arith)
same-folded (x ∷ xs) (y ∷ ys) so_far e = same-folded xs ys (so_far && eqb x y) (omega arith) ∙ and_assoc so_far (eqb x y) (same_octets xs ys)

-- two lists behind two of a length are equal if both are, as a test
pub same-split : (a c b d : List ℕ) → length a ≡ length c → same_octets (a ++ b) (c ++ d) ≡ same_octets a c && same_octets b d
unfolding same_octets
same-split [] [] b d e = refl
same-split [] (y ∷ c) b d e = absurd (omega arith)
same-split (x ∷ a) [] b d e = absurd (omega arith)
same-split (x ∷ a) (y ∷ c) b d e = go (same-split a c b d (omega arith)) (eqb x y)
  where
    go : same_octets (a ++ b) (c ++ d) ≡ same_octets a c && same_octets b d → (t : Bool) → t && same_octets (a ++ b) (c ++ d) ≡ (t && same_octets a c) && same_octets b d
    go q true = q
    go q false = refl

-- ---- all_zero

-- a fold over it, from what was found so far
pub zeros-folded : (s : List ℕ) (so_far : Bool) → fold (λ (t : Bool) (x : ℕ). t && eqb x 0) so_far s ≡ so_far && all_zero s
unfolding all_zero
zeros-folded [] so_far = sym (both_so so_far)
zeros-folded (x ∷ xs) so_far = zeros-folded xs (so_far && eqb x 0) ∙ and_assoc so_far (eqb x 0) (all_zero xs)

-- zeros are all there is
pub zeros-are : (xs : List ℕ) → all_zero xs ≡ true → xs ≡ replicate (length xs) 0
unfolding all_zero
zeros-are [] e = refl
zeros-are (x ∷ xs) e =
    let p = both_true (eqb x 0) (all_zero xs) e in
    ap₂ (λ (y : ℕ) (ys : List ℕ). y ∷ ys) (eqb-true x 0 p.0) (zeros-are xs p.1)

pub zero-list : (n : ℕ) → all_zero (replicate n 0) ≡ true
unfolding all_zero
zero-list zero = refl
zero-list (suc n) = zero-list n

-- a list is as many zeros, as a test
pub same-zeros : (n : ℕ) (xs : List ℕ) → length xs ≡ n → same_octets (replicate n 0) xs ≡ all_zero xs
same-zeros n xs e = go (same_octets (replicate n 0) xs) refl (all_zero xs) refl
  where
    go : (s : Bool) → same_octets (replicate n 0) xs ≡ s → (t : Bool) → all_zero xs ≡ t → s ≡ t
    go true p true q = refl
    go false p false q = refl
    go true p false q =
        let z : false ≡ true = sym q ∙ ap all_zero (sym (same_true _ _ p)) ∙ zero-list n in
        apart (cc)
    go false p true q =
        let z : false ≡ true = sym p ∙ ap (λ (w : List ℕ). same_octets (replicate n 0) w) (zeros-are xs q ∙ ap (λ (i : ℕ). replicate i 0) e) ∙ same_refl (replicate n 0) in
        apart (cc)

-- ---- any_set

pub none-set : (n : ℕ) → any_set (replicate n false) ≡ false
unfolding any_set
none-set zero = refl
none-set (suc n) = none-set n

-- as the language tests a list
pub any-listed : (s : List Bool) → list_any (λ t. beq t true) s ≡ any_set s
unfolding any_set
any-listed [] = refl
any-listed (true ∷ ts) = refl
any-listed (false ∷ ts) = any-listed ts

-- ---- over

-- a loop that writes s over d, at i
pub copy_more : (d : List ℕ) (at : ℕ) (s dst : List ℕ) (i : ℕ) → dst ≡ paste d at s i → at + length s ≤ length d → i < length s
    → set dst (at + i) (get_or s i 0) ≡ paste d at s (i + 1)
copy_more d at s dst i e hd hs = rw (e, add-one) (paste-suc d at s i 0 (omega arith) hs)

pub copy-all : (d : List ℕ) (at : ℕ) (s dst : List ℕ) (i : ℕ) → dst ≡ paste d at s i → i ≤ length s → length s ≤ i → dst ≡ over d at s
unfolding over
copy-all d at s dst i e h k =
    let p : i ≡ length s = omega arith in
    let q : take i s ≡ s = take_all i s k in
    e ∙ ap (λ (l : List ℕ). take at d ++ l ++ drop (at + i) d) q ∙ ap (λ (n : ℕ). take at d ++ s ++ drop (at + n) d) p

-- a loop that writes s over d, each element changed by f, at i
pub changed-at : {A B : Type 0} (f : A → B) (s : List A) (i : ℕ) (a : A) (b : B) → i < length s → get_or (map f s) i b ≡ f (get_or s i a)
changed-at f [] i a b h = absurd (omega arith)
changed-at f (x ∷ xs) zero a b h = refl
changed-at f (x ∷ xs) (suc i) a b h = changed-at f xs i a b (omega arith)

pub change-more :
    {A : Type 0} (f : A → ℕ) (a : A) (d : List ℕ) (at : ℕ) (s : List A) (dst : List ℕ) (i y : ℕ) →
    dst ≡ paste d at (map f s) i →
    at + length s ≤ length d →
    i < length s →
    y ≡ f (get_or s i a) →
    set dst (at + i) y ≡ paste d at (map f s) (i + 1)
change-more f a d at s dst i y e hd hs q =
    let l = length-map s f in
    ap (set dst (at + i)) (q ∙ sym (changed-at f s i a 0 hs)) ∙ copy_more d at (map f s) dst i e (omega arith) (omega arith)

pub change-all : {A : Type 0} (f : A → ℕ) (d : List ℕ) (at : ℕ) (s : List A) (dst : List ℕ) (i : ℕ) → dst ≡ paste d at (map f s) i → i ≤ length s → length s ≤ i → dst ≡ over d at (map f s)
change-all f d at s dst i e h k = let l = length-map s f in copy-all d at (map f s) dst i e (omega arith) (omega arith)

-- one list written behind another is both written together
pub over-append : (d : List ℕ) (at : ℕ) (xs ys : List ℕ) → at ≤ length d → over (over d at xs) (at + length xs) ys ≡ over d at (xs ++ ys)
unfolding over
over-append d at xs ys h =
    let A = take at d ++ xs in
    let R = drop (at + length xs) d in
    let n : length A ≡ at + length xs = length-append (take at d) xs ∙ ap (λ (k : ℕ). k + length xs) (length-take-le at d h) in
    let a : take (at + length xs) (A ++ R) ≡ A = take_at A R (at + length xs) n in
    let m : at + length xs + length ys ≡ at + length (xs ++ ys) = omega (arith, length-append xs ys) in
    let b : drop (at + length xs + length ys) (A ++ R) ≡ drop (at + length (xs ++ ys)) d =
    ap (λ (k : ℕ). drop (k + length ys) (A ++ R)) (sym n) ∙ drop-append-add A R (length ys) ∙ drop-drop (length ys) (at + length xs) d
    ∙ ap (λ (k : ℕ). drop k d) m in
    rw (a, b) (ap (λ (l : List ℕ). l ++ drop (at + length (xs ++ ys)) d) (append_assoc (take at d) xs ys))

-- the end of a beginning
pub drop-take : (m n : ℕ) (l : List ℕ) → drop m (take n l) ≡ take (n - m) (drop m l)
drop-take zero n l = ap (λ (k : ℕ). take k l) (sym (sub-zero n))
drop-take (suc m) zero l = sym (ap (λ (k : ℕ). take k (drop (suc m) l)) (zero-sub (suc m)))
drop-take (suc m) (suc n) [] = sym (take-nil (suc n - suc m))
drop-take (suc m) (suc n) (x ∷ xs) = drop-take m n xs ∙ ap (λ (k : ℕ). take k (drop m xs)) (sym (let e : suc n - suc m ≡ n - m = omega arith in e))

-- ---- windows

-- k elements at j
window : (j k : ℕ) (l : List ℕ) → take k (drop j l) ≡ drop j (take (j + k) l)
window j k l = let e : j + k - j ≡ k = omega arith in sym (drop-take j (j + k) l ∙ rw e)

-- a part, as the code cuts it, `&s[j..j + k]`
pub part-is : (l : List ℕ) (j k : ℕ) → take (j + k - j) (drop j l) ≡ take k (drop j l)
part-is l j k = ap (λ (i : ℕ). take i (drop j l)) (add-sub_cancel_left j k)

-- a window of one list behind another
pub in-first : (xs ys : List ℕ) (j k : ℕ) → j + k ≤ length xs → take k (drop j (xs ++ ys)) ≡ take k (drop j xs)
in-first xs ys j k h = window j k (xs ++ ys) ∙ ap (drop j) (take-append-le (j + k) xs ys h) ∙ sym (window j k xs)

pub in-second : (xs ys : List ℕ) (n j k : ℕ) → length xs ≡ n → take k (drop (n + j) (xs ++ ys)) ≡ take k (drop j ys)
in-second xs ys n j k e = ap (take k) (ap (λ (i : ℕ). drop (i + j) (xs ++ ys)) (sym e) ∙ drop-append-add xs ys j)

-- a window of k elements at j, after a list was written over at `at`
module _ (xs : List ℕ) (at : ℕ) (p : List ℕ) (fits : at + length p ≤ length xs) where
  pub length_over : length (over xs at p) ≡ length xs
  unfolding over
  length_over = simp (length-append, length-take, length-drop) (omega arith)

  pub over-same : (k : ℕ) → length p ≡ k → take k (drop at (over xs at p)) ≡ p
  unfolding over
  over-same k e =
      rw (append_assoc (take at xs) p (drop (at + length p) xs), drop_at (take at xs) (p ++ drop (at + length p) xs) at (length-take-le at xs (omega arith)))
      (take_at p (drop (at + length p) xs) k e)

  pub over-before : (j k : ℕ) → j + k ≤ at → take k (drop j (over xs at p)) ≡ take k (drop j xs)
  unfolding over
  over-before j k h =
      let t : length (take at xs) ≡ at = length-take-le at xs (omega arith) in
      window j k (over xs at p)
      ∙ rw (append_assoc (take at xs) p (drop (at + length p) xs), take-append-le (j + k) (take at xs) (p ++ drop (at + length p) xs) (omega arith), take-take (j + k) at xs h)
      (sym (window j k xs))

  drop-after : (j : ℕ) → at + length p ≤ j → drop j (over xs at p) ≡ drop j xs
  unfolding over
  drop-after j h =
      let d : ℕ = j - (at + length p) in
      let t : length (take at xs) ≡ at = length-take-le at xs (omega arith) in
      let l : length (take at xs ++ p) ≡ at + length p = simp length-append (omega arith) in
      let e : j ≡ length (take at xs ++ p) + d = omega arith in
      let f : at + length p + d ≡ j = omega arith in
      ap (λ (i : ℕ). drop i (take at xs ++ p ++ drop (at + length p) xs)) e
      ∙ drop-append-add (take at xs ++ p) (drop (at + length p) xs) d
      ∙ drop-drop d (at + length p) xs
      ∙ ap (λ (i : ℕ). drop i xs) f

  pub over-after : (j k : ℕ) → at + length p ≤ j → take k (drop j (over xs at p)) ≡ take k (drop j xs)
  over-after j k h = ap (take k) (drop-after j h)

-- k octets from `at` on, lent as a part and given back as s, are written over
pub put-over : (d s : List ℕ) (at k : ℕ) → length s ≡ k → put_mid at (at + k - at) d s ≡ over d at s
unfolding over
put-over d s at k e =
    let z : drop (at + k) d ≡ drop (at + length s) d = ap (λ (n : ℕ). drop (at + n) d) (sym e) in
    ap (λ (l : List ℕ). take at d ++ (s ++ l)) (Post-is at (at + k) d (omega arith) ∙ z) ∙ sym (append_assoc (take at d) s (drop (at + length s) d))

-- ---- a part that goes to the end, `&s[n..]`
pub to_the_end : (p : List ℕ) (n : ℕ) → take (length p - n) (drop n p) ≡ drop n p
to_the_end p n = take_all (length p - n) (drop n p) (omega (arith, length-drop n p))

-- the octets from `at` on, lent as a part and given back with w written over their front, are written over
pub put-tail : (d s w : List ℕ) (at : ℕ) → at ≤ length d → s ≡ over (take (length d - at) (drop at d)) 0 w → put_mid at (length d - at) d s ≡ over d at w
unfolding over
put-tail d s w at h e =
    let q : drop (0 + length w) (drop at d) ≡ drop (at + length w) d = ap (λ (n : ℕ). drop n (drop at d)) (zero-add (length w)) ∙ drop-drop (length w) at d in
    let t : s ≡ w ++ drop (at + length w) d = e ∙ rw (to_the_end d at, q) in
    let z : post_of at (length d - at) d ≡ [] = Post-is at (length d) d h ∙ drop_of_length-le d (le_refl (length d)) in
    ap (λ (l : List ℕ). take at d ++ (s ++ l)) z ∙ ap (λ (l : List ℕ). take at d ++ l) (append-nil s ∙ t) ∙ sym (append_assoc (take at d) w (drop (at + length w) d))

-- the whole of d written over
pub over-whole : (d w : List ℕ) → length d ≡ length w → over d 0 w ≡ w
unfolding over
over-whole d w e =
    let k : length d ≤ 0 + length w = omega arith in
    let z : drop (0 + length w) d ≡ [] = drop_of_length-le d k in
    rw z (append-nil w)

-- what lies behind xs may be written over itself
pub over-kept : (d xs : List ℕ) (n k : ℕ) → length xs ≡ n → n + k ≤ length d → over d 0 xs ≡ over d 0 (xs ++ take k (drop n d))
unfolding over
over-kept d xs n k e h =
    let w = take k (drop n d) in
    let l : length w ≡ k = simp (length-take, length-drop) (omega arith) in
    let i : 0 + length xs ≡ n = omega arith in
    let j : n + k ≡ 0 + length (xs ++ w) = omega (arith, length-append xs w) in
    ap (λ (m : ℕ). xs ++ drop m d) i
    ∙ ap (λ (z : List ℕ). xs ++ z) (sym (take-append-drop k (drop n d)) ∙ ap (λ (z : List ℕ). w ++ z) (drop-drop k n d))
    ∙ sym (append_assoc xs w (drop (n + k) d)) ∙ ap (λ (m : ℕ). xs ++ w ++ drop m d) j

pub over-itself : (d : List ℕ) (at k : ℕ) → at + k ≤ length d → over d at (take k (drop at d)) ≡ d
unfolding over
over-itself d at k h =
    let l : length (take k (drop at d)) ≡ k = simp (length-take, length-drop) (omega arith) in
    ap (λ (i : ℕ). take at d ++ take k (drop at d) ++ drop (at + i) d) l ∙ ap (λ (w : List ℕ). w ++ drop (at + k) d) (sym (take-add at k d)) ∙ take-append-drop (at + k) d

-- the front written over, by what lies behind it
over_by : (o x w : List ℕ) → drop (length w) x ≡ drop (length w) o → over x 0 w ≡ over o 0 w
unfolding over
over_by o x w q = rw (zero-add, q)

-- what was written where w is written over all of it is gone
pub over-inside : (o p w : List ℕ) (at : ℕ) → at + length p ≤ length w → length w ≤ length o → over (over o at p) 0 w ≡ over o 0 w
over-inside o p w at h k = over_by o (over o at p) w (drop-after o at p (omega arith) (length w) h)

-- nothing written over changes nothing
pub over_nothing : (d : List ℕ) (at : ℕ) → d ≡ over d at []
unfolding over
over_nothing d at = sym (rw (append-nil, add-zero) (take-append-drop at d))

-- one octet stored is one octet written over
pub set-over : (d : List ℕ) (i x : ℕ) → i < length d → set d i x ≡ over d i (x ∷ [])
unfolding over
set-over [] i x h = absurd (omega arith)
set-over (y ∷ d) zero x h = refl
set-over (y ∷ d) (suc i) x h =
    let e : suc i + 1 ≡ suc (i + 1) = omega arith in
    rw e (ap (λ (l : List ℕ). y ∷ l) (set-over d i x (omega arith)))

-- two octets stored one behind the other, and three
pub set-two : (d : List ℕ) (n x y : ℕ) → n + 2 ≤ length d → set (set d n x) (n + 1) y ≡ over d n (x ∷ y ∷ [])
set-two d n x y h =
    let a : n < length d = omega arith in
    let b : n + 1 < length (set d n x) = omega (arith, length-set d n x) in
    set-over (set d n x) (n + 1) y b ∙ ap (λ (l : List ℕ). over l (n + 1) (y ∷ [])) (set-over d n x a) ∙ over-append d n (x ∷ []) (y ∷ []) (omega arith)

pub set-three : (d : List ℕ) (n x y z : ℕ) → n + 3 ≤ length d → set (set (set d n x) (n + 1) y) (n + 2) z ≡ over d n (x ∷ y ∷ z ∷ [])
set-three d n x y z h =
    let e = set (set d n x) (n + 1) y in
    let l : length e ≡ length d = length-set (set d n x) (n + 1) y ∙ length-set d n x in
    let b : n + 2 < length e = omega arith in
    set-over e (n + 2) z b ∙ ap (λ (l : List ℕ). over l (n + 2) (z ∷ [])) (set-two d n x y (omega arith)) ∙ over-append d n (x ∷ y ∷ []) (z ∷ []) (omega arith)

-- the octets of a number, as the language has them
pub two_be : (x : ℕ) → x < 2 ^ 16 → to_be_bytes w16 x ≡ two_octets x
unfolding two_octets
two_be x h = let e : x / 256 % 256 ≡ x / 256 = omega arith in rw e refl

pub four_be : (x : ℕ) → x < 2 ^ 32 → to_be_bytes w32 x ≡ four_octets x
unfolding two_octets four_octets
four_be x h =
    let a : x / 16777216 % 256 ≡ x / 65536 / 256 = omega arith in
    let c : x / 256 % 256 ≡ x % 65536 / 256 = omega arith in
    let d : x % 256 ≡ x % 65536 % 256 = omega arith in
    rw (a, c, d) refl

-- ---- numbers
pub four_is : (s : List ℕ) (at : ℕ) → from_be_bytes w32 (get_or s at 0 ∷ get_or s (at + 1) 0 ∷ get_or s (at + 2) 0 ∷ get_or s (at + 3) 0 ∷ []) ≡ four_at s at
unfolding two_at four_at
four_is s at = let e : at + 2 + 1 ≡ at + 3 = omega arith in rw e (omega arith)

-- numbers are read from their windows
pub octet-window : (s : List ℕ) (at n i : ℕ) → i < n → get_or s (at + i) 0 ≡ get_or (take n (drop at s)) i 0
octet-window s at n i h = sym (get_or-take n (drop at s) i 0 h ∙ get_or-drop at s i 0)

first-window : (s : List ℕ) (at n : ℕ) → 0 < n → get_or s at 0 ≡ get_or (take n (drop at s)) 0 0
first-window s at n h = ap (λ (i : ℕ). get_or s i 0) (sym (add-zero at)) ∙ octet-window s at n 0 h

pub two-window : (s : List ℕ) (at : ℕ) → two_at s at ≡ two_at (take 2 (drop at s)) 0
unfolding two_at
two-window s at = ap₂ (λ (x y : ℕ). x * 256 + y) (first-window s at 2 (omega arith)) (octet-window s at 2 1 (omega arith))

pub four-window : (s : List ℕ) (at : ℕ) → four_at s at ≡ four_at (take 4 (drop at s)) 0
unfolding four_at two_at
four-window s at =
    let e : at + 2 + 1 ≡ at + 3 = omega arith in
    let d : get_or s (at + 2 + 1) 0 ≡ get_or (take 4 (drop at s)) 3 0 = ap (λ (i : ℕ). get_or s i 0) e ∙ octet-window s at 4 3 (omega arith) in
    ap₂ (λ (x y : ℕ). x * 65536 + y) (ap₂ (λ (x y : ℕ). x * 256 + y) (first-window s at 4 (omega arith)) (octet-window s at 4 1 (omega arith)))
    (ap₂ (λ (x y : ℕ). x * 256 + y) (octet-window s at 4 2 (omega arith)) d)

-- and read back as they were written
pub two_back : (x : ℕ) → two_at (two_octets x) 0 ≡ x
unfolding two_at two_octets
two_back x = omega arith

pub four-back : (x : ℕ) → four_at (four_octets x) 0 ≡ x
unfolding four_at two_at four_octets two_octets
four-back x = omega arith

pub length_two : (x : ℕ) → length (two_octets x) ≡ 2
unfolding two_octets
length_two x = refl

pub length-four : (x : ℕ) → length (four_octets x) ≡ 4
unfolding four_octets two_octets
length-four x = refl
