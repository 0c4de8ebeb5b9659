-- What was laid out in lent octets reads back the same: each field is a window of the octets, and the window is the piece that was laid out. Assumes nothing.
use Rattle.std.proofs.Common.{Option, Some, None, is_some}
use Prim.Native.Nat.{ℕ, ◌+◌, ◌%◌, ◌≤◌, ◌<◌}
use mathlib.Core.Bool.{Bool, true, false, cond}
use mathlib.Core.Path.{◌≡◌, refl, sym, ap, ap₂, ◌∙◌}
use mathlib.Core.List.{List, [], ◌∷◌, ◌++◌, map}
use native.Mathlib.Nat.{add-zero, zero-add}
use native.Mathlib.Omega.{arith}
use lib.ListN.{length, take, drop, get_or, replicate, length-append, take-append-drop}
use lib.Seq.{take_all}
use Rattle.octets.specs.Octets.{over, shifted, same_octets, two_at, four_at, two_octets}
use Rattle.octets.proofs.Logic.{apart}
use Rattle.octets.proofs.OctetsLaws.{same_refl, in-first, in-second, octet-window, two-window, four-window, two_back, four-back}
use Rattle.octets.proofs.OctetsLaws.{length_two, length-four}
use Rattle.joining.proofs.Heads.{same-fields}
use Rattle.holding.specs.declared.Holding.{Holding}
use Rattle.frame.specs.Shape.{holding_shape}
use Rattle.holding.specs.Group.{Shaped}
use Rattle.form.specs.declared.Form.{Form}
use Rattle.form.specs.declared.Form.TheVariants.{HeaderFree, Interleaved}
use Rattle.session.specs.declared.Session.{Session}
use Rattle.numbers.specs.declared.GroupNumbers.{GroupNumbers}
use Rattle.numbers.proofs.PlaceLaws.{same_numbers}
use Rattle.lending.specs.Laid.{flag_octet, is_set, is_laid, number_octets, frame_octets, holding_octets, numbers_at, holding_at, holding_laid}
use Rattle.lending.specs.Laid.{form_octets, form_at, last_octets, last_at, session_head, session_laid, session_at, is_session, session_in}
use Rattle.lending.proofs.LaidLaws.{long_enough, form-free, form-interleaved, holding-there}
use Rattle.lending.proofs.PartsLaws.{session-there}
use Rattle.lending.proofs.Pieces.{A, B, C, D, F, M, O, G, S, P, Q, K, E, Z, T, length-ab, length-abc, length-abcd, length-numbers, length-f}
use Rattle.lending.proofs.Pieces.{length-m, length-fn, length_types, length-holding, length-holding-laid, length-form, length-og, length-ogs}
use Rattle.lending.proofs.Pieces.{length-ogsp, length-kez, length-ogspq, length_last, length-head, length-grouped, length-session-laid}
use Rattle.claims.specs.Packets.{AreOctets}
use Rattle.claims.specs.Lent.{HoldingReadsBack, NoneRemembered, ReadsNone, NothingPouredNothingRemembered, SessionReadsBack}
use Rattle.claims.proofs.Lent.{are-laid}

-- ---- flags and types
flags-back : (fs : List Bool) → map is_set (map flag_octet fs) ≡ fs
flags-back [] = refl
flags-back (true ∷ fs) = ap (λ (l : List Bool). true ∷ l) (flags-back fs)
flags-back (false ∷ fs) = ap (λ (l : List Bool). false ∷ l) (flags-back fs)

types-back : (ts : List ℕ) → AreOctets ts → map (shifted 14) (map (shifted 242) ts) ≡ ts
types-back [] h = refl
types-back (t ∷ ts) h =
    let e : ((t + 242) % 256 + 14) % 256 ≡ t = omega (arith, h.0) in
    ap₂ (λ (x : ℕ) (l : List ℕ). x ∷ l) e (types-back ts h.1)

-- ---- a holding: its pieces, by their windows
module _ (h : Holding) (x : Shaped holding_shape h) (z : AreOctets h.marks) where
  -- a window of the first twelve octets, and of those behind the first sixteen
  low : (k n : ℕ) → k + n ≤ 12 → take n (drop k (holding_octets h)) ≡ take n (drop k (A h ++ B h ++ C h ++ D h))
  unfolding holding_octets number_octets
  low k n p =
      in-first (number_octets h) (frame_octets h) k n (omega (arith, length-numbers h))
      ∙ in-first (A h ++ B h ++ C h ++ D h) (replicate 4 0) k n (omega (arith, length-abcd h))

  high : (k n : ℕ) → take n (drop (16 + k) (holding_octets h)) ≡ take n (drop k (frame_octets h))
  unfolding holding_octets
  high k n = in-second (number_octets h) (frame_octets h) 16 k n (length-numbers h)

  source-piece : take 4 (drop 0 (holding_octets h)) ≡ A h
  source-piece =
      low 0 4 (omega arith) ∙ in-first (A h ++ B h ++ C h) (D h) 0 4 (omega (arith, length-abc h)) ∙ in-first (A h ++ B h) (C h) 0 4 (omega (arith, length-ab h))
      ∙ in-first (A h) (B h) 0 4 (omega (arith, length-four h.source)) ∙ take_all 4 (A h) (omega (arith, length-four h.source))

  sequence-piece : take 2 (drop 4 (holding_octets h)) ≡ B h
  sequence-piece =
      low 4 2 (omega arith) ∙ in-first (A h ++ B h ++ C h) (D h) 4 2 (omega (arith, length-abc h)) ∙ in-first (A h ++ B h) (C h) 4 2 (omega (arith, length-ab h))
      ∙ in-second (A h) (B h) 4 0 2 (length-four h.source) ∙ take_all 2 (B h) (omega (arith, length_two h.numbers.sequence))

  timestamp-piece : take 4 (drop 6 (holding_octets h)) ≡ C h
  timestamp-piece =
      low 6 4 (omega arith) ∙ in-first (A h ++ B h ++ C h) (D h) 6 4 (omega (arith, length-abc h)) ∙ in-second (A h ++ B h) (C h) 6 0 4 (length-ab h)
      ∙ take_all 4 (C h) (omega (arith, length-four h.numbers.timestamp))

  sizes-piece : take 2 (drop 10 (holding_octets h)) ≡ D h
  sizes-piece = low 10 2 (omega arith) ∙ in-second (A h ++ B h ++ C h) (D h) 10 0 2 (length-abc h)

  -- which packets are held, eight octets that stand for nothing, and the types
  abbrev flags : List ℕ
  flags = F h.held h.marks

  abbrev types : List ℕ
  types = M h.held h.marks

  length_both : length (flags ++ replicate 8 0) ≡ 16
  length_both = length-fn h.held h.marks x.long_held

  length-all : length (flags ++ replicate 8 0 ++ types) ≡ 96
  length-all = length_types h.held h.marks x.long_held x.long_marks

  flags-piece : take 8 (drop 16 (holding_octets h)) ≡ flags
  unfolding frame_octets
  flags-piece =
      let l = length-f h.held h.marks x.long_held in
      high 0 8 ∙ in-first (flags ++ replicate 8 0 ++ types) h.room 0 8 (omega (arith, length-all)) ∙ in-first (flags ++ replicate 8 0) types 0 8 (omega (arith, length_both))
      ∙ in-first flags (replicate 8 0) 0 8 (omega arith) ∙ take_all 8 flags (omega arith)

  types-piece : take 80 (drop 32 (holding_octets h)) ≡ types
  unfolding frame_octets
  types-piece =
      high 16 80 ∙ in-first (flags ++ replicate 8 0 ++ types) h.room 16 80 (omega (arith, length-all)) ∙ in-second (flags ++ replicate 8 0) types 16 0 80 length_both
      ∙ take_all 80 types (omega (arith, length-m h.held h.marks x.long_marks))

  room-piece : take 1760 (drop 112 (holding_octets h)) ≡ h.room
  unfolding frame_octets
  room-piece = high 96 1760 ∙ in-second (flags ++ replicate 8 0 ++ types) h.room 96 0 1760 length-all ∙ take_all 1760 h.room (omega (arith, x.long_room))

  -- octets in which the holding is laid out from index `at` on
  module _ (o : List ℕ) (at : ℕ) (there : (k n : ℕ) → k + n ≤ 1872 → take n (drop (at + k) o) ≡ take n (drop k (holding_octets h))) where
    front : (n : ℕ) → n ≤ 1872 → take n (drop at o) ≡ take n (drop 0 (holding_octets h))
    front n p = ap (λ (i : ℕ). take n (drop i o)) (sym (add-zero at)) ∙ there 0 n (omega arith)

    size-at : (i j : ℕ) → j ≡ at + 10 + i → i < 2 → get_or o j 0 ≡ get_or (D h) i 0
    size-at i j e p =
        ap (λ (y : ℕ). get_or o y 0) e ∙ octet-window o (at + 10) 2 i p ∙ ap (λ (w : List ℕ). get_or w i 0) (there 10 2 (omega arith) ∙ sizes-piece)

    holding-back : holding_at o at ≡ h
    unfolding holding_at numbers_at
    holding-back =
        let later : at + 4 + 2 ≡ at + 6 = omega arith in
        same-fields (four-window o at ∙ ap (λ (w : List ℕ). four_at w 0) (front 4 (omega arith) ∙ source-piece) ∙ four-back h.source)
        (two-window o (at + 4) ∙ ap (λ (w : List ℕ). two_at w 0) (there 4 2 (omega arith) ∙ sequence-piece) ∙ two_back h.numbers.sequence)
        (ap (four_at o) later ∙ four-window o (at + 6) ∙ ap (λ (w : List ℕ). four_at w 0) (there 6 4 (omega arith) ∙ timestamp-piece) ∙ four-back h.numbers.timestamp)
        (size-at 0 (at + 4 + 6) (omega arith) (omega arith))
        (size-at 1 (at + 4 + 7) (omega arith) (omega arith))
        (ap (map is_set) (there 16 8 (omega arith) ∙ flags-piece) ∙ flags-back h.held)
        (ap (map (shifted 14)) (there 32 80 (omega arith) ∙ types-piece) ∙ types-back h.marks z)
        (there 112 1760 (omega arith) ∙ room-piece)

-- the numbers that lie where those of the last poured group do
abbrev numbers_of_last : List ℕ → GroupNumbers
numbers_of_last o = record { sequence = two_at o 9; timestamp = four_at o 16; l = get_or o 11 0; b = get_or o 12 0 }

same-session : {o o' : Bool} {s s' : ℕ} {f f' : Form} {g g' : Holding} {l l' : Option GroupNumbers} → o ≡ o' → s ≡ s' → f ≡ f' → g ≡ g' → l ≡ l'
    → ◌≡◌ {A = Session} (record { «open» = o; source = s; form = f; group = g; last = l }) (record { «open» = o'; source = s'; form = f'; group = g'; last = l' })
same-session a b c d e = cc

flag-back : (b : Bool) → is_set (flag_octet b) ≡ b
flag-back true = refl
flag-back false = refl

-- ---- a session: its pieces, by their windows
module _ (s : Session) where
  -- a window of the first octets is one of a shorter beginning
  to-q : (k n : ℕ) → k + n ≤ 20 → take n (drop k (session_head s)) ≡ take n (drop k (O s ++ G s ++ S s ++ P s ++ Q s))
  unfolding session_head
  to-q k n p = in-first (O s ++ G s ++ S s ++ P s ++ Q s) (replicate 12 0) k n (omega (arith, (length-ogspq s)))

  to-p : (k n : ℕ) → k + n ≤ 9 → take n (drop k (session_head s)) ≡ take n (drop k (O s ++ G s ++ S s ++ P s))
  to-p k n p = to-q k n (omega arith) ∙ in-first (O s ++ G s ++ S s ++ P s) (Q s) k n (omega (arith, (length-ogsp s)))

  to-s : (k n : ℕ) → k + n ≤ 8 → take n (drop k (session_head s)) ≡ take n (drop k (O s ++ G s ++ S s))
  to-s k n p = to-p k n (omega arith) ∙ in-first (O s ++ G s ++ S s) (P s) k n (omega (arith, (length-ogs s)))

  to-g : (k n : ℕ) → k + n ≤ 4 → take n (drop k (session_head s)) ≡ take n (drop k (O s ++ G s))
  to-g k n p = to-s k n (omega arith) ∙ in-first (O s ++ G s) (S s) k n (omega (arith, (length-og s)))

  open-piece : take 1 (drop 0 (session_head s)) ≡ O s
  open-piece = to-g 0 1 (omega arith)

  form-piece : take 3 (drop 1 (session_head s)) ≡ G s
  form-piece = to-g 1 3 (omega arith) ∙ take_all 3 (G s) (omega (arith, length-form s.form))

  from-piece : take 4 (drop 4 (session_head s)) ≡ S s
  from-piece = to-s 4 4 (omega arith) ∙ in-second (O s ++ G s) (S s) 4 0 4 (length-og s) ∙ take_all 4 (S s) (omega (arith, length-four s.source))

  poured-piece : take 1 (drop 8 (session_head s)) ≡ P s
  poured-piece = to-p 8 1 (omega arith) ∙ in-second (O s ++ G s ++ S s) (P s) 8 0 1 (length-ogs s)

  last-piece : take 11 (drop 9 (session_head s)) ≡ Q s
  last-piece = to-q 9 11 (omega arith) ∙ in-second (O s ++ G s ++ S s ++ P s) (Q s) 9 0 11 (length-ogsp s) ∙ take_all 11 (Q s) (omega (arith, length_last s.last))

  -- the base timestamp of the last poured group, if there is one
  time-piece : (g : GroupNumbers) → s.last ≡ Some g → take 4 (drop 16 (session_head s)) ≡ T g
  unfolding last_octets
  time-piece g e =
      let q : Q s ≡ K g ++ E g ++ Z g ++ T g = ap last_octets e in
      to-q 16 4 (omega arith) ∙ in-second (O s ++ G s ++ S s ++ P s) (Q s) 9 7 4 (length-ogsp s) ∙ ap (λ (w : List ℕ). take 4 (drop 7 w)) q
      ∙ in-second (K g ++ E g ++ Z g) (T g) 7 0 4 (length-kez g) ∙ take_all 4 (T g) (omega (arith, length-four g.timestamp))

  -- octets that begin as the session is laid out
  module _ (rest : List ℕ) where
    abbrev all : List ℕ
    all = session_laid s ++ rest

    head-there : (k n : ℕ) → k + n ≤ 32 → take n (drop k all) ≡ take n (drop k (session_head s))
    unfolding session_laid
    head-there k n p =
        let H = holding_octets s.group in
        let l = length-head s in
        let a = length-append (session_head s) H in
        let b = length-append (session_head s ++ H) (replicate 400 0) in
        in-first (session_head s ++ H ++ replicate 400 0) rest k n (omega arith) ∙ in-first (session_head s ++ H) (replicate 400 0) k n (omega arith)
        ∙ in-first (session_head s) H k n (omega arith)

    group-there : Shaped holding_shape s.group → (k n : ℕ) → k + n ≤ 1872 → take n (drop (32 + k) all) ≡ take n (drop k (holding_octets s.group))
    unfolding session_laid
    group-there x k n p =
        let H = holding_octets s.group in
        let l = length-head s in
        let m = length-grouped s x in
        let b = length-append (session_head s ++ H) (replicate 400 0) in
        in-first (session_head s ++ H ++ replicate 400 0) rest (32 + k) n (omega arith) ∙ in-first (session_head s ++ H) (replicate 400 0) (32 + k) n (omega arith)
        ∙ in-second (session_head s) H 32 k n l

    octet : (k n i : ℕ) (w : List ℕ) → k + n ≤ 32 → i < n → take n (drop k (session_head s)) ≡ w → get_or all (k + i) 0 ≡ get_or w i 0
    octet k n i w p q e = octet-window all k n i q ∙ ap (λ (y : List ℕ). get_or y i 0) (head-there k n p ∙ e)

    is_open : get_or all 0 0 ≡ flag_octet s.«open»
    is_open = octet 0 1 0 (O s) (omega arith) (omega arith) open-piece

    is-poured : get_or all 8 0 ≡ flag_octet (is_some s.last)
    is-poured = octet 8 1 0 (P s) (omega arith) (omega arith) poured-piece

    form-octet : (i : ℕ) → i < 3 → get_or all (1 + i) 0 ≡ get_or (G s) i 0
    form-octet i p = octet 1 3 i (G s) (omega arith) p form-piece

    form-back : form_at all 1 ≡ s.form
    unfolding form_octets
    form-back = go s.form (form-octet 0 (omega arith)) (form-octet 1 (omega arith)) (form-octet 2 (omega arith))
      where
        go : (f : Form) → get_or all 1 0 ≡ get_or (form_octets f) 0 0 → get_or all 2 0 ≡ get_or (form_octets f) 1 0 → get_or all 3 0 ≡ get_or (form_octets f) 2 0 → form_at all 1 ≡ f
        go HeaderFree a b c = sym (form-free all 1 (λ (e : get_or all 1 0 ≡ 1). absurd (omega arith)))
        go (Interleaved m) a b c = sym (form-interleaved all 1 a) ∙ ap₂ (λ (l n : ℕ). Interleaved (record { max_l = l; max_b = n })) b c

    last-octet : (i : ℕ) → i < 11 → get_or all (9 + i) 0 ≡ get_or (Q s) i 0
    last-octet i p = octet 9 11 i (Q s) (omega arith) p last-piece

    -- the numbers of the last poured group
    last-back : (g : GroupNumbers) → s.last ≡ Some g → numbers_of_last all ≡ g
    unfolding last_octets two_at two_octets
    last-back g e =
        let w = K g ++ E g ++ Z g ++ T g in
        let z : (i : ℕ) → i < 11 → get_or all (9 + i) 0 ≡ get_or w i 0 = λ i p. last-octet i p ∙ ap (λ (q : Option GroupNumbers). get_or (last_octets q) i 0) e in
        let a = z 0 (omega arith) in
        let b = z 1 (omega arith) in
        same_numbers (omega arith)
        (four-window all 16 ∙ ap (λ (w : List ℕ). four_at w 0) (head-there 16 4 (omega arith) ∙ time-piece g e) ∙ four-back g.timestamp)
        (z 2 (omega arith))
        (z 3 (omega arith))

    -- where there is none, they read as zero
    last-zero : s.last ≡ None → ReadsNone all
    unfolding ReadsNone last_octets two_at four_at
    last-zero e =
        let z : (i : ℕ) → i < 11 → get_or all (9 + i) 0 ≡ get_or (replicate {A = ℕ} 11 0) i 0 =
        λ i p. last-octet i p ∙ ap (λ (q : Option GroupNumbers). get_or (last_octets q) i 0) e in
        let a = z 0 (omega arith) in
        let b = z 1 (omega arith) in
        let c = z 7 (omega arith) in
        let d = z 8 (omega arith) in
        let f = z 9 (omega arith) in
        let g = z 10 (omega arith) in
        (omega arith, (omega arith, (z 2 (omega arith), z 3 (omega arith))))

    -- and whether there is one
    last-same : last_at all ≡ s.last
    unfolding last_at
    last-same = go s.last refl
      where
        is-set : is_set (get_or all 8 0) ≡ is_some s.last
        is-set = ap is_set is-poured ∙ flag-back (is_some s.last)

        go : (l : Option GroupNumbers) → s.last ≡ l → cond (is_set (get_or all 8 0)) (Some (numbers_of_last all)) None ≡ l
        go None e = ap (λ (b : Bool). cond b (Some (numbers_of_last all)) None) (is-set ∙ ap is_some e)
        go (Some g) e = ap (λ (b : Bool). cond b (Some (numbers_of_last all)) None) (is-set ∙ ap is_some e) ∙ ap Some (last-back g e)

    session-back : Shaped holding_shape s.group → AreOctets s.group.marks → s ≡ session_at all
    unfolding session_at
    session-back x z =
        same-session (sym (ap is_set is_open ∙ flag-back s.«open»))
        (sym (four-window all 4 ∙ ap (λ (w : List ℕ). four_at w 0) (head-there 4 4 (omega arith) ∙ from-piece) ∙ four-back s.source))
        (sym form-back)
        (sym (holding-back s.group x z all 32 (group-there x)))
        (sym last-same)

-- ---- both, whatever the buffer held before
there-laid : (w rest : List ℕ) → length w ≡ 2304 → is_laid (w ++ rest) w ≡ true
unfolding is_laid
there-laid w rest l =
    let a = length-append w rest in
    let z : take 2304 (w ++ rest) ≡ w = in-first w rest 0 2304 (omega arith) ∙ take_all 2304 w (omega arith) in
    let y : same_octets w (take 2304 (w ++ rest)) ≡ true = ap (same_octets w) z ∙ same_refl w in
    simp (long_enough (w ++ rest) (omega arith), y)

laid-at : (h : Holding) → Shaped holding_shape h → AreOctets h.marks → (rest : List ℕ) → h ≡ holding_at (holding_laid h ++ rest) 0
unfolding holding_laid
laid-at h x z rest =
    let w = holding_octets h ++ replicate 432 0 in
    let a = length-append (holding_octets h) (replicate 432 0) in
    let l = length-holding h x in
    let there : (k n : ℕ) → k + n ≤ 1872 → take n (drop (0 + k) (w ++ rest)) ≡ take n (drop k (holding_octets h)) =
    λ k n p. ap (λ (i : ℕ). take n (drop i (w ++ rest))) (zero-add k) ∙ in-first w rest k n (omega arith) ∙ in-first (holding_octets h) (replicate 432 0) k n (omega arith) in
    sym (holding-back h x z (w ++ rest) 0 there)

pub holding_reads_back : HoldingReadsBack
unfolding HoldingReadsBack over
holding_reads_back h x z d =
    let w = holding_laid h in
    let rest = drop (0 + length w) d in
    sym (holding-there (w ++ rest) h (there-laid w rest (length-holding-laid h x)) (laid-at h x z rest))

pub session_reads_back : SessionReadsBack
unfolding SessionReadsBack over
session_reads_back s x z d =
    let w = session_laid s in
    let rest = drop (0 + length w) d in
    sym (session-there (w ++ rest) s (there-laid w rest (length-session-laid s x)) (session-back s rest x z))

-- ---- what no group was poured in remembers none
none-remembered : (s : Session) → NoneRemembered s
unfolding NoneRemembered
none-remembered s = go s.last
  where
    go : (l : Option GroupNumbers) → is_some l ≡ false → l ≡ None
    go None e = refl
    go (Some g) e = apart (cc)

laid_none : (o : List ℕ) → session_laid (session_at o) ≡ take 2304 o → (session_at o).last ≡ None → ReadsNone o
unfolding ReadsNone
laid_none o e q =
    let rest = drop 2304 o in
    let y : o ≡ session_laid (session_at o) ++ rest = sym (ap (λ (w : List ℕ). w ++ rest) e ∙ take-append-drop 2304 o) in
    let z = last-zero (session_at o) rest q in (
      ap (λ (w : List ℕ). two_at w 9) y ∙ z.0,
      (ap (λ (w : List ℕ). four_at w 16) y ∙ z.1.0, (ap (λ (w : List ℕ). get_or w 11 0) y ∙ z.1.1.0, ap (λ (w : List ℕ). get_or w 12 0) y ∙ z.1.1.1)),
    )

octets_none : (o : List ℕ) → is_session o ≡ true → is_some (session_in o).last ≡ false → ReadsNone o
unfolding is_session session_in NoneRemembered
octets_none o e q =
    let there : session_in o ≡ session_at o = simp e in
    laid_none o (are-laid o (session_laid (session_at o)) e) (ap (λ (s : Session). s.last) (sym there) ∙ none-remembered (session_in o) q)

pub nothing_poured_nothing_remembered : NothingPouredNothingRemembered
nothing_poured_nothing_remembered = record {
  opened = λ source form. none-remembered _;
  lent = λ o. none-remembered _;
  offers = λ v s source sequence timestamp p. none-remembered _;
  pours = λ s. none-remembered _;
  octets = octets_none;
}
