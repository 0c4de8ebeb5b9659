-- The pieces that a holding and a session are laid out in, and how long each beginning is. Assumes nothing.
use Prim.Native.Nat.{ℕ, ◌+◌}
use Rattle.std.specs.Prelude.{Option, Some, None, is_some}
use mathlib.Core.Bool.{Bool}
use mathlib.Core.Path.{◌≡◌, refl, sym, ap, ap₂, ◌∙◌}
use mathlib.Core.List.{List, [], ◌∷◌, ◌++◌, map, append_assoc}
use native.Mathlib.Omega.{arith}
use lib.ListN.{length, replicate, length-append, length-map, length-replicate}
use Rattle.octets.specs.Octets.{shifted, two_octets, four_octets}
use Rattle.octets.proofs.OctetsLaws.{length_two, length-four}
use Rattle.form.specs.declared.Form.{Form}
use Rattle.form.specs.declared.Form.TheVariants.{HeaderFree, Interleaved}
use Rattle.frame.specs.Shape.{holding_shape}
use Rattle.holding.specs.Group.{Shaped}
use Rattle.holding.specs.declared.Holding.{Holding}
use Rattle.numbers.specs.declared.GroupNumbers.{GroupNumbers}
use Rattle.session.specs.declared.Session.{Session}
use Rattle.lending.specs.Laid.{flag_octet, number_octets, frame_octets, holding_octets, holding_laid, form_octets, last_octets}
use Rattle.lending.specs.Laid.{session_head, session_laid}
use Rattle.lending.specs.Parts.{type_octets, group_octets, front_octets}

-- ---- which packets are held, and the types
module _ (hs : List Bool) (ms : List ℕ) where
  abbrev pub F : List ℕ
  F = map flag_octet hs

  abbrev pub M : List ℕ
  M = map (shifted 242) ms

  pub length-m : length ms ≡ 80 → length M ≡ 80
  length-m y = length-map ms (shifted 242) ∙ y

  module _ (x : length hs ≡ 8) where
    pub length-f : length F ≡ 8
    length-f = length-map hs flag_octet ∙ x

    pub length-fn : length (F ++ replicate 8 0) ≡ 16
    length-fn = length-append F (replicate 8 0) ∙ omega (arith, length-f)

    pub length_types : length ms ≡ 80 → length (type_octets hs ms) ≡ 96
    length_types y = length-append (F ++ replicate 8 0) M ∙ ap₂ ◌+◌ length-fn (length-m y)

-- ---- a holding: its bodies lie behind all the rest of it
pub holding-parts : (h : Holding) → holding_octets h ≡ group_octets h ++ h.room
unfolding holding_octets group_octets frame_octets
holding-parts h = sym (append_assoc (number_octets h) (type_octets h.held h.marks) h.room)

module _ (h : Holding) where
  abbrev pub A : List ℕ
  A = four_octets h.source

  abbrev pub B : List ℕ
  B = two_octets h.numbers.sequence

  abbrev pub C : List ℕ
  C = four_octets h.numbers.timestamp

  abbrev pub D : List ℕ
  D = h.numbers.l ∷ h.numbers.b ∷ []

  pub length-ab : length (A ++ B) ≡ 6
  length-ab = length-append A B ∙ ap₂ ◌+◌ (length-four h.source) (length_two h.numbers.sequence)

  pub length-abc : length (A ++ B ++ C) ≡ 10
  length-abc = length-append (A ++ B) C ∙ ap₂ ◌+◌ length-ab (length-four h.numbers.timestamp)

  pub length-abcd : length (A ++ B ++ C ++ D) ≡ 12
  length-abcd = length-append (A ++ B ++ C) D ∙ omega (arith, length-abc)

  pub length-numbers : length (number_octets h) ≡ 16
  unfolding number_octets
  length-numbers = length-append (A ++ B ++ C ++ D) (replicate 4 0) ∙ omega (arith, length-abcd)

  module _ (x : Shaped holding_shape h) where
    pub length-group : length (group_octets h) ≡ 112
    unfolding group_octets
    length-group =
        length-append (number_octets h) (type_octets h.held h.marks) ∙ ap₂ ◌+◌ length-numbers (length_types h.held h.marks x.long_held x.long_marks)

    pub length-holding : length (holding_octets h) ≡ 1872
    length-holding = ap length (holding-parts h) ∙ length-append (group_octets h) h.room ∙ ap₂ ◌+◌ length-group x.long_room

    pub length-holding-laid : length (holding_laid h) ≡ 2304
    unfolding holding_laid
    length-holding-laid = length-append (holding_octets h) (replicate 432 0) ∙ ap₂ ◌+◌ length-holding (length-replicate {A = ℕ} 432 0)

-- ---- a form
pub length-form : (f : Form) → length (form_octets f) ≡ 3
unfolding form_octets
length-form HeaderFree = refl
length-form (Interleaved m) = refl

-- ---- the numbers of the last poured group
module _ (g : GroupNumbers) where
  abbrev pub K : List ℕ
  K = two_octets g.sequence

  abbrev pub E : List ℕ
  E = g.l ∷ g.b ∷ []

  abbrev pub Z : List ℕ
  Z = replicate 3 0

  abbrev pub T : List ℕ
  T = four_octets g.timestamp

  pub length-ke : length (K ++ E) ≡ 4
  length-ke = length-append K E ∙ omega (arith, length_two g.sequence)

  pub length-kez : length (K ++ E ++ Z) ≡ 7
  length-kez = length-append (K ++ E) Z ∙ omega (arith, length-ke)

pub length_last : (l : Option GroupNumbers) → length (last_octets l) ≡ 11
unfolding last_octets
length_last None = refl
length_last (Some g) = length-append (K g ++ E g ++ Z g) (T g) ∙ ap₂ ◌+◌ (length-kez g) (length-four g.timestamp)

-- ---- all of a session but its group
module _ (s : Session) where
  abbrev pub O : List ℕ
  O = flag_octet s.«open» ∷ []

  abbrev pub G : List ℕ
  G = form_octets s.form

  abbrev pub S : List ℕ
  S = four_octets s.source

  abbrev pub P : List ℕ
  P = flag_octet (is_some s.last) ∷ []

  abbrev pub Q : List ℕ
  Q = last_octets s.last

  pub length-og : length (O ++ G) ≡ 4
  length-og = length-append O G ∙ omega (arith, length-form s.form)

  pub length-ogs : length (O ++ G ++ S) ≡ 8
  length-ogs = length-append (O ++ G) S ∙ ap₂ ◌+◌ length-og (length-four s.source)

  pub length-ogsp : length (O ++ G ++ S ++ P) ≡ 9
  length-ogsp = length-append (O ++ G ++ S) P ∙ omega (arith, length-ogs)

  pub length-ogspq : length (O ++ G ++ S ++ P ++ Q) ≡ 20
  length-ogspq = length-append (O ++ G ++ S ++ P) Q ∙ ap₂ ◌+◌ length-ogsp (length_last s.last)

  pub length-head : length (session_head s) ≡ 32
  unfolding session_head
  length-head = length-append (O ++ G ++ S ++ P ++ Q) (replicate 12 0) ∙ omega (arith, length-ogspq)

  -- a session's, too: before the bodies of its group, the bodies, and zeros behind them
  pub session-parts : session_laid s ≡ front_octets s ++ s.group.room ++ replicate 400 0
  unfolding session_laid front_octets
  session-parts =
      ap (λ (w : List ℕ). w ++ replicate 400 0)
      (ap (λ (w : List ℕ). session_head s ++ w) (holding-parts s.group) ∙ sym (append_assoc (session_head s) (group_octets s.group) s.group.room))

  module _ (x : Shaped holding_shape s.group) where
    pub length-grouped : length (session_head s ++ holding_octets s.group) ≡ 1904
    length-grouped = length-append (session_head s) (holding_octets s.group) ∙ ap₂ ◌+◌ length-head (length-holding s.group x)

    pub length_front : length (front_octets s) ≡ 144
    unfolding front_octets
    length_front = length-append (session_head s) (group_octets s.group) ∙ ap₂ ◌+◌ length-head (length-group s.group x)

    pub length_before : length (front_octets s ++ s.group.room) ≡ 1904
    length_before = length-append (front_octets s) s.group.room ∙ ap₂ ◌+◌ length_front x.long_room

    pub length-session-laid : length (session_laid s) ≡ 2304
    length-session-laid =
        ap length session-parts ∙ length-append (front_octets s ++ s.group.room) (replicate 400 0) ∙ ap₂ ◌+◌ length_before (length-replicate {A = ℕ} 400 0)
