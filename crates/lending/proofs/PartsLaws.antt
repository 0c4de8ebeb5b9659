-- A session in lent octets, in parts: laid out around its bodies, judged without them, and found there. Assumes nothing.
use Rattle.std.specs.Prelude.{Result}
use Prim.Native.Nat.{ℕ, ◌+◌, ◌-◌, ◌≤◌, ◌<◌}
use mathlib.Core.Bool.{Bool, true, false, ◌&&◌}
use mathlib.Core.Path.{◌≡◌, refl, sym, ap, ap₂, subst, ◌∙◌}
use mathlib.Core.List.{List, ◌++◌}
use native.Mathlib.Omega.{arith}
use lib.ListN.{length, take, drop, get_or, replicate, length-append, length-replicate, length-take, length-drop, take-append-drop}
use lib.Seq.{take_all, take-add}
use borrow.Rule.Slice.PartMut.{put_mid}
use Rattle.answers.specs.declared.Refusal.{Refusal}
use Rattle.octets.specs.Octets.{over, same_octets, all_zero}
use Rattle.octets.proofs.Logic.{both_true, both_so}
use Rattle.octets.proofs.OctetsLaws.{same_refl, same_true, same-split, same-zeros, over-same, over-whole, over-kept, over-itself, over-inside, put-over, in-first, in-second}
use Rattle.frame.specs.Shape.{holding_shape}
use Rattle.form.specs.Agreed.{voice_for}
use Rattle.answers.specs.Outputs.{octets}
use Rattle.entries.specs.Entries.{entries_of}
use Rattle.pouring.specs.Pouring.{in_time}
use Rattle.holding.specs.Group.{Shaped, Spans, nothing}
use Rattle.holding.proofs.GroupLaws.{sound-has, holds-sound}
use Rattle.session.specs.Session.{Offered, vacant, never_opened, is_open, pour_made, ended}
use Rattle.session.specs.Standing.{whole, Stands, offered_in}
use Rattle.session.specs.declared.Standing.{Standing}
use Rattle.session.specs.declared.Session.{Session}
use Rattle.session.proofs.Ends.{open-has}
use Rattle.session.proofs.SessionLaws.{group-holds, pour-group}
use Rattle.session.proofs.StandingLaws.{stands_of}
use Rattle.lending.specs.Laid.{is_long, is_laid, numbers_at, holding_at, holding_octets, holding_laid, session_head, session_laid, session_at, is_session, session_in, session_voice}
use Rattle.lending.specs.Parts.{group_octets, front_octets, types_at, bodies_at}
use Rattle.lending.proofs.Pieces.{length-holding, length-grouped, length-head, session-parts, length_front, length_before, length-session-laid}
use Rattle.lending.proofs.LaidLaws.{lay-more, all-of-holding, long_enough, too_short, laid-long, at-shaped}

-- the bodies that lie in a session's octets
pub bodies-long : (o : List ℕ) → 2304 ≤ length o → length (bodies_at o) ≡ 1760
bodies-long o h = simp (length-take, length-drop) (omega arith)

-- ---- laid out
pub front-laid : (s : Session) (d o₁ o₂ : List ℕ) → o₁ ≡ over d 0 (session_head s) → o₂ ≡ over o₁ 32 (group_octets s.group) → o₂ ≡ over d 0 (front_octets s)
unfolding front_octets
front-laid s d o₁ o₂ e₁ e₂ =
    let z : 0 ≤ length d = omega arith in
    let l : 32 ≡ 0 + length (session_head s) = omega (arith, length-head s) in
    lay-more d o₁ o₂ 0 32 (session_head s) (group_octets s.group) z e₁ l e₂

module _ (t : Standing) (ms d : List ℕ) where
  abbrev around : Session
  around = whole t ms (bodies_at d)

  pub session-laid : length t.held ≡ 8 → length ms ≡ 80 → 2304 ≤ length d → (o₁ o₂ : List ℕ) → o₁ ≡ over d 0 (front_octets around) → o₂ ≡ over o₁ 1904 (replicate 400 0)
      → (o₂ ≡ over d 0 (session_laid around)) × (length (session_laid around) ≡ 2304)
  session-laid lh lm h o₁ o₂ e₁ e₂ =
      let x : Shaped holding_shape around.group = record { long_held = lh; long_marks = lm; long_room = bodies-long d h } in
      let f = front_octets around in
      let z : 0 ≤ length d = omega arith in
      let l : 1904 ≡ 0 + length (f ++ bodies_at d) = omega (arith, length_before around x) in
      let k : o₁ ≡ over d 0 (f ++ bodies_at d) = e₁ ∙ over-kept d f 144 1760 (length_front around x) (omega arith) in
      (lay-more d o₁ o₂ 0 1904 (f ++ bodies_at d) (replicate 400 0) z k l e₂ ∙ ap (over d 0) (sym (session-parts around)), length-session-laid around x)

-- a session laid out where its bodies were written first
pub around-laid : (t : Standing) (ms rs o : List ℕ) → length rs ≡ 1760 → 2304 ≤ length o → (o₁ o₂ : List ℕ) → o₁ ≡ over o 144 rs
    → (o₂ ≡ over o₁ 0 (session_laid (whole t ms (bodies_at o₁)))) × (length (session_laid (whole t ms (bodies_at o₁))) ≡ 2304) → o₂ ≡ over o 0 (session_laid (whole t ms rs))
around-laid t ms rs o lr h o₁ o₂ e₁ e₂ =
    let b : bodies_at o₁ ≡ rs = ap bodies_at e₁ ∙ over-same o 144 rs (omega arith) 1760 lr in
    let l : length (session_laid (whole t ms rs)) ≡ 2304 = ap (λ (z : List ℕ). length (session_laid (whole t ms z))) (sym b) ∙ e₂.1 in
    e₂.0 ∙ ap₂ (λ (y z : List ℕ). over y 0 (session_laid (whole t ms z))) e₁ b ∙ over-inside o rs (session_laid (whole t ms rs)) 144 (omega arith) (omega arith)

pub around-kept : (t : Standing) (ms o o₁ o₂ : List ℕ) → 2304 ≤ length o → length o₁ ≡ length o → o₁ ≡ over o 144 (bodies_at o₁)
    → (o₂ ≡ over o₁ 0 (session_laid (whole t ms (bodies_at o₁)))) × (length (session_laid (whole t ms (bodies_at o₁))) ≡ 2304)
    → o₂ ≡ over o 0 (session_laid (whole t ms (bodies_at o₁)))
around-kept t ms o o₁ o₂ h l e₁ e₂ = around-laid t ms (bodies_at o₁) o (bodies-long o₁ (omega arith)) h o₁ o₂ e₁ e₂

-- what was answered, its bodies lent as a part of the session's octets and given back
pub taken_back : (r : Result ℕ Refusal) (t : Standing) (ns o rs o₁ : List ℕ) (x : Offered) → 2304 ≤ length o → length rs ≡ length (bodies_at o) → o₁ ≡ put_mid 144 1760 o rs → offered_in r t ns rs ≡ x
    → (offered_in r t ns (bodies_at o₁) ≡ x) × (o₁ ≡ over o 144 (bodies_at o₁))
taken_back r t ns o rs o₁ x h l e y =
    let k : length rs ≡ 1760 = l ∙ bodies-long o h in
    let q : o₁ ≡ over o 144 rs = e ∙ put-over o rs 144 1760 k in
    let b : bodies_at o₁ ≡ rs = ap bodies_at q ∙ over-same o 144 rs (omega arith) 1760 k in
    (ap (offered_in r t ns) b ∙ y, q ∙ ap (over o 144) (sym b))

-- ---- judged
parts-of : (o : List ℕ) → take 2304 o ≡ take 144 o ++ bodies_at o ++ take 400 (drop 1904 o)
parts-of o = take-add 1904 400 o ∙ ap (λ (w : List ℕ). w ++ take 400 (drop 1904 o)) (take-add 144 1760 o)

-- the group that octets say has a holding's room
shaped-at : (o : List ℕ) → 2304 ≤ length o → Shaped holding_shape (session_at o).group
unfolding session_at
shaped-at o h = at-shaped o 32 (omega arith)

-- all of the session that octets say
module _ (o : List ℕ) (t : Standing) (long : 2304 ≤ length o) (e : whole t (types_at o) (bodies_at o) ≡ session_at o) where
  abbrev s : Session
  s = whole t (types_at o) (bodies_at o)

  spans-at : Spans holding_shape t.held (types_at o) (bodies_at o)
  spans-at = subst (λ (x : Session). Shaped holding_shape x.group) (sym e) (shaped-at o long)

  judged-by : same_octets (front_octets s) (take 144 o) && all_zero (take 400 (drop 1904 o)) ≡ is_session o
  unfolding is_session is_laid
  judged-by =
      let f = front_octets s in
      let r = bodies_at o in
      let z = take 400 (drop 1904 o) in
      let l₁ : length f ≡ length (take 144 o) = length_front s spans-at ∙ sym (simp (length-take) (omega arith)) in
      let l₂ : length (f ++ r) ≡ length (take 144 o ++ r) = length-append f r ∙ ap (λ (i : ℕ). i + length r) l₁ ∙ sym (length-append (take 144 o) r) in
      let l₃ : length z ≡ 400 = simp (length-take, length-drop) (omega arith) in
      let a : same_octets (f ++ r) (take 144 o ++ r) ≡ same_octets f (take 144 o) =
      same-split f (take 144 o) r r l₁ ∙ ap (λ (b : Bool). same_octets f (take 144 o) && b) (same_refl r) ∙ both_so (same_octets f (take 144 o)) in
      let b : same_octets (session_laid s) (take 2304 o) ≡ same_octets f (take 144 o) && all_zero z =
      ap₂ same_octets (session-parts s) (parts-of o) ∙ same-split (f ++ r) (take 144 o ++ r) (replicate 400 0) z l₂ ∙ ap₂ ◌&&◌ a (same-zeros 400 z l₃) in
      sym b ∙ ap (λ (x : Session). same_octets (session_laid x) (take 2304 o)) e ∙ simp (long_enough o long)

  module _ (ms again : List ℕ) (m : ms ≡ types_at o) (q : again ≡ over (replicate 144 0) 0 (front_octets (whole t ms (bodies_at o)))) where
    again-is : again ≡ front_octets s
    again-is =
        q ∙ ap (λ (l : List ℕ). over (replicate 144 0) 0 (front_octets (whole t l (bodies_at o)))) m
        ∙ over-whole (replicate 144 0) (front_octets s) (length-replicate {A = ℕ} 144 0 ∙ sym (length_front s spans-at))

    tested : (b : Bool) → same_octets again (take 144 o) ≡ b → b && all_zero (take 400 (drop 1904 o)) ≡ is_session o
    tested b y = ap (λ (c : Bool). c && all_zero (take 400 (drop 1904 o))) (sym y ∙ ap (λ (w : List ℕ). same_octets w (take 144 o)) again-is) ∙ judged-by

    pub is-laid : same_octets again (take (144 - 0) (drop 0 o)) ≡ true → all_zero (take (2304 - 1904) (drop 1904 o)) ≡ is_session o
    is-laid y = tested true y

    pub not-laid : same_octets again (take (144 - 0) (drop 0 o)) ≡ false → false ≡ is_session o
    not-laid y = tested false y

pub short_is_none : (o : List ℕ) → length o < 2304 → false ≡ is_session o
unfolding is_session is_laid
short_is_none o h = simp (too_short o h)

-- ---- found there
-- bodies that are handed on as b are as many
pub handed-long : (o b : List ℕ) → b ≡ bodies_at o → 2304 ≤ length o → length b ≡ 1760
handed-long o b e h = ap length e ∙ bodies-long o h

pub session-long : (o : List ℕ) → is_session o ≡ true → 2304 ≤ length o
unfolding is_session
session-long o e = laid-long o (session_laid (session_at o)) e

-- and for a search
pub ruleset lengths = (session-long)

none_in : (o : List ℕ) → is_session o ≡ false → session_in o ≡ never_opened holding_shape
unfolding session_in
none_in o e = simp e

one_in : (o : List ℕ) → is_session o ≡ true → session_in o ≡ session_at o
unfolding session_in
one_in o e = simp e

-- a session that was laid out is
pub session-there : (o : List ℕ) (s : Session) → is_laid o (session_laid s) ≡ true → s ≡ session_at o → s ≡ session_in o
unfolding is_session
session-there o s e q = q ∙ sym (one_in o (ap (λ (y : Session). is_laid o (session_laid y)) (sym q) ∙ e))

pub none_open : (o : List ℕ) → is_session o ≡ false → false ≡ is_open (session_voice o) (session_in o)
unfolding is_open never_opened vacant
none_open o e = ap (λ (x : Session). is_open (voice_for x.form) x) (sym (none_in o e))

-- all of it but its types and bodies is t, and its types lie in ms
module _ (o : List ℕ) (t : Standing) (ms : List ℕ) (q : whole t (types_at o) (bodies_at o) ≡ session_at o) (m : ms ≡ types_at o) where
  whole_in : is_session o ≡ true → whole t ms (bodies_at o) ≡ session_in o
  whole_in e = ap (λ (l : List ℕ). whole t l (bodies_at o)) m ∙ q ∙ sym (one_in o e)

  pub one-open : is_session o ≡ true → is_open (voice_for t.form) (whole t ms (bodies_at o)) ≡ is_open (session_voice o) (session_in o)
  one-open e = ap (λ (x : Session). is_open (voice_for x.form) x) (whole_in e)

  -- and so where its types and bodies are handed on as l and b
  pub one-judged : (r : Bool) (l b : List ℕ) → r ≡ is_open (voice_for t.form) (whole t l b) → l ≡ ms → b ≡ bodies_at o → is_session o ≡ true → r ≡ is_open (session_voice o) (session_in o)
  one-judged r l b told types bodies e = (rw (types, bodies) at told) ∙ one-open e

  pub spans-in : is_session o ≡ true → Spans holding_shape t.held ms (bodies_at o)
  spans-in e = subst (λ (l : List ℕ). Spans holding_shape t.held l (bodies_at o)) (sym m) (spans-at o t (session-long o e) q)

-- an open session is there
pub open-laid : (o : List ℕ) → (session_in o).«open» ≡ true → is_session o ≡ true
unfolding never_opened vacant
open-laid o e = go (is_session o) refl
  where
    go : (b : Bool) → is_session o ≡ b → b ≡ true
    go true q = refl
    go false q = ap (λ (s : Session). s.«open») (sym (none_in o q)) ∙ e

pub open-there : (o : List ℕ) → is_open (session_voice o) (session_in o) ≡ true → is_session o ≡ true
open-there o e = open-laid o (open-has (session_voice o) (session_in o) e).opened

-- and it is found: all of it but its types by its numbers, t, and the bodies where they lie; its types lie in ms
pub record Found (o : List ℕ) (t : Standing) (ms : List ℕ) : Type 0 where
  pub long : 2304 ≤ length o
  pub is : whole t ms (bodies_at o) ≡ session_in o
  pub stands : Stands t ms (bodies_at o)

pub found : (o : List ℕ) (t : Standing) (ms : List ℕ) → is_open (session_voice o) (session_in o) ≡ true → whole t (types_at o) (bodies_at o) ≡ session_at o → ms ≡ types_at o → Found o t ms
found o t ms e q m =
    let there = open-there o e in
    record {
      long = session-long o there;
      is = whole_in o t ms q m there;
      stands = stands_of (session_in o) t ms (bodies_at o) (whole_in o t ms q m there) e (spans-in o t ms q m there);
    }

-- its B lies at 43
pub frames-at : (o : List ℕ) → is_session o ≡ true → get_or o 43 0 ≡ (session_in o).group.numbers.b
unfolding session_at holding_at numbers_at
frames-at o e = ap (λ (s : Session). s.group.numbers.b) (sym (one_in o e))

-- ---- its group poured
module _ (o : List ℕ) (t : Standing) (ms : List ℕ) (f : Found o t ms) where
  module _ (n : (session_in o).group.numbers.b ≡ 0 → ⊥) where
    some_in : t.numbers.b ≡ 0 → ⊥
    some_in z = n (sym (ap (λ (s : Session). s.group.numbers.b) f.is) ∙ z)

    pub may-pour : (length ms ≡ 80) × (length (bodies_at o) ≡ 1760) × (t.numbers.l ≤ 7) × (t.numbers.b ≤ 10)
    may-pour =
        let v = voice_for t.form in
        let s = whole t ms (bodies_at o) in
        let h = sound-has v s.group (holds-sound v s.group (group-holds v s f.stands.opened some_in)).0 in
        (f.stands.spans.long_marks, f.stands.spans.long_room, h.low, h.few)

    pub poured-in : pour_made (session_voice o) (session_in o) ≡ octets (entries_of (in_time (voice_for t.form) (whole t ms (bodies_at o)).group))
    poured-in =
        ap (λ (s : Session). pour_made (voice_for s.form) s) (sym f.is) ∙ pour-group (voice_for t.form) (whole t ms (bodies_at o)) f.stands.opened some_in

  -- its group ended
  pub ended-in : (u : Standing) (after : List ℕ) → ((ns rs : List ℕ) → whole u (nothing holding_shape).marks (nothing holding_shape).room ≡ ended holding_shape (whole t ns rs))
      → after ≡ over o 0 (session_laid (whole u (nothing holding_shape).marks (nothing holding_shape).room)) → after ≡ over o 0 (session_laid (ended holding_shape (session_in o)))
  ended-in u after q r = r ∙ ap (λ (s : Session). over o 0 (session_laid s)) (q ms (bodies_at o) ∙ ap (ended holding_shape) f.is)

-- where the bodies are as they were, so are the octets
pub kept-bodies : (o : List ℕ) (t : Standing) (ms : List ℕ) (x : Session) → Found o t ms → x ≡ session_in o → over o 144 x.group.room ≡ o
kept-bodies o t ms x f e =
    let h = f.long in
    ap (λ (s : Session). over o 144 s.group.room) (e ∙ sym f.is) ∙ over-itself o 144 1760 (omega arith)

-- the group that lies there lies as in a holding
pub group-lies : (o : List ℕ) → is_session o ≡ true → take 1872 (drop 32 o) ≡ holding_octets (session_in o).group
unfolding is_session is_laid session_laid
group-lies o there =
    let s = session_at o in
    let long = session-long o there in
    let h = session_head s in
    let g = holding_octets s.group in
    let z = replicate {A = ℕ} 400 0 in
    let same : h ++ g ++ z ≡ take 2304 o = same_true _ _ (both_true (is_long o) _ there).1 in
    let lg : length g ≡ 1872 = length-holding s.group (shaped-at o long) in
    let lh = length-grouped s (shaped-at o long) in
    let lo : length (take 2304 o) ≡ 2304 = simp length-take (omega (arith, long)) in
    ap (λ (w : List ℕ). take 1872 (drop 32 w)) (sym (take-append-drop 2304 o))
    ∙ in-first (take 2304 o) (drop 2304 o) 32 1872 (omega arith)
    ∙ ap (λ (w : List ℕ). take 1872 (drop 32 w)) (sym same)
    ∙ in-first (h ++ g) z 32 1872 (omega arith)
    ∙ in-second h g 32 0 1872 (length-head s) ∙ take_all 1872 g (omega arith) ∙ ap (λ (x : Session). holding_octets x.group) (sym (one_in o there))

pub copied-laid : (o out e f : List ℕ) → is_session o ≡ true → e ≡ over out 0 (take 1872 (drop 32 o)) → f ≡ over e 1872 (replicate 432 0)
    → f ≡ over out 0 (holding_laid (session_in o).group)
copied-laid o out e f there p q =
    let x : Shaped holding_shape (session_in o).group = subst (λ (s : Session). Shaped holding_shape s.group) (sym (one_in o there)) (shaped-at o (session-long o there)) in
    all-of-holding (session_in o).group x out e f (p ∙ ap (over out 0) (group-lies o there)) q
