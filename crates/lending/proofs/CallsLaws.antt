-- The calls on lent octets, way by way. Assumes nothing.
use Rattle.std.proofs.Common.{Result, Ok, Err}
use Prim.Native.Nat.{ℕ, ◌≤◌, ◌<◌}
use mathlib.Core.Bool.{Bool, true, false, not, cond, ◌&&◌}
use mathlib.Core.Path.{◌≡◌, refl, sym, ap, ◌∙◌}
use mathlib.Core.List.{List}
use lib.ListN.{length}
use lib.Dec.{eqb}
use borrow.Author.Tests.{eqb-true, eqb-false, not-true}
use Rattle.octets.proofs.Logic.{apart, both_true}
use Rattle.octets.specs.Octets.{over}
use Rattle.frame.specs.Shape.{Voice, holding_shape}
use Rattle.answers.specs.Outputs.{Made, Writes}
use Rattle.answers.specs.Outputs as outputs
use Rattle.answers.proofs.OutputsLaws.{writes_as, writes-refusal}
use Rattle.form.specs.declared.Form.{Form}
use Rattle.answers.specs.declared.Refusal.{Refusal}
use Rattle.answers.specs.declared.Refusal.TheVariants.{NoRoom, NotApplicable}
use Rattle.holding.proofs.GroupLaws.{some-frames}
use Rattle.session.specs.Session.{Started, Offered, Copied, Dropped, never_opened, fresh, form_right, opened_for, is_open, refuse, offered, pour_made, ended, no_copy, copied, not_dropped, dropped}
use Rattle.session.specs.declared.Session.{Session}
use Rattle.session.proofs.Ends.{open-vacant, refused-keeps}
use Rattle.session.proofs.SessionLaws.{pour-closed, pour-vacant}
use Rattle.lending.specs.Laid.{holding_laid, session_in, session_laid}
use Rattle.lending.specs.Parts.{has_group}
use Rattle.lending.specs.Calls.{room_in, then_room, lay_if, open_answer, open_octets, offer_answer, offer_octets}
use Rattle.lending.specs.Calls.{pour_of, pour_octets, copy_answer, copy_octets}
use Rattle.lending.specs.Calls.{drop_answer, drop_octets}
use Rattle.lending.proofs.LaidLaws.{long_enough, too_short}

-- ---- room for what is given: 15, or w is laid out
module _ (o w : List ℕ) where
  abbrev Gives : Result Unit Refusal → List ℕ → Type 0
  Gives r after = (r ≡ room_in o) × (after ≡ lay_if (room_in o) o w)

  pub no_room : length o < 2304 → Gives (Err NoRoom) o
  unfolding room_in lay_if
  no_room h = rw (too_short o h) (refl, refl)

  pub room-taken : (after : List ℕ) → 2304 ≤ length o → after ≡ over o 0 w → Gives (Ok tt) after
  unfolding room_in lay_if
  room-taken after h q = rw (long_enough o h) (refl, q)

-- ---- a call that answers a refusal, or gives w where it is done
module _ (a : Result Unit Refusal) (o w : List ℕ) where
  abbrev Ends : Result Unit Refusal → List ℕ → Type 0
  Ends r after = (r ≡ then_room a o) × (after ≡ lay_if (then_room a o) o w)

  ends-refused : (r : Refusal) → a ≡ Err r → Ends (Err r) o
  unfolding then_room lay_if
  ends-refused r q = rw q (refl, refl)

  ends-done : (r : Result Unit Refusal) (after x : List ℕ) → a ≡ (Ok tt) → x ≡ w → Gives o x r after → Ends r after
  unfolding then_room
  ends-done r after x q e g = rw (q, ← e) g

-- ---- opening
module _ (o : List ℕ) (source : ℕ) (form : Form) (s : Session) (x : Started) (e : s ≡ never_opened holding_shape) (q : x ≡ opened_for holding_shape s source form) where
  began : x ≡ opened_for holding_shape (never_opened holding_shape) source form
  began = q ∙ ap (λ (t : Session). opened_for holding_shape t source form) e

  -- a session that was opened is fresh
  abbrev ends_as : Bool → Started
  ends_as b = cond b (record { answer = (Ok tt); session = fresh holding_shape source form }) (record { answer = Err NotApplicable; session = never_opened holding_shape })

  opened-fresh : x.answer ≡ (Ok tt) → fresh holding_shape source form ≡ (opened_for holding_shape (never_opened holding_shape) source form).session
  unfolding opened_for
  opened-fresh f = go (form_right form) (ap (λ (y : Started). y.answer) (sym began) ∙ f)
    where
      go : (b : Bool) → (ends_as b).answer ≡ (Ok tt) → fresh holding_shape source form ≡ (ends_as b).session
      go true h = refl
      go false h = apart (cc)

  pub open_done : (r : Result Unit Refusal) (after : List ℕ) → x.answer ≡ (Ok tt) → Gives o (session_laid (fresh holding_shape source form)) r after
      → (r ≡ open_answer o source form) × (after ≡ open_octets o source form)
  unfolding open_answer open_octets
  open_done r after f g = ends-done _ o _ r after _ (ap (λ (y : Started). y.answer) (sym began) ∙ f) (ap session_laid (opened-fresh f)) g

-- ---- offering
module _ (v : Voice) (o : List ℕ) (source sequence timestamp : ℕ) (p : List ℕ) where
  pub offer-closed : is_open v (session_in o) ≡ false → (Err NotApplicable ≡ offer_answer v o source sequence timestamp p) × (o ≡ offer_octets v o source sequence timestamp p)
  unfolding offer_answer offer_octets lay_if offered refuse
  offer-closed e = let z : (offered v (session_in o) source sequence timestamp p).answer ≡ Err NotApplicable = simp e in rw z (refl, refl)

  module _ (x : Offered) (q : x ≡ offered v (session_in o) source sequence timestamp p) where
    answered : (offered v (session_in o) source sequence timestamp p).answer ≡ x.answer
    answered = ap (λ (y : Offered). y.answer) (sym q)

    -- a refused offer leaves the session as it was
    pub offer-keeps : (r : Refusal) → x.answer ≡ Err r → x.session ≡ session_in o
    offer-keeps r f = ap (λ (y : Offered). y.session) q ∙ refused-keeps v (session_in o) source sequence timestamp p r (answered ∙ f)

    pub offer-refused : (w : Result ℕ Refusal) (r : Refusal) (after : List ℕ) → x.answer ≡ Err r → w ≡ Err r → after ≡ o
        → (w ≡ offer_answer v o source sequence timestamp p) × (after ≡ offer_octets v o source sequence timestamp p)
    unfolding offer_answer offer_octets lay_if
    offer-refused w r after f e g = rw (answered ∙ f, e) (refl, g)

    pub offer-accepted :
        (lost : ℕ) (after : List ℕ) →
        x.answer ≡ Ok lost →
        after ≡ over o 0 (session_laid x.session) →
        (Ok lost ≡ offer_answer v o source sequence timestamp p) × (after ≡ offer_octets v o source sequence timestamp p)
    unfolding offer_answer offer_octets lay_if
    offer-accepted lost after f g = rw (answered ∙ f) (refl, g ∙ ap (λ (y : Offered). over o 0 (session_laid y.session)) q)

-- ---- whether a group is held: none is where the session is not open, or has no frame to a packet
data NoGroup (v : Voice) (s : Session) : Type 0 where
  closed : is_open v s ≡ false → NoGroup v s
  empty : is_open v s ≡ true → s.group.numbers.b ≡ 0 → NoGroup v s

module _ (v : Voice) (s : Session) where
  no-group : has_group v s ≡ false → NoGroup v s
  unfolding has_group
  no-group h = go (is_open v s) refl (eqb s.group.numbers.b 0) refl
    where
      go : (x : Bool) → is_open v s ≡ x → (y : Bool) → eqb s.group.numbers.b 0 ≡ y → NoGroup v s
      go false e y f = closed e
      go true e true f = empty e (eqb-true _ _ f)
      go true e false f =
          let z : is_open v s && not (eqb s.group.numbers.b 0) ≡ true = simp (e, f) in
          let w : false ≡ true = sym h ∙ z in
          apart (cc)

  pub group-held : has_group v s ≡ true → (is_open v s ≡ true) × (s.group.numbers.b ≡ 0 → ⊥)
  unfolding has_group
  group-held h =
      let p = both_true (is_open v s) (not (eqb s.group.numbers.b 0)) h in
      (p.0, eqb-false _ _ (not-true _ p.1))

  pub group-by : (b : ℕ) → is_open v s ≡ true → b ≡ s.group.numbers.b → not (eqb b 0) ≡ has_group v s
  unfolding has_group
  group-by b e f = simp (e, f)

-- ---- pouring
module _ (v : Voice) (o before : List ℕ) where
  pub pour-none : has_group v (session_in o) ≡ false → Writes (pour_of v o) before (Err NotApplicable) before × (o ≡ pour_octets o (Err NotApplicable))
  unfolding pour_of pour_octets lay_if
  pour-none h = (writes-refusal _ _ _ (none (no-group v (session_in o) h)), refl)
    where
      none : NoGroup v (session_in o) → pour_made v (session_in o) ≡ outputs.refused_output NotApplicable
      none (closed e) = pour-closed v (session_in o) e
      none (empty e f) = pour-vacant v (session_in o) e f

  module _ (after : List ℕ) (w : Result ℕ Refusal) (m : Made) (e : pour_made v (session_in o) ≡ m) (q : Writes m before w after) where
    poured-so : (r : Result ℕ Refusal) → w ≡ r → Writes (pour_of v o) before r after
    unfolding pour_of
    poured-so r f = writes_as _ _ _ _ _ e (rw (← f) q)

    pub pour-refused : (u : Result ℕ Refusal) (r : Refusal) → w ≡ Err r → u ≡ Err r → Writes (pour_of v o) before u after × (o ≡ pour_octets o u)
    unfolding pour_octets lay_if
    pour-refused u r f e = rw e (poured-so (Err r) f, refl)

    pub pour-octets : (n : ℕ) (next : List ℕ) → w ≡ Ok n → next ≡ over o 0 (session_laid (ended holding_shape (session_in o)))
        → Writes (pour_of v o) before (Ok n) after × (next ≡ pour_octets o (Ok n))
    unfolding pour_octets lay_if
    pour-octets n next f g = (poured-so (Ok n) f, g)

-- ---- copying out
module _ (v : Voice) (o out : List ℕ) where
  none-copied : NoGroup v (session_in o) → (copied v (session_in o)).answer ≡ Err NotApplicable
  unfolding copied no_copy
  none-copied (closed e) = simp e
  none-copied (empty e f) = simp (e, open-vacant v (session_in o) e f)

  pub copy-none : has_group v (session_in o) ≡ false → (Err NotApplicable ≡ copy_answer v o out) × (out ≡ copy_octets v o out)
  unfolding copy_answer copy_octets
  copy-none h = ends-refused _ out _ NotApplicable (none-copied (no-group v (session_in o) h))

  one-copied : has_group v (session_in o) ≡ true → copied v (session_in o) ≡ record { answer = (Ok tt); holding = (session_in o).group }
  unfolding copied
  one-copied h = let p = group-held v (session_in o) h in simp (p.0, some-frames v.shape (session_in o).group p.1)

  pub copy_done : has_group v (session_in o) ≡ true → (r : Result Unit Refusal) (after : List ℕ) → Gives out (holding_laid (session_in o).group) r after
      → (r ≡ copy_answer v o out) × (after ≡ copy_octets v o out)
  unfolding copy_answer copy_octets
  copy_done h r after g =
      let c = one-copied h in
      ends-done _ out _ r after _ (ap (λ (y : Copied). y.answer) c) (sym (ap (λ (y : Copied). holding_laid y.holding) c)) g

-- ---- dropping
module _ (v : Voice) (o : List ℕ) where
  none_dropped : NoGroup v (session_in o) → (dropped v (session_in o)).answer ≡ Err NotApplicable
  unfolding dropped not_dropped
  none_dropped (closed e) = simp e
  none_dropped (empty e f) = simp (e, open-vacant v (session_in o) e f)

  pub drop-none : has_group v (session_in o) ≡ false → (Err NotApplicable ≡ drop_answer v o) × (o ≡ drop_octets v o)
  unfolding drop_answer drop_octets lay_if
  drop-none h = rw (none_dropped (no-group v (session_in o) h)) (refl, refl)

  one-dropped : has_group v (session_in o) ≡ true → dropped v (session_in o) ≡ record { answer = (Ok tt); session = ended v.shape (session_in o) }
  unfolding dropped
  one-dropped h = let p = group-held v (session_in o) h in simp (p.0, some-frames v.shape (session_in o).group p.1)

  pub drop-done : has_group v (session_in o) ≡ true → (after : List ℕ) → after ≡ over o 0 (session_laid (ended v.shape (session_in o)))
      → ((Ok tt) ≡ drop_answer v o) × (after ≡ drop_octets v o)
  unfolding drop_answer drop_octets lay_if
  drop-done h after g =
      let c = one-dropped h in
      rw (ap (λ (y : Dropped). y.answer) c) (refl, g ∙ ap (λ (y : Dropped). over o 0 (session_laid y.session)) (sym c))
