-- A session that was just opened is ready. Assumes nothing.
use Rattle.std.proofs.Common.{Result, Ok, Err}
use Prim.Native.Nat.{ℕ, ◌<◌}
use mathlib.Core.Bool.{Bool, true, false, cond}
use mathlib.Core.Path.{◌≡◌, refl, sym, ap, subst, ◌∙◌}
use mathlib.Core.List.{List}
use native.Mathlib.Omega.{arith}
use lib.ListN.{get_or, get_or-replicate}
use Rattle.answers.specs.declared.Refusal.{Refusal}
use Rattle.octets.specs.Octets.{over}
use Rattle.octets.proofs.Logic.{apart}
use Rattle.answers.specs.declared.Refusal.TheVariants.{NotApplicable}
use Rattle.form.specs.Agreed.{voice_for}
use Rattle.form.specs.declared.Form.{Form}
use Rattle.frame.specs.FrameTable.{erasure}
use Rattle.frame.specs.Shape.{holding_shape}
use Rattle.holding.specs.Group.{nothing, begun}
use Rattle.numbers.specs.declared.GroupNumbers.{GroupNumbers}
use Rattle.session.specs.Session.{Started, never_opened, vacant, fresh, form_right, opened_for}
use Rattle.session.specs.declared.Session.{Session}
use Rattle.lending.specs.Laid.{session_in, session_laid}
use Rattle.lending.specs.Calls.{then_room, lay_if, opened_in, open_answer, open_octets}
use Rattle.landing.specs.Host.{named_form, answer_number, open_named, opened_named}
use Rattle.claims.specs.Packets.{AreOctets}
use Rattle.claims.specs.Lent.{SessionReadsBack}
use Rattle.claims.specs.Offering.{Ready, FreshIsReady}
use Rattle.claims.specs.Demand3.{OpenedIsReady}
use Rattle.claims.proofs.Builds.{by_name}
use Rattle.claims.proofs.Refusals.{never-zero}
use Rattle.claims.proofs.Marks.{places-octets}
use Rattle.claims.proofs.Lent.{nothing-shaped}
use Rattle.claims.proofs.LentBack.{session_reads_back}
use Rattle.claims.proofs.Offering.{fresh_is_ready}

-- an accepted opening gives a fresh session, in a form whose maxima are in range
record Opens (x : Started) (source : ℕ) (form : Form) : Type 0 where
  right : form_right form ≡ true
  is : x.session ≡ fresh holding_shape source form

opens : (s : Session) (source : ℕ) (form : Form) → (opened_for holding_shape s source form).answer ≡ (Ok tt) → Opens (opened_for holding_shape s source form) source form
unfolding opened_for
opens s source form e = go (form_right form) refl e
  where
    go : (b : Bool) → form_right form ≡ b →
        let o = cond {A = Started} b (record { answer = (Ok tt); session = fresh holding_shape source form }) (record { answer = Err NotApplicable; session = s }) in
        o.answer ≡ (Ok tt) → Opens o source form
    go true r q = record { right = r; is = refl }
    go false r q = apart (cc)

-- ---- on lent octets
none-octets : AreOctets (nothing holding_shape).marks
unfolding nothing begun
none-octets = places-octets (nothing holding_shape).marks (λ i h. small i h)
  where
    small : (i : ℕ) → i < 80 → get_or (nothing holding_shape).marks i 0 < 256
    small i h = let z : get_or (nothing holding_shape).marks i 0 ≡ erasure = get_or-replicate 80 i erasure 0 h in omega (arith, z)

fresh-back : (source : ℕ) (form : Form) (o : List ℕ) → session_in (over o 0 (session_laid (fresh holding_shape source form))) ≡ fresh holding_shape source form
unfolding SessionReadsBack fresh vacant
fresh-back source form o = session_reads_back (fresh holding_shape source form) nothing-shaped none-octets o

-- an answer of 0 is no refusal
zero-done : (y : Result Unit Refusal) → 0 ≡ answer_number y → y ≡ (Ok tt)
unfolding answer_number
zero-done (Ok tt) e = refl
zero-done (Err r) e = absurd (omega (arith, never-zero r))

room-done : (y : Result Unit Refusal) (o : List ℕ) → then_room y o ≡ (Ok tt) → y ≡ (Ok tt)
unfolding then_room
room-done (Ok tt) o e = refl
room-done (Err r) o e = apart (cc)

host-opens : (source : ℕ) (form : Form) (o after : List ℕ) → 0 ≡ answer_number (open_answer o source form) → after ≡ open_octets o source form →
    (g : GroupNumbers) → Ready (voice_for form) form (session_in after) source g
unfolding open_answer open_octets lay_if FreshIsReady
host-opens source form o after e p g =
    let d : open_answer o source form ≡ (Ok tt) = zero-done (open_answer o source form) e in
    let x = opens (never_opened holding_shape) source form (room-done (opened_in source form).answer o d) in
    let q : session_in after ≡ fresh holding_shape source form
    = ap session_in (p ∙ ap (λ (y : Result Unit Refusal). lay_if y o (session_laid (opened_in source form).session)) d ∙ ap (λ (s : Session). over o 0 (session_laid s)) x.is)
    ∙ fresh-back source form o in
    subst (λ (s : Session). Ready (voice_for form) form s source g) (sym q) (fresh_is_ready (voice_for form) form x.right source g)

pub opened_is_ready : OpenedIsReady
unfolding FreshIsReady open_named opened_named
opened_is_ready = record {
  opened = λ s after source form o g.
      let told : ◌≡◌ {A = Started} (record { answer = Ok tt; session = after }) (opened_for holding_shape s source form)
      = by_name (λ w l y z. ◌≡◌ {A = Started} (record { answer = y; session = z.session }) (opened_for holding_shape l.session w.0 w.1)) (λ κs a y z p. p) o in
      let i = opens s source form (ap (λ (y : Started). y.answer) (sym told)) in
      subst (λ (t : Session). Ready (voice_for form) form t source g) (sym (ap (λ (y : Started). y.session) told ∙ i.is)) (fresh_is_ready (voice_for form) form i.right source g);
  host = λ source named l b form n o after c g.
      let told : (0 ≡ answer_number (open_named (named_form named l b) source o.session)) × (after.session ≡ opened_named (named_form named l b) source o.session) =
      by_name (λ w l y z. (y ≡ answer_number (open_named (named_form w.1.0 w.1.1.0 w.1.1.1) w.0 l.session))
      × (z.session ≡ opened_named (named_form w.1.0 w.1.1.0 w.1.1.1) w.0 l.session)) (λ κs a y z p. p) c in
      host-opens source form o.session after.session
      (told.0 ∙ ap (λ (f : Result Form Refusal). answer_number (open_named f source o.session)) n) (told.1 ∙ ap (λ (f : Result Form Refusal). opened_named f source o.session) n) g;
}
