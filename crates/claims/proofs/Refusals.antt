-- Demand 1 of the calls in Rattle, read off their contracts. Assumes nothing.
use Rattle.std.proofs.Common.{None, Result, Ok, Err}
use Prim.Native.Nat.{ℕ, ◌≤◌}
use mathlib.Core.Bool.{Bool, true, false, cond}
use mathlib.Core.Path.{◌≡◌, refl, sym, ap, ap₂, subst, ◌∙◌}
use mathlib.Core.List.{List}
use mathlib.Core.Logic.{inl, inr, ⊎_elim}
use native.Mathlib.Omega.{arith}
use Rattle.answers.specs.Outputs.{Made, octets, written_of, out_after, Writes}
use Rattle.answers.specs.Answers.{number_of}
use Rattle.answers.specs.declared.Refusal.{Refusal}
use Rattle.answers.specs.declared.Refusal.TheVariants as refusal
use Rattle.frame.specs.FrameTable.{Frame}
use Rattle.frame.specs.Shape.{Shape, Voice, holding_shape}
use Rattle.bundle.specs.Bundles.{same_bundles}
use Rattle.bundle.specs.LaidOut.{laid}
use Rattle.form.specs.Agreed.{voice_for}
use Rattle.form.specs.declared.Form.{Form}
use Rattle.holding.specs.Group.{is_nothing, bundle_at}
use Rattle.holding.specs.declared.Holding.{Holding}
use Rattle.session.specs.Session.{Started, Dropped, Offered, fresh, form_right, opened_for, is_open, refuse, accept, begins, offered, ended, after_pour, not_dropped, dropped}
use Rattle.session.specs.Standing.{decided_as}
use Rattle.session.specs.declared.Decision.{Decision}
use Rattle.session.specs.declared.Decision.TheVariants as decision
use Rattle.session.specs.declared.Session.{Session}
use Rattle.capture.specs.Capture.{good}
use Rattle.capture.specs.Run.{of_good, record_answer, record_output, capture_kind, capture_recording}
use Rattle.capture.specs.declared.CaptureError.{CaptureError}
use Rattle.capture.specs.declared.CaptureError.TheVariants.{BadCapture}
use Rattle.lending.specs.Laid.{session_in, session_laid, session_voice}
use Rattle.lending.specs.Calls.{lay_if, open_octets, offer_answer, offer_octets, pour_octets, copy_octets, drop_octets, end_octets, join_octets}
use Rattle.landing.specs.Host.{count_after, fault_place, place_after}
use Rattle.claims.specs.Call.{WithPlace}
use Rattle.claims.specs.Calls.Lent.{LentSessionLost}
use Rattle.claims.specs.Sessions.{RefusedOfferChangesNothing, AnotherSourceIs10, AnotherSourcesWordsAreNotHeard}
use Rattle.claims.specs.Refusals.{RefusalsAreNumbered, Refused, given_in, RattleDemand1, AnotherSource}
use Rattle.claims.proofs.Sessions.{refused_offer_changes_nothing, another_source_is_10, another_sources_words_are_not_heard}
use Rattle.claims.proofs.Demand1.{kept-output}
use Rattle.claims.proofs.Seen.{parts-lent, whole-lent, out-lent, session-lent, offer-same}
use Rattle.claims.proofs.Builds.{offer-told, host-offer-told}

pub refusals_are_numbered : RefusalsAreNumbered
unfolding RefusalsAreNumbered
refusals_are_numbered refusal.NoOctet = inl (omega arith, omega arith)
refusals_are_numbered refusal.IndexPastLength = inl (omega arith, omega arith)
refusals_are_numbered refusal.LengthPastMaximum = inl (omega arith, omega arith)
refusals_are_numbered (refusal.TableCut at) = inl (omega arith, omega arith)
refusals_are_numbered (refusal.ReservedType at) = inl (omega arith, omega arith)
refusals_are_numbered (refusal.TooManyFrames at) = inl (omega arith, omega arith)
refusals_are_numbered refusal.BundleOutOfRange = inl (omega arith, omega arith)
refusals_are_numbered (refusal.BodiesCut at) = inl (omega arith, omega arith)
refusals_are_numbered (refusal.OctetsLeft at) = inl (omega arith, omega arith)
refusals_are_numbered refusal.HeaderFreeLength = inl (omega arith, omega arith)
refusals_are_numbered refusal.AnotherSource = inl (omega arith, omega arith)
refusals_are_numbered refusal.ContradictsGroup = inl (omega arith, omega arith)
refusals_are_numbered refusal.LaterGroup = inl (omega arith, omega arith)
refusals_are_numbered refusal.EarlierGroup = inl (omega arith, omega arith)
refusals_are_numbered refusal.PacketDiffers = inl (omega arith, omega arith)
refusals_are_numbered refusal.NoRoom = inl (omega arith, omega arith)
refusals_are_numbered refusal.TooFarAhead = inl (omega arith, omega arith)
refusals_are_numbered refusal.NotSendable = inl (omega arith, omega arith)
refusals_are_numbered refusal.WrongOpening = inl (omega arith, omega arith)
refusals_are_numbered (refusal.BodyCut at) = inl (omega arith, omega arith)
refusals_are_numbered refusal.NotSameGroup = inl (omega arith, omega arith)
refusals_are_numbered refusal.NotApplicable = inl (omega arith, omega arith)
refusals_are_numbered refusal.OffTheClock = inr refl

-- so none has the number of an answer that is done
pub never-zero : (r : Refusal) → 1 ≤ number_of r
unfolding RefusalsAreNumbered
never-zero r = ⊎_elim (λ (x : (1 ≤ number_of r) × (number_of r ≤ 21)). x.0) (λ (e : number_of r ≡ 24). omega arith) (refusals_are_numbered r)

-- ---- writers
writes_kept : (made : Made) (r : Result ℕ Refusal) {before after : List ℕ} → Writes made before r after → Refused r → after ≡ before
writes_kept made (Ok n) p i = absurd i
writes_kept made (Err s) {before} p i = p.output ∙ kept-output made before s (sym p.answer)

-- ---- a capture
record-kept : (good : Bool) (made : Made) {before after : List ℕ} {x : Result ℕ CaptureError} → x ≡ cond good (of_good (written_of made before)) (Err BadCapture) →
    after ≡ cond good (out_after made before) before → Refused x → after ≡ before
record-kept false made p q i = q
record-kept true made {before} {after} {x} p q i = q ∙ go (written_of made before) refl (subst Refused p i)
  where
    go : (w : Result ℕ Refusal) → written_of made before ≡ w → Refused (of_good w) → out_after made before ≡ before
    go (Ok n) e j = absurd j
    go (Err r) e j = kept-output made before r e

-- ---- sessions
open_kept : (shape : Shape) (s : Session) (source : ℕ) (form : Form) → Refused (opened_for shape s source form).answer → (opened_for shape s source form).session ≡ s
unfolding opened_for
open_kept shape s source form i = go (form_right form) i
  where
    go : (b : Bool) →
        let o = cond {A = Started} b (record { answer = (Ok tt); session = fresh shape source form })
        (record { answer = Err refusal.NotApplicable; session = s }) in
        Refused o.answer → o.session ≡ s
    go true i = absurd i
    go false i = refl

offer-kept : (v : Voice) (s : Session) (source sequence timestamp : ℕ) (p : List ℕ) → Refused (offered v s source sequence timestamp p).answer →
    (offered v s source sequence timestamp p).session ≡ s
unfolding RefusedOfferChangesNothing
offer-kept v s source sequence timestamp p i = go (offered v s source sequence timestamp p).answer refl i
  where
    go : (y : Result ℕ Refusal) → (offered v s source sequence timestamp p).answer ≡ y → Refused y → (offered v s source sequence timestamp p).session ≡ s
    go (Ok lost) e j = absurd j
    go (Err r) e j = refused_offer_changes_nothing v s source sequence timestamp p r e

after_kept : (shape : Shape) (s : Session) (w : Result ℕ Refusal) → Refused w → after_pour shape s w ≡ s
unfolding after_pour
after_kept shape s (Ok n) i = absurd i
after_kept shape s (Err r) i = refl

drop-kept : (v : Voice) (s : Session) → Refused (dropped v s).answer → (dropped v s).session ≡ s
unfolding dropped not_dropped
drop-kept v s i = go (is_open v s) (is_nothing v.shape s.group) i
  where
    go : (x y : Bool) →
        let d = cond {A = Dropped} x (cond y (not_dropped s) (record { answer = (Ok tt); session = ended v.shape s })) (not_dropped s) in
        Refused d.answer → d.session ≡ s
    go true true i = refl
    go true false i = absurd i
    go false y i = refl

-- ---- lent octets
lay-kept : {A : Type 0} (y : Result A Refusal) (o w : List ℕ) → Refused y → lay_if y o w ≡ o
unfolding lay_if
lay-kept (Ok x) o w i = absurd i
lay-kept (Err r) o w i = refl

-- an answer, and octets that go by it
answer-kept : {A X : Type 0} (lent : List ℕ → X) {x y : Result A Refusal} {a b : List ℕ} (w : List ℕ) → x ≡ y → a ≡ lay_if y b w → Refused x → lent a ≡ lent b
answer-kept lent {x} {y} {a} {b} w e p i = ap lent (p ∙ lay-kept y b w (subst Refused e i))

-- a packet taken as it was decided: a refusal leaves the session as it was
take-kept : (s : Session) (fs : List Frame) (d : Result Decision Refusal) → Refused (decided_as s fs d).answer → (decided_as s fs d).session ≡ s
unfolding decided_as begins accept refuse
take-kept s fs (Ok (decision.Begins g n lost)) i = absurd i
take-kept s fs (Ok (decision.PutIn n)) i = absurd i
take-kept s fs (Ok (decision.Again n)) i = go (same_bundles (bundle_at holding_shape s.group n) (laid holding_shape fs))
  where
    go : (b : Bool) → (cond b (accept s 0) (refuse s refusal.PacketDiffers)).session ≡ s
    go true = refl
    go false = refl
take-kept s fs (Err r) i = refl

-- ---- a refused call gives no holding
gives-none : (x : Result Holding Refusal) → Refused x → given_in x ≡ None
gives-none (Ok h) i = absurd i
gives-none (Err r) i = refl

pub rattle_demand_1 : RattleDemand1
unfolding record_answer record_output open_octets offer_octets pour_octets copy_octets drop_octets end_octets join_octets
rattle_demand_1 = record {
  recording_write = record { so = λ p i. ap out-lent (writes_kept _ _ p i) };
  packet_write = record { so = λ p i. ap out-lent (writes_kept _ _ p i) };
  packet_write_agreed = record { so = λ p i. ap out-lent (writes_kept _ _ p i) };
  packet_write_header_free = record { so = λ p i. ap out-lent (writes_kept _ _ p i) };
  pouring_pour = record { so = λ p i. ap out-lent (writes_kept _ _ p i) };
  pouring_pour_held = record { so = λ p i. ap out-lent (writes_kept _ _ p i) };
  pouring_pour_held_in = record { so = λ p i. ap out-lent (writes_kept _ _ p i) };
  capture_record = record { so = λ p i. ap out-lent (record-kept (good _) (octets (capture_recording capture_kind _)) p.0 p.1 i) };
  joining_join = record { so = λ p i. (refl, gives-none _ i) };
  session_open = record { so = λ p i. ap whole-lent (ap (λ (j : Started). j.session) p ∙ open_kept _ _ _ _ (subst (λ (j : Started). Refused j.answer) p i)) };
  session_open_agreed = record { so = λ p i. ap whole-lent (ap (λ (j : Started). j.session) p ∙ open_kept _ _ _ _ (subst (λ (j : Started). Refused j.answer) p i)) };
  session_offer = record { so = λ p i. ap whole-lent (ap (λ (j : Offered). j.session) p ∙ offer-kept _ _ _ _ _ _ (subst (λ (j : Offered). Refused j.answer) p i)) };
  session_take = record { so = λ p i. ap parts-lent (ap (λ (j : Offered). j.session) p ∙ take-kept _ _ _ (subst (λ (j : Offered). Refused j.answer) p i)) };
  session_pour = record { so = λ p i. ap₂ (λ (s : Session) (o : List ℕ). record { session = s; out = o }) (p.1 ∙ after_kept _ _ _ i) (writes_kept _ _ p.0 i) };
  session_drop_group = record { so = λ p i. ap whole-lent (ap (λ (j : Dropped). j.session) p ∙ drop-kept _ _ (subst (λ (j : Dropped). Refused j.answer) p i)) };
  session_copy_out = record { so = λ p i. (refl, gives-none _ i) };
  lending_open = record { so = λ p i. answer-kept session-lent _ p.0 p.1 i };
  lending_offer = record { so = λ p i. answer-kept session-lent _ p.0 p.1 i };
  lending_pour = record { so = λ p i. ap₂ (λ (s o : List ℕ). record { session = s; out = o }) (p.1 ∙ lay-kept _ _ _ i) (writes_kept _ _ p.0 i) };
  lending_drop_group = record { so = λ p i. answer-kept session-lent _ p.0 p.1 i };
  lending_copy_out = record { so = λ p i. answer-kept out-lent _ p.0 p.1 i };
  lending_end = record { so = λ p i. answer-kept session-lent _ p.0 p.1 i };
  lending_join = record { so = λ p i. answer-kept out-lent _ p.0 p.1 i };
  lending_pour_holding = record { so = λ p i. ap out-lent (writes_kept _ _ p i) };
}

-- ---- another source
pub another_source : AnotherSource
unfolding AnotherSourceIs10 AnotherSourcesWordsAreNotHeard offer_answer offer_octets lay_if count_after fault_place place_after refuse
another_source = record {
  is_10 = λ s after source q t p x d o c.
      let e = offer-told c ∙ another_source_is_10 (voice_for s.form) s o source q t d p in
      (ap (λ (y : Offered). y.answer) e, ap (λ (y : Offered). y.session) e);
  unread = λ s a b source q t p p' x y d c c'.
      let e = offer-told c ∙ another_sources_words_are_not_heard (voice_for s.form) s source q t d p p' ∙ sym (offer-told c') in
      (ap (λ (z : Offered). z.answer) e, ap (λ (z : Offered). z.session) e);
  host_is_10 = λ o after source q t p x d i c.
      let s = o.rest.session in
      let is = another_source_is_10 (session_voice s) (session_in s) i source q t d p in
      let told = host-offer-told c in
      seen-so (offer-same
      (told.0 ∙ ap (λ (y : Offered). count_after y.answer o.rest.lost) is)
      (told.1 ∙ ap (λ (y : Offered). place_after (fault_place y.answer) o.place) is)
      (told.2 ∙ ap (λ (y : Offered). lay_if y.answer s (session_laid y.session)) is));
  host_unread = λ o a b source q t p p' x y d c c'.
      let s = o.rest.session in
      let same = another_sources_words_are_not_heard (session_voice s) (session_in s) source q t d p p' in
      let told = host-offer-told c in
      let told' = host-offer-told c' in
      seen-so (offer-same
      (told.0 ∙ ap (λ (z : Offered). count_after z.answer o.rest.lost) same ∙ sym told'.0)
      (told.1 ∙ ap (λ (z : Offered). place_after (fault_place z.answer) o.place) same ∙ sym told'.1)
      (told.2 ∙ ap (λ (z : Offered). lay_if z.answer s (session_laid z.session)) same ∙ sym told'.2));
}
  where
    seen-so : {x y : ℕ} {a b : WithPlace LentSessionLost} → ◌≡◌ {A = ℕ × WithPlace LentSessionLost} (x, a) (y, b) → (x ≡ y) × (a ≡ b)
    seen-so e = (ap (λ w. w.0) e, ap (λ w. w.1) e)
