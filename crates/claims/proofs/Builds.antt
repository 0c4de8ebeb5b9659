-- What a build of a call does, by the contract that it meets. Assumes nothing.
use Rattle.std.proofs.Common.{Result, Ok, Err}
use Prim.Native.Nat.{ℕ, ◌≤◌}
use mathlib.Core.Path.{◌≡◌, refl, sym, ap, subst, ◌∙◌}
use mathlib.Core.List.{List, ◌++◌}
use mathlib.Core.Bool.{Bool, true, false, cond}
use native.Mathlib.Nat.{zero-add}
use lib.Dec.{leb}
use lib.ListN.{length, take, drop}
use lib.Seq.{take_at}
use contract.Lifetimes.{Lfts}
use Rattle.answers.specs.declared.Refusal.{Refusal}
use Rattle.octets.specs.Octets.{over}
use Rattle.octets.proofs.Logic.{apart}
use Rattle.answers.specs.Outputs.{Made, octets, refused_output, written_of, out_after, Writes}
use Rattle.answers.specs.declared.Refusal.TheVariants.{NoRoom}
use Rattle.answers.proofs.OutputsLaws.{writes-octets}
use Rattle.entries.specs.Kind.{kind_of}
use Rattle.form.specs.declared.Form.{Form}
use Rattle.form.specs.Agreed.{vocoder_of, voice_for}
use Rattle.frame.specs.Shape.{holding_shape}
use Rattle.packet.specs.Writing.{packet_made, header_free_made}
use Rattle.session.specs.Session.{Offered, offered, pour_made, after_pour}
use Rattle.session.specs.declared.Session.{Session}
use Rattle.lending.specs.Calls.{offer_answer, offer_octets, pour_of}
use Rattle.lending.specs.Laid.{session_voice}
use Rattle.landing.specs.Host.{count_told, count_after, write_told, write_after, fault_place, place_after}
use Rattle.claims.specs.Call.{Call, WithPlace, Passed, Returned, Ended, Outcome, Build}
use Rattle.claims.specs.Calls.Lent.{LentSessionLost, LentSessionOutWritten}
use Rattle.claims.specs.Calls.Landing as landing
use Rattle.claims.specs.Calls.Packet as packet
use Rattle.claims.specs.Calls.Session as session

in_all : {A B C D : Type 0} (P : A → B → C → D → Type 0) (a a' : A) (b b' : B) (c c' : C) (d d' : D) → a ≡ a' → b ≡ b' → c ≡ c' → d ≡ d' → P a b c d → P a' b' c' d'
in_all P a a' b b' c c' d d' p q r s x =
    subst (λ i. P i b' c' d') p (subst (λ i. P a i c' d') q (subst (λ i. P a b i d') r (subst (λ i. P a b c i) s x)))

-- what a contract tells of all that is passed holds of what is given, lent, answered and left
pub by_name : {call : Call} (P : call.Given → call.Lent → call.Answer → call.Lent → Type 0) →
    ((κs : Lfts call.lifetimes) (a : Passed call κs) (x : Returned call κs) (e : Ended call κs) → call.allows κs a x e →
    P (call.given κs a) (call.lent κs a) (call.answer κs x) (call.left κs e)) →
    {given : call.Given} {lent : call.Lent} {answer : call.Answer} {left : call.Lent} → Outcome call given lent answer left → P given lent answer left
by_name P tells o = in_all P _ _ _ _ _ _ _ _ o.is_given o.is_lent o.is_answer o.is_left (tells _ _ _ _ o.allowed)

-- ---- writers

-- what a writer that answers a count was to write
pub record ToWrite (made : Made) (out : List ℕ) (k : ℕ) : Type 0 where
  pub w : List ℕ
  pub is : made ≡ octets w
  pub count : k ≡ length w
  pub output : out_after made out ≡ w ++ drop (length w) out

pub to_write : (made : Made) (out : List ℕ) (k : ℕ) → written_of made out ≡ Ok k → ToWrite made out k
unfolding written_of out_after
to_write (refused_output r) out k e = apart (cc)
to_write (octets u) out k e = go (leb (length u) (length out)) refl e
  where
    same : {a b : ℕ} → ◌≡◌ {A = Result ℕ Refusal} (Ok a) (Ok b) → b ≡ a
    same q = cc

    go : (t : Bool) → leb (length u) (length out) ≡ t → cond t (Ok (length u)) (Err NoRoom) ≡ Ok k → ToWrite (octets u) out k
    go false f x = apart (cc)
    go true f x = record { w = u; is = refl; count = same x; output = ap (λ (t : Bool). cond t (u ++ drop (length u) out) out) f }

-- so what stands first in its buffer is that
pub wrote-made : (made : Made) (out : List ℕ) (r : Result ℕ Refusal) (after w : List ℕ) → Writes made out r after → r ≡ Ok (length w) → take (length w) after ≡ w → made ≡ octets w
wrote-made made out r after w p c f =
    let x = to_write made out (length w) (sym p.answer ∙ c) in
    x.is ∙ ap octets (sym (take_at x.w (drop (length x.w) out) (length w) (sym x.count)) ∙ ap (take (length w)) (sym (p.output ∙ x.output)) ∙ f)

-- and where there is room, it is written
pub fits-written : (w out : List ℕ) → length w ≤ length out → Writes (octets w) out (Ok (length w)) (w ++ drop (length w) out)
unfolding over
fits-written w out h = writes-octets (octets w) out w _ (length w) refl h refl (ap (λ (i : ℕ). w ++ drop i out) (sym (zero-add (length w))))

-- ---- writing a packet, offering, pouring
pub writes-so : (build : Build packet.write) (form : Form) (l n b d : ℕ) (es out : List ℕ) →
    let r = build.run (form, (l, (n, (b, (d, es))))) (record { out = out }) in
    Writes (packet_made (kind_of (vocoder_of form)) form l n b d es) out r.0 r.1.out
writes-so build form l n b d es out =
    by_name (λ g o x y. Writes (packet_made (kind_of (vocoder_of g.0)) g.0 g.1.0 g.1.1.0 g.1.1.1.0 g.1.1.1.1.0 g.1.1.1.1.1) o.out x y.out)
    (λ κs a x e p. p) (build.meets (form, (l, (n, (b, (d, es))))) (record { out = out }))

pub writes-header-free-so : (build : Build packet.write_header_free) (form : Form) (es out : List ℕ) →
    let r = build.run (form, es) (record { out = out }) in
    Writes (header_free_made (kind_of (vocoder_of form)) form es) out r.0 r.1.out
writes-header-free-so build form es out =
    by_name (λ g o x y. Writes (header_free_made (kind_of (vocoder_of g.0)) g.0 g.1) o.out x y.out) (λ κs a x e p. p) (build.meets (form, es) (record { out = out }))

pub offer-told : {s after : Session} {source sequence timestamp : ℕ} {p : List ℕ} {x : Result ℕ Refusal} →
    Outcome session.offer (source, (sequence, (timestamp, p))) (record { session = s }) x (record { session = after }) →
    ◌≡◌ {A = Offered} (record { answer = x; session = after }) (offered (voice_for s.form) s source sequence timestamp p)
offer-told o =
    by_name (λ g l x y. ◌≡◌ {A = Offered} (record { answer = x; session = y.session }) (offered (voice_for l.session.form) l.session g.0 g.1.0 g.1.1.0 g.1.1.1))
    (λ κs a x e p. p) o

pub offers-so : (build : Build session.offer) (s : Session) (source sequence timestamp : ℕ) (p : List ℕ) →
    let r = build.run (source, (sequence, (timestamp, p))) (record { session = s }) in
    ◌≡◌ {A = Offered} (record { answer = r.0; session = r.1.session }) (offered (voice_for s.form) s source sequence timestamp p)
offers-so build s source sequence timestamp p = offer-told (build.meets (source, (sequence, (timestamp, p))) (record { session = s }))

pub pours-so : (build : Build session.pour) (s : Session) (out : List ℕ) →
    let r = build.run tt (record { session = s; out = out }) in
    Writes (pour_made (voice_for s.form) s) out r.0 r.1.out × (r.1.session ≡ after_pour holding_shape s r.0)
pours-so build s out =
    by_name (λ g l x y. Writes (pour_made (voice_for l.session.form) l.session) l.out x y.out × (y.session ≡ after_pour holding_shape l.session x))
    (λ κs a x e p. p) (build.meets tt (record { session = s; out = out }))

-- ---- the same of the C calls, on lent octets
pub host-offer-told : {o after : WithPlace LentSessionLost} {source sequence timestamp : ℕ} {p : List ℕ} {x : ℕ} →
    Outcome landing.lv_session_offer (source, (sequence, (timestamp, p))) o x after →
    let s = o.rest.session in
    (count_told x after.rest.lost ≡ count_after (offer_answer (session_voice s) s source sequence timestamp p) o.rest.lost)
    × (after.place ≡ place_after (fault_place (offer_answer (session_voice s) s source sequence timestamp p)) o.place)
    × (after.rest.session ≡ offer_octets (session_voice s) s source sequence timestamp p)
host-offer-told c =
    by_name (λ g o x y.
    let s = o.rest.session in
    (count_told x y.rest.lost ≡ count_after (offer_answer (session_voice s) s g.0 g.1.0 g.1.1.0 g.1.1.1) o.rest.lost)
    × (y.place ≡ place_after (fault_place (offer_answer (session_voice s) s g.0 g.1.0 g.1.1.0 g.1.1.1)) o.place)
    × (y.rest.session ≡ offer_octets (session_voice s) s g.0 g.1.0 g.1.1.0 g.1.1.1))
    (λ κs a x e p. p) c

pub host-pours-so : (build : Build landing.lv_session_pour) (o : LentSessionOutWritten) →
    let r = build.run tt o in
    write_told r.0 r.1.written r.1.out ≡ write_after (pour_of (session_voice o.session) o.session) o.written o.out
host-pours-so build o =
    by_name (λ g o x y. write_told x y.written y.out ≡ write_after (pour_of (session_voice o.session) o.session) o.written o.out)
    (λ κs a x e p. p.0) (build.meets tt o)
