-- Demand 3 from end to end, through the C calls. Assumes nothing.
use Rattle.std.proofs.Common.{Result, Ok}
use Prim.Native.Nat.{ℕ, ◌≤◌}
use mathlib.Core.Path.{◌≡◌, refl, sym, ap, ap₂, subst, ◌∙◌}
use mathlib.Core.List.{List, [], ◌∷◌, ◌++◌}
use lib.ListN.{length, drop}
use Rattle.answers.specs.declared.Refusal.{Refusal}
use Rattle.octets.specs.Octets.{over}
use Rattle.answers.specs.Outputs.{Made, octets}
use Rattle.entries.specs.Entries.{entries_of}
use Rattle.form.specs.Agreed.{vocoder_of, voice_for}
use Rattle.form.specs.declared.Form.{Form}
use Rattle.knowledge.specs.Knowledge.{Box}
use Rattle.numbers.specs.declared.GroupNumbers.{GroupNumbers}
use Rattle.pouring.specs.Pouring.{in_time}
use Rattle.session.specs.Session.{Offered, pour_made}
use Rattle.session.specs.declared.Session.{Session}
use Rattle.lending.specs.Laid.{session_in, session_laid}
use Rattle.lending.specs.Calls.{offer_answer, offer_octets, pour_of, lay_if}
use Rattle.landing.specs.Host.{CountTold, count_told, count_after, WriteTold, write_told, write_after, with_output}
use Rattle.claims.specs.Call.{Build}
use Rattle.claims.specs.Calls.Landing as landing
use Rattle.claims.specs.Packets.{KindsPass}
use Rattle.claims.specs.Lent.{SessionReadsBack}
use Rattle.claims.specs.Sessions.{lost_before}
use Rattle.claims.specs.Offering.{Sent, sent_numbers, numbered, stamped, offer_one, offer_all, Ready, Within, HoldsExactly}
use Rattle.claims.specs.Demand3.{LentOffer, Writers, WrittenGroup, host_offer, host_offer_all, HostAccepted, HostDemand3}
use Rattle.claims.proofs.Joinings.{voices_have_room}
use Rattle.claims.proofs.PacketsBack.{kinds_pass}
use Rattle.claims.proofs.Marks.{box-marks}
use Rattle.claims.proofs.LentBack.{session_reads_back}
use Rattle.claims.proofs.Seen.{count-seen, write-seen}
use Rattle.claims.proofs.Offering.{begins-group, step}
use Rattle.claims.proofs.Demand3.{offered-so, sent-so, t-source, t-numbers, t-l, delivered, restores}
use Rattle.claims.proofs.Builds.{fits-written, host-offer-told, host-pours-so}

-- what is laid out of a session whose group holds a packet is read back
laid-back : (form : Form) (s : Session) → Box (voice_for form) s.group → (o : List ℕ) → session_in (over o 0 (session_laid s)) ≡ s
unfolding SessionReadsBack KindsPass
laid-back form s x o =
    session_reads_back s x.shaped (box-marks (voice_for form) (kinds_pass (vocoder_of form)).narrows (voices_have_room.of_sessions form).erasing s.group x) o

-- ---- packets offered by a host are those that were sent
module _ {writers : Writers} (offer : Build landing.lv_session_offer) (g : WrittenGroup writers) (form : Form) (t : Sent (voice_for form) form)
    (same_source : t.group.source ≡ g.source) (same_numbers : sent_numbers t.group ≡ g.numbers) (same-payload : (n : ℕ) → t.payload n ≡ g.payload n) where
  -- an accepted offer
  record Taking (o : LentOffer) (n lost : ℕ) : Type 0 where
    answered : (host_offer offer g o n).0 ≡ 0
    told : (host_offer offer g o n).1.rest.lost ≡ lost
    left : session_in (host_offer offer g o n).1.rest.session ≡ (offer_one (session_in o.rest.session) t n).session

  taking : (o : LentOffer) (n lost : ℕ) → (session_in o.rest.session).form ≡ form → (offer_one (session_in o.rest.session) t n).answer ≡ Ok lost →
      Box (voice_for form) (offer_one (session_in o.rest.session) t n).session.group → Taking o n lost
  unfolding offer_answer offer_octets count_after lay_if
  taking o n lost f e x =
      let s = session_in o.rest.session in
      let c = host-offer-told (offer.meets (g.source, (numbered g.numbers n, (stamped g.numbers n, g.payload n))) o) in
      let q = offered-so g form t same_source same_numbers same-payload s f n in
      let a : count_told (host_offer offer g o n).0 (host_offer offer g o n).1.rest.lost ≡ count_told 0 lost
      = c.0 ∙ ap (λ (y : Result ℕ Refusal). count_after y o.rest.lost) (ap (λ (y : Offered). y.answer) q ∙ e) in
      let b : (host_offer offer g o n).1.rest.session ≡ over o.rest.session 0 (session_laid (offer_one s t n).session)
      = c.2 ∙ ap (λ (y : Offered). lay_if y.answer o.rest.session (session_laid y.session)) q
      ∙ ap (λ (y : Result ℕ Refusal). lay_if y o.rest.session (session_laid (offer_one s t n).session)) e in
      record {
        answered = ap (λ (y : CountTold). (count-seen y).0) a;
        told = ap (λ (y : CountTold). (count-seen y).1.count) a;
        left = ap session_in b ∙ laid-back form (offer_one s t n).session x o.rest.session;
      }

  -- one after the other
  more : (o : LentOffer) (ds ns : List ℕ) → HoldsExactly (session_in o.rest.session) t ds → Within t.group.l ns →
      HostAccepted offer g o 0 ns × (session_in (host_offer_all offer g o ns).rest.session ≡ offer_all (session_in o.rest.session) t ns)
  unfolding HostAccepted host_offer_all offer_all
  more o ds [] x w = (tt, refl)
  more o ds (n ∷ ns) x w =
      let s = session_in o.rest.session in
      let k = step (voice_for form) (voices_have_room.of_sessions form) form t n w.0 s ds x in
      let y = taking o n 0 x.in_form k.told k.after.part.box in
      let h : HoldsExactly (session_in (host_offer offer g o n).1.rest.session) t (n ∷ ds) = subst (λ (u : Session). HoldsExactly u t (n ∷ ds)) (sym y.left) k.after in
      let r = more (host_offer offer g o n).1 (n ∷ ds) ns h w.1 in
      ((y.answered, (y.told, r.0)), r.1 ∙ ap (λ (u : Session). offer_all u t ns) y.left)

  -- all, from a session that is ready
  from-ready : (o : LentOffer) → Ready (voice_for form) form (session_in o.rest.session) t.group.source (sent_numbers t.group) →
      (n : ℕ) (ns : List ℕ) → Within t.group.l (n ∷ ns) →
      HostAccepted offer g o (lost_before (voice_for form).shape (session_in o.rest.session) (sent_numbers t.group)) (n ∷ ns)
      × (session_in (host_offer_all offer g o (n ∷ ns)).rest.session ≡ offer_all (session_in o.rest.session) t (n ∷ ns))
  unfolding HostAccepted host_offer_all offer_all
  from-ready o i n ns w =
      let s = session_in o.rest.session in
      let k = begins-group (voice_for form) (voices_have_room.of_sessions form) form t n w.0 s i in
      let y = taking o n _ i.in_form k.told k.after.part.box in
      let h : HoldsExactly (session_in (host_offer offer g o n).1.rest.session) t (n ∷ []) = subst (λ (u : Session). HoldsExactly u t (n ∷ [])) (sym y.left) k.after in
      let r = more (host_offer offer g o n).1 (n ∷ []) ns h w.1 in
      ((y.answered, (y.told, r.0)), r.1 ∙ ap (λ (u : Session). offer_all u t ns) y.left)

-- ---- pouring
written-told : (w out : List ℕ) (k : ℕ) → length w ≤ length out → write_after (octets w) k out ≡ write_told 0 (length w) (w ++ drop (length w) out)
unfolding write_after count_after
written-told w out k h =
    let x = fits-written w out h in
    ap₂ (λ (r : Result ℕ Refusal) (o : List ℕ). with_output (count_after r k) o) (sym x.answer) (sym x.output)

pub host_demand_3 : HostDemand3
unfolding HostDemand3 pour_of
host_demand_3 writers offer pour g form i o y n ns w =
    let s = session_in o.rest.session in
    let t = (sent-so writers g).sent form i in
    let ready = subst (λ (k : GroupNumbers). Ready (voice_for form) form s t.group.source k) (sym (t-numbers writers g form i))
    (subst (λ (k : ℕ). Ready (voice_for form) form s k g.numbers) (sym (t-source writers g form i)) y) in
    let x = from-ready offer g form t (t-source writers g form i) (t-numbers writers g form i) ((sent-so writers g).its_payload form i) o ready n ns
    (subst (λ (k : ℕ). Within k (n ∷ ns)) (sym (t-l writers g form i)) w) in
    let fs = in_time (voice_for form) (offer_all s t (n ∷ ns)).group in
    let e : pour_made (voice_for (session_in (host_offer_all offer g o (n ∷ ns)).rest.session).form) (session_in (host_offer_all offer g o (n ∷ ns)).rest.session) ≡ octets (entries_of fs)
    = ap (λ (u : Session). pour_made (voice_for u.form) u) x.1 ∙ (delivered writers g form i s y n ns w).poured in (
      subst (λ (k : GroupNumbers). HostAccepted offer g o (lost_before (voice_for form).shape s k) (n ∷ ns)) (t-numbers writers g form i) x.0,
      record {
        frames = fs;
        restored = restores writers g form i s y n ns w;
        told = λ out k h.
            let c = host-pours-so pour (record { session = (host_offer_all offer g o (n ∷ ns)).rest.session; out = out; written = k })
            ∙ ap (λ (m : Made). write_after m k out) e ∙ written-told (entries_of fs) out k h in
            (ap (λ (z : WriteTold). (write-seen z).0) c, (ap (λ (z : WriteTold). (write-seen z).1.written) c, ap (λ (z : WriteTold). (write-seen z).1.out) c));
      },
    )
