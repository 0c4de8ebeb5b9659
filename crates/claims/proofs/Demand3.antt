-- Demand 3, from end to end. Assumes nothing.
use Prim.Native.Nat.{ℕ, ◌+◌, ◌*◌, ◌≤◌, ◌<◌, zero-le}
use mathlib.Core.Path.{◌≡◌, refl, sym, ap, ap₂, subst, ◌∙◌}
use mathlib.Core.List.{List, [], ◌∷◌}
use Rattle.answers.specs.Outputs.{Made, octets, Writes}
use Rattle.entries.specs.Entries.{entries_of}
use Rattle.entries.specs.Kind.{kind_of}
use Rattle.form.specs.Agreed.{vocoder_of, voice_for}
use Rattle.form.specs.declared.Form.{Form}
use Rattle.form.specs.declared.Form.TheVariants.{HeaderFree, Interleaved}
use Rattle.frame.specs.FrameTable.{Frame}
use Rattle.frame.specs.Shape.{Voice}
use Rattle.packet.specs.Writing.{packet_made, header_free_made}
use Rattle.pouring.specs.Pouring.{in_time}
use Rattle.numbers.specs.declared.GroupNumbers.{GroupNumbers}
use Rattle.numbers.proofs.PlaceLaws.{same_numbers}
use Rattle.session.specs.Session.{Offered, with_group, offered}
use Rattle.session.specs.declared.Session.{Session}
use Rattle.session.proofs.Ends.{only-group}
use Rattle.claims.specs.Call.{Build}
use Rattle.claims.specs.Calls.Session as session
use Rattle.claims.specs.Packets.{KindsPass}
use Rattle.claims.specs.Sessions.{lost_before, body_octets}
use Rattle.claims.specs.Offering.{Sent, sent_numbers, numbered, stamped, offer_one, offer_all, AllAccepted, Ready, Within, PouredPlaces, Delivered, OffersDeliver}
use Rattle.claims.specs.Sending.{SentSo, WriterSends, HeaderFreeWriterSends, WriterSendsNoErasure, HeaderFreeSendsNoErasure, TablesNeverSendErasures}
use Rattle.claims.specs.Missing.{OneMissing, NoErasure, Spread, OneMissingPacket}
use Rattle.claims.specs.Demand3.{Writers, ByWriter, interleaved, headerFree, forms_of, WrittenGroup, offer_through, offer_all_through, AcceptedThrough, Restored}
use Rattle.claims.specs.Demand3.{PouredThrough, Demand3}
use Rattle.claims.proofs.Joinings.{voices_have_room}
use Rattle.claims.proofs.PacketsBack.{kinds_pass}
use Rattle.claims.proofs.Offering.{offers_deliver}
use Rattle.claims.proofs.Sending.{writer_sends, header_free_writer_sends, writer_sends_no_erasure, header_free_sends_no_erasure, tables_never_send_erasures}
use Rattle.claims.proofs.Missing.{one_missing_packet}
use Rattle.claims.proofs.Builds.{wrote-made, fits-written, writes-so, writes-header-free-so, offers-so, pours-so}

-- ---- an offer keeps the session's form
keeps-form : (v : Voice) (s : Session) (source sequence timestamp : ℕ) (p : List ℕ) → (offered v s source sequence timestamp p).session.form ≡ s.form
unfolding with_group
keeps-form v s source sequence timestamp p = ap (λ (t : Session). t.form) (only-group v s source sequence timestamp p)

-- ---- packets that were written are those that were sent
module _ {writers : Writers} (g : WrittenGroup writers) (form : Form) (t : Sent (voice_for form) form)
    (same_source : t.group.source ≡ g.source) (same_numbers : sent_numbers t.group ≡ g.numbers) (same-payload : (n : ℕ) → t.payload n ≡ g.payload n) where
  pub offered-so : (s : Session) → s.form ≡ form → (n : ℕ)
      → offered (voice_for s.form) s g.source (numbered g.numbers n) (stamped g.numbers n) (g.payload n) ≡ offer_one s t n
  offered-so s f n =
      ap (λ (x : Form). offered (voice_for x) s g.source (numbered g.numbers n) (stamped g.numbers n) (g.payload n)) f
      ∙ ap (λ (x : ℕ). offered (voice_for form) s x (numbered g.numbers n) (stamped g.numbers n) (g.payload n)) (sym same_source)
      ∙ ap (λ (x : GroupNumbers). offered (voice_for form) s t.group.source (numbered x n) (stamped x n) (g.payload n)) (sym same_numbers)
      ∙ ap (offered (voice_for form) s t.group.source (numbered (sent_numbers t.group) n) (stamped (sent_numbers t.group) n)) (sym (same-payload n))

  one-through : (offer : Build session.offer) (s : Session) → s.form ≡ form → (n : ℕ) → offer_through offer g s n ≡ offer_one s t n
  one-through offer s f n = offers-so offer s g.source (numbered g.numbers n) (stamped g.numbers n) (g.payload n) ∙ offered-so s f n

  through : (offer : Build session.offer) (s : Session) → s.form ≡ form → (lost : ℕ) (ns : List ℕ) → AllAccepted s t lost ns →
      AcceptedThrough offer g s lost ns × (offer_all_through offer g s ns ≡ offer_all s t ns)
  unfolding AllAccepted AcceptedThrough offer_all_through offer_all
  through offer s f lost [] x = (tt, refl)
  through offer s f lost (n ∷ ns) x =
      let e = one-through offer s f n in
      let u : (offer_through offer g s n).session ≡ (offer_one s t n).session = ap (λ (y : Offered). y.session) e in
      let rest = through offer (offer_one s t n).session (keeps-form (voice_for form) s t.group.source _ _ (t.payload n) ∙ f) 0 ns x.1 in (
        (ap (λ (y : Offered). y.answer) e ∙ x.0, subst (λ (y : Session). AcceptedThrough offer g y 0 ns) (sym u) rest.0),
        ap (λ (y : Session). offer_all_through offer g y ns) u ∙ rest.1,
      )

places-as : {fs gs hs : List Frame} {l m b c : ℕ} {ns : List ℕ} → gs ≡ hs → l ≡ m → b ≡ c → PouredPlaces fs gs l b ns → PouredPlaces fs hs m c ns
places-as {fs} {gs} {hs} {l} {m} {b} {c} {ns} p q r x =
    subst (λ (i : List Frame). PouredPlaces fs i m c ns) p (subst (λ (i : ℕ). PouredPlaces fs gs i c ns) q (subst (λ (i : ℕ). PouredPlaces fs gs l i ns) r x))

-- ---- what was written was sent
module _ (writers : Writers) where
  sent-by : (source : ℕ) (g : GroupNumbers) (fs : List Frame) (payload : ℕ → List ℕ) → g.sequence < 65536 → g.timestamp < 4294967296 →
      (x : ByWriter writers g fs payload) → SentSo (voice_for HeaderFree) (forms_of x) source g fs payload
  unfolding WriterSends HeaderFreeWriterSends KindsPass forms_of
  sent-by source g fs payload hs ht (interleaved limits entries d buffer e w) =
      let made : (n : ℕ) → n ≤ g.l → packet_made (kind_of (vocoder_of (Interleaved limits))) (Interleaved limits) g.l n g.b (d n) entries ≡ octets (payload n)
      = λ n h. wrote-made _ (buffer n) _ _ (payload n) (writes-so writers.write (Interleaved limits) g.l n g.b (d n) entries (buffer n)) (w n h).count (w n h).front in
      let so = writer_sends (kind_of (vocoder_of (Interleaved limits))) (kinds_pass (vocoder_of (Interleaved limits))).narrows limits g entries d payload made source hs ht in
      record {
        group = so.group;
        its_source = so.its_source;
        its_numbers = so.its_numbers;
        its_frames = so.its_frames ∙ e;
        sent = so.sent;
        same_group = so.same_group;
        its_payload = so.its_payload;
      }
  sent-by source g fs payload hs ht (headerFree entries buffer w e l b x p) =
      let made : header_free_made (kind_of (vocoder_of HeaderFree)) HeaderFree entries ≡ octets w
      = wrote-made _ buffer _ _ w (writes-header-free-so writers.write_header_free HeaderFree entries buffer) x.count x.front in
      let so = header_free_writer_sends (kind_of (vocoder_of HeaderFree)) (kinds_pass (vocoder_of HeaderFree)).tells_apart entries w made source g.sequence g.timestamp hs ht in
      record {
        group = so.group;
        its_source = so.its_source;
        its_numbers = so.its_numbers ∙ same_numbers refl refl (sym l) (sym b);
        its_frames = so.its_frames ∙ e;
        sent = so.sent;
        same_group = so.same_group;
        its_payload = λ form i n. so.its_payload form i n ∙ sym (p n);
      }

  -- none of its frames is an erasure
  none-by : (g : GroupNumbers) (fs : List Frame) (payload : ℕ → List ℕ) → ByWriter writers g fs payload → NoErasure fs
  unfolding NoErasure WriterSendsNoErasure HeaderFreeSendsNoErasure TablesNeverSendErasures
  none-by g fs payload (interleaved limits entries d buffer e w) =
      subst NoErasure e
      (writer_sends_no_erasure (kind_of (vocoder_of (Interleaved limits))) (tables_never_send_erasures (vocoder_of (Interleaved limits))) limits g.l 0 g.b (d 0) entries (payload 0)
      (wrote-made _ (buffer 0) _ _ (payload 0) (writes-so writers.write (Interleaved limits) g.l 0 g.b (d 0) entries (buffer 0)) (w 0 zero-le).count (w 0 zero-le).front))
  none-by g fs payload (headerFree entries buffer w e l b x p) =
      subst NoErasure e
      (header_free_sends_no_erasure (kind_of (vocoder_of HeaderFree)) (tables_never_send_erasures (vocoder_of HeaderFree)) entries w
      (wrote-made _ buffer _ _ w (writes-header-free-so writers.write_header_free HeaderFree entries buffer) x.count x.front))

-- ---- the demand
module _ (writers : Writers) (g : WrittenGroup writers) where
  pub sent-so : SentSo (voice_for HeaderFree) (forms_of g.written) g.source g.numbers g.frames g.payload
  sent-so = sent-by writers g.source g.numbers g.frames g.payload g.sequence_fits g.timestamp_fits g.written

  pub none-erased : NoErasure g.frames
  none-erased = none-by writers g.numbers g.frames g.payload g.written

  module _ (form : Form) (i : forms_of g.written form) where
    abbrev t : Sent (voice_for form) form
    t = sent-so.sent form i

    pub t-source : t.group.source ≡ g.source
    t-source = ap (λ k. k.source) (sent-so.same_group form i) ∙ sent-so.its_source

    pub t-numbers : sent_numbers t.group ≡ g.numbers
    t-numbers = ap (λ k. sent_numbers k) (sent-so.same_group form i) ∙ sent-so.its_numbers

    pub t-frames : t.group.frames ≡ g.frames
    t-frames = ap (λ k. k.frames) (sent-so.same_group form i) ∙ sent-so.its_frames

    pub t-l : t.group.l ≡ g.numbers.l
    t-l = ap (λ (k : GroupNumbers). k.l) t-numbers

    pub t-b : t.group.b ≡ g.numbers.b
    t-b = ap (λ (k : GroupNumbers). k.b) t-numbers

    module _ (s : Session) (y : Ready (voice_for form) form s g.source g.numbers) (n : ℕ) (ns : List ℕ) (w : Within g.numbers.l (n ∷ ns)) where
      pub delivered : Delivered s t n ns
      unfolding OffersDeliver
      delivered =
          offers_deliver (voice_for form) (voices_have_room.of_sessions form) form t s
          (subst (λ (k : GroupNumbers). Ready (voice_for form) form s t.group.source k) (sym t-numbers)
          (subst (λ (k : ℕ). Ready (voice_for form) form s k g.numbers) (sym t-source) y)) n ns (subst (λ (k : ℕ). Within k (n ∷ ns)) (sym t-l) w)

      -- the frames poured
      abbrev places : List Frame
      places = in_time (voice_for form) (offer_all s t (n ∷ ns)).group

      pub restores : Restored g (n ∷ ns) places
      unfolding OneMissingPacket
      restores =
          record {
            places = places-as t-frames t-l t-b delivered.places;
            octet_count = delivered.octet_count ∙ ap₂ (λ (l b : ℕ). (l + 1) * b + body_octets places) t-l t-b;
            one_missing = λ x o. subst (Spread places) t-b
                (one_missing_packet (voice_for form) (voices_have_room.of_sessions form) form t (offer_all s t (n ∷ ns)) (n ∷ ns) delivered.exactly
                (subst NoErasure (sym t-frames) none-erased) x (subst (λ (k : ℕ). OneMissing k (n ∷ ns) x) (sym t-l) o));
          }

      poured-through : (pour : Build session.pour) → PouredThrough pour g (offer_all s t (n ∷ ns)) (n ∷ ns)
      poured-through pour =
          let u = offer_all s t (n ∷ ns) in
          let made : (out : List ℕ) → Writes (octets (entries_of places)) out (pour.run tt (record { session = u; out = out })).0 (pour.run tt (record { session = u; out = out })).1.out
          = λ out. subst (λ (m : Made). Writes m out (pour.run tt (record { session = u; out = out })).0 (pour.run tt (record { session = u; out = out })).1.out)
          delivered.poured (pours-so pour u out).0 in
          record {
            frames = places;
            restored = restores;
            answered = λ out h. (made out).answer ∙ sym (fits-written (entries_of places) out h).answer;
            poured = λ out h. (made out).output ∙ sym (fits-written (entries_of places) out h).output;
          }

-- every offer is accepted, and the session after them is the one that was offered what was sent
pub accepts : (writers : Writers) (offer : Build session.offer) (g : WrittenGroup writers) (form : Form) (i : forms_of g.written form)
    (s : Session) → Ready (voice_for form) form s g.source g.numbers → (n : ℕ) (ns : List ℕ) → Within g.numbers.l (n ∷ ns) →
    AcceptedThrough offer g s (lost_before (voice_for form).shape s g.numbers) (n ∷ ns)
    × (offer_all_through offer g s (n ∷ ns) ≡ offer_all s ((sent-so writers g).sent form i) (n ∷ ns))
accepts writers offer g form i s y n ns w =
    let t = (sent-so writers g).sent form i in
    let d = delivered writers g form i s y n ns w in
    let lost = lost_before (voice_for form).shape s (sent_numbers t.group) in
    let x = through g form t (t-source writers g form i) (t-numbers writers g form i) ((sent-so writers g).its_payload form i) offer s y.in_form lost (n ∷ ns) d.accepted in
    (subst (λ (k : GroupNumbers). AcceptedThrough offer g s (lost_before (voice_for form).shape s k) (n ∷ ns)) (t-numbers writers g form i) x.0, x.1)

pub demand_3 : Demand3
unfolding Demand3
demand_3 writers offer pour g form i s y n ns w =
    let x = accepts writers offer g form i s y n ns w in
    (x.0, subst (λ (u : Session). PouredThrough pour g u (n ∷ ns)) (sym x.1) (poured-through writers g form i s y n ns w pour))
