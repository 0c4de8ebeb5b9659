-- Our writers send groups that demand 3 speaks of. Assumes nothing.
use Rattle.std.proofs.Common.{Option, Some, None}
use Prim.Native.Nat.{ℕ, ◌-◌, ◌≤◌, ◌<◌, zero-le}
use mathlib.Core.Path.{◌≡◌, refl, sym, ap, subst, ◌∙◌}
use mathlib.Core.List.{List, [], ◌∷◌}
use mathlib.Core.Bool.{Bool, true, false, not, ◌&&◌}
use native.Mathlib.Omega.{arith}
use lib.ListN.{length, get_or}
use lib.Dec.{T, eqb, ltb}
use borrow.Author.Tests.{eqb-true}
use Rattle.octets.proofs.Logic.{apart, both_true}
use Rattle.frame.specs.declared.Vocoder.TheVariants.{Evrc}
use Rattle.frame.proofs.PlacesLaws.{every-at, every-so}
use Rattle.frame.specs.declared.Row.{Row}
use Rattle.frame.specs.FrameTable.{rows_of, FrameTable, Frame, row_of, erasure, low_bits, sendable, sendable_as, AllListed, Every}
use Rattle.frame.specs.Places.{up_to, frame_at}
use Rattle.answers.specs.Outputs.{octets}
use Rattle.form.specs.declared.Limits.{Limits}
use Rattle.form.specs.declared.Form.{Form}
use Rattle.form.specs.declared.Form.TheVariants.{HeaderFree, Interleaved}
use Rattle.frame.specs.Shape.{voice_with}
use Rattle.numbers.specs.declared.GroupNumbers.{GroupNumbers}
use Rattle.form.proofs.AgreedLaws.{range-bounds}
use Rattle.payload.specs.Payload.{packet, read_as}
use Rattle.entries.specs.Kind.{Kind}
use Rattle.entries.specs.Entries.{EntriesRead, frames, entries_in, frames_in, allowed}
use Rattle.entries.proofs.Written.{entries-listed, entries-ok}
use Rattle.entries.specs.Entries as entry
use Rattle.entries.specs.declared.Rule.TheVariants as rule
use Rattle.entries.proofs.Clearing.{read-any}
use Rattle.packet.specs.Packet.{packet_frames, group_in}
use Rattle.packet.specs.Writing.{header_free_made, one_body, packet_made}
use Rattle.packet.proofs.Packing.{length-packet}
use Rattle.claims.specs.Packets.{narrow, tells, Admits, HeaderFreeReadAfterWrite}
use Rattle.claims.specs.Offering.{SentGroup, Sent}
use Rattle.claims.specs.Sending.{AdmitsIn, WriterSends, HeaderFreeWriterSends, sent_of, never_sent, WriterSendsNoErasure, HeaderFreeSendsNoErasure}
use Rattle.claims.specs.Sending.{TablesNeverSendErasures}
use Rattle.claims.specs.Missing.{is_erasure}
use Rattle.claims.proofs.Packets.{made_of, packed-back}
use Rattle.claims.proofs.PacketsBack.{header_free_read_after_write}

-- a packet that was written is read back under any limits that admit it
admitted :
    (kind : Kind) → T (narrow kind.table) → (m limits : Limits) (l n b d : ℕ) (es w : List ℕ) →
    Admits limits l b →
    packet_made kind (Interleaved m) l n b d es ≡ octets w →
    read_as kind.table (Interleaved limits) w ≡ packet l n d (packet_frames l n b (group_in kind es))
admitted kind t m limits l n b d es w ok e =
    let x = made_of kind m l n b d es w e in
    let y = x.writable t in
    let c = length-packet l n b (group_in kind es) in
    ap (read_as kind.table (Interleaved limits)) x.is
    ∙ packed-back kind.table limits l n d (packet_frames l n b (group_in kind es))
    (record {
      range = ok.in_range;
      l_max = ok.long_enough;
      l_small = y.l_small;
      n_below = y.n_below;
      d_bit = y.d_bit;
      some = y.some;
      few = omega (arith, ok.wide_enough);
      fit = y.fit;
    })

module _ (kind : Kind) (t : T (narrow kind.table)) (m : Limits) (g : GroupNumbers) (es : List ℕ) (d : ℕ → ℕ) (payload : ℕ → List ℕ)
    (made : (n : ℕ) → n ≤ g.l → packet_made kind (Interleaved m) g.l n g.b (d n) es ≡ octets (payload n)) where
  -- the group that was written, whatever form it is read in
  written-group : (source : ℕ) → g.sequence < 65536 → g.timestamp < 4294967296 → SentGroup (voice_with kind.table)
  written-group source hs ht =
      let x = made_of kind m g.l 0 g.b (d 0) es (payload 0) (made 0 zero-le) in
      let w = x.writable t in
      let r = range-bounds m w.range in
      let c = length-packet g.l 0 g.b (group_in kind es) in
      record {
        source = source;
        sequence = g.sequence;
        timestamp = g.timestamp;
        l = g.l;
        b = g.b;
        frames = group_in kind es;
        sequence_fits = hs;
        timestamp_fits = ht;
        low = w.l_small;
        some = omega (arith, w.some);
        few = omega (arith, w.few, r.2);
        many = x.count;
        listed = x.whole;
      }

  -- and its packets, in a form that admits it
  written_in : (source : ℕ) → g.sequence < 65536 → g.timestamp < 4294967296 → (form : Form) → AdmitsIn g.l g.b form → Sent (voice_with kind.table) form
  unfolding AdmitsIn written-group
  written_in source hs ht HeaderFree i = absurd i
  written_in source hs ht (Interleaved limits) i = record {
    group = written-group source hs ht;
    payload = payload;
    d = d;
    read = λ n h. admitted kind t m limits g.l n g.b (d n) es (payload n) i (made n h);
  }

pub writer_sends : WriterSends
unfolding WriterSends AdmitsIn written-group written_in
writer_sends kind t m g es d payload made source hs ht = record {
  group = written-group kind t m g es d payload made source hs ht;
  its_source = refl;
  its_numbers = refl;
  its_frames = refl;
  sent = written_in kind t m g es d payload made source hs ht;
  same_group = λ form i. group-in form i;
  its_payload = λ form i n. payload_in form i n;
}
  where
    group-in : (form : Form) (i : AdmitsIn g.l g.b form) → (written_in kind t m g es d payload made source hs ht form i).group ≡ written-group kind t m g es d payload made source hs ht
    group-in HeaderFree i = absurd i
    group-in (Interleaved limits) i = refl

    payload_in : (form : Form) (i : AdmitsIn g.l g.b form) (n : ℕ) → (written_in kind t m g es d payload made source hs ht form i).payload n ≡ payload n
    payload_in HeaderFree i n = absurd i
    payload_in (Interleaved limits) i n = refl

-- one frame is a group of one packet of one frame
record One (kind : Kind) (es : List ℕ) : Type 0 where
  frame : Frame
  is : group_in kind es ≡ frame ∷ []
  listed : AllListed kind.table (group_in kind es)
  may_be_sent : sendable kind.table frame.type frame.body ≡ true

one-frame : (kind : Kind) (es w : List ℕ) → header_free_made kind HeaderFree es ≡ octets w → One kind es
unfolding header_free_made one_body frames_in allowed
one-frame kind es w e = go (entries_in kind rule.HeaderFree es) refl e
  where
    go : (u : EntriesRead) → entries_in kind rule.HeaderFree es ≡ u → one_body u ≡ octets w → One kind es
    go (entry.refused_entries f) q x = apart (cc)
    go (frames []) q x = apart (cc)
    go (frames (f ∷ k ∷ fs)) q x = apart (cc)
    go (frames (f ∷ [])) q x =
        let g : group_in kind es ≡ f ∷ [] = ap frames_in (read-any kind rule.HeaderFree 0 es (f ∷ []) q) in
        let ok = entries-ok kind (allowed kind.table rule.HeaderFree) es 0 (f ∷ []) q in
        record {
          frame = f;
          is = g;
          listed = rw g (entries-listed kind (allowed kind.table rule.HeaderFree) es 0 (f ∷ []) q);
          may_be_sent = (both_true (ltb 0 (length f.body)) (sendable kind.table f.type f.body) ok.0).1;
        }

only-packet : (fs : List Frame) (f : Frame) → fs ≡ f ∷ [] → fs ≡ packet_frames 0 0 1 fs
unfolding packet_frames up_to
only-packet fs f e = rw e

module _ (kind : Kind) (t : T (tells kind.table kind.table)) (es w : List ℕ) (made : header_free_made kind HeaderFree es ≡ octets w) (source sequence timestamp : ℕ)
    (hs : sequence < 65536) (ht : timestamp < 4294967296) where
  -- the group of one packet of one frame
  one_group : SentGroup (voice_with kind.table)
  one_group =
      let o = one-frame kind es w made in
      record {
        source = source;
        sequence = sequence;
        timestamp = timestamp;
        l = 0;
        b = 1;
        frames = group_in kind es;
        sequence_fits = hs;
        timestamp_fits = ht;
        low = omega arith;
        some = omega arith;
        few = omega arith;
        many = ap length o.is;
        listed = o.listed;
      }

  one-sent : Sent (voice_with kind.table) HeaderFree
  unfolding HeaderFreeReadAfterWrite one_group
  one-sent =
      let o = one-frame kind es w made in
      record {
        group = one_group;
        payload = λ n. w;
        d = λ n. 0;
        read = λ n h. header_free_read_after_write kind t es w made
            ∙ ap (packet 0 0 0) (only-packet (group_in kind es) o.frame o.is)
            ∙ ap (λ (i : ℕ). packet 0 i 0 (packet_frames 0 i 1 (group_in kind es))) (sym (let z : n ≡ 0 = omega arith in z));
      }

  one_in : (form : Form) → form ≡ HeaderFree → Sent (voice_with kind.table) form
  one_in HeaderFree e = one-sent
  one_in (Interleaved m) e = apart (cc)

  one_same : (form : Form) (e : form ≡ HeaderFree) → (one_in form e).group ≡ one_group
  unfolding one_in one-sent
  one_same HeaderFree e = refl
  one_same (Interleaved m) e = apart (cc)

  one-payload : (form : Form) (e : form ≡ HeaderFree) (n : ℕ) → (one_in form e).payload n ≡ w
  unfolding one_in one-sent
  one-payload HeaderFree e n = refl
  one-payload (Interleaved m) e n = apart (cc)

pub header_free_writer_sends : HeaderFreeWriterSends
unfolding HeaderFreeWriterSends one_group
header_free_writer_sends kind t es w made source sequence timestamp hs ht = record {
  group = one_group kind t es w made source sequence timestamp hs ht;
  its_source = refl;
  its_numbers = refl;
  its_frames = refl;
  sent = one_in kind t es w made source sequence timestamp hs ht;
  same_group = one_same kind t es w made source sequence timestamp hs ht;
  its_payload = one-payload kind t es w made source sequence timestamp hs ht;
}

-- ---- no erasure is sent
pub tables_never_send_erasures : TablesNeverSendErasures
unfolding TablesNeverSendErasures rows_of row_of
tables_never_send_erasures Evrc = tt

sendable-sent : (v : FrameTable) → T (never_sent v) → (f : Frame) → sendable v f.type f.body ≡ true → is_erasure f ≡ false
sendable-sent v t f e = go (eqb f.type erasure) refl
  where
    not-sent : (k : Option Row) → T (not (sent_of k)) → (b : List ℕ) → sendable_as k b ≡ true → ⊥
    not-sent None x b q = apart (cc)
    not-sent (Some r) x b q = both r.sent x (both_true (eqb (length b) r.octets && eqb (low_bits (get_or b (r.octets - 1) 0) r.spare) 0) r.sent q).1
      where
        both : (u : Bool) → T (not u) → u ≡ true → ⊥
        both true y z = y
        both false y z = apart (cc)

    go : (u : Bool) → eqb f.type erasure ≡ u → eqb f.type erasure ≡ false
    go true q =
        let z : sendable v erasure f.body ≡ true = subst (λ (y : ℕ). sendable v y f.body ≡ true) (eqb-true f.type erasure q) e in
        absurd (not-sent (row_of v erasure) t f.body z)
    go false q = q

-- frames that may be sent
none-sent : (v : FrameTable) → T (never_sent v) → (fs : List Frame) → Every (λ f. sendable v f.type f.body ≡ true) fs → (i : ℕ) → i < length fs → is_erasure (frame_at fs i) ≡ false
none-sent v t fs ok i h = every-at (λ f. is_erasure f ≡ false) fs i (every-so _ _ (λ f x. sendable-sent v t f x) fs ok) h

pub writer_sends_no_erasure : WriterSendsNoErasure
unfolding WriterSendsNoErasure allowed
writer_sends_no_erasure kind t m l n b d es w e =
    none-sent kind.table t (group_in kind es) (entries-ok kind (allowed kind.table rule.Sendable) es 0 (group_in kind es) (made_of kind m l n b d es w e).sent)

pub header_free_sends_no_erasure : HeaderFreeSendsNoErasure
unfolding HeaderFreeSendsNoErasure
header_free_sends_no_erasure kind t es w e =
    let o = one-frame kind es w e in
    none-sent kind.table t (group_in kind es) (subst (Every (λ f. sendable kind.table f.type f.body ≡ true)) (sym o.is) (o.may_be_sent, tt))
