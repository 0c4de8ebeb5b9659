-- Read after write of packets, of entries of any kind. Assumes nothing.
use Prim.Native.Nat.{ℕ, ◌+◌, ◌*◌, ◌≤◌, ◌<◌}
use mathlib.Core.Path.{◌≡◌, refl, sym, ap, ap₂, ◌∙◌}
use mathlib.Core.List.{List, [], ◌∷◌, ◌++◌}
use mathlib.Core.Bool.{Bool, true, false, cond, ◌&&◌}
use native.Mathlib.Omega.{arith}
use lib.Dec.{T, eqb, leb, ltb, ltb→lt}
use lib.ListN.{length, length-append}
use lib.Seq.{take_at, drop_at}
use borrow.Author.Tests.{lt-leb, le-leb, le-ltb, ltb-false, leb-true, eqb-true}
use Rattle.octets.proofs.Logic.{apart, both_true}
use Rattle.frame.specs.FrameTable.{FrameTable, Frame, known, size, types_of, Every, Listed, AllListed}
use Rattle.frame.proofs.PlacesLaws.{every-so}
use Rattle.frame.specs.Entry.{type_of, d_of}
use Rattle.form.specs.Agreed.{in_range}
use Rattle.answers.specs.Outputs.{Made, octets, refused_output}
use Rattle.form.specs.declared.Limits.{Limits}
use Rattle.form.specs.declared.Form.TheVariants.{Interleaved}
use Rattle.answers.specs.declared.Refusal.{Refusal}
use Rattle.form.proofs.AgreedLaws.{range-bounds}
use Rattle.payload.specs.Payload.{packet, contents, put, toc, total, cut, bodies, interleaved, read_as, l_of, n_of}
use Rattle.entries.specs.Kind.{Kind}
use Rattle.entries.specs.Entries.{EntriesRead, frames, allowed, entries_in, frames_in}
use Rattle.entries.specs.Entries as entry
use Rattle.entries.specs.declared.Rule.TheVariants as rule
use Rattle.entries.proofs.Written.{type-passes, entries-listed}
use Rattle.entries.proofs.Clearing.{read-any}
use Rattle.packet.specs.Packet.{packet_frames, bodies_of, toc_of, packed, group_in}
use Rattle.packet.specs.Writing.{packet_made, packet_within, packet_of_group}
use Rattle.packet.proofs.Packing.{length-packet, packet-every}
use Rattle.claims.specs.Packets.{PacketReadAfterWrite, narrow}

-- ---- frames whose types are in the table and fit an entry, with bodies as long as the table says
pub record FitOne (v : FrameTable) (f : Frame) : Type 0 where
  pub known : known v f.type ≡ true
  pub small : f.type < 64
  pub octets : length f.body ≡ size v f.type

abbrev pub Fit : FrameTable → List Frame → Type 0
Fit v fs = Every (FitOne v) fs

-- frames that are listed are such, where every type of the table is narrow
pub listed-fit : (v : FrameTable) (fs : List Frame) → T (narrow v) → AllListed v fs → Fit v fs
listed-fit v fs h a =
    every-so (Listed v) (FitOne v)
    (λ f x. record { known = x.type_known; small = ltb→lt f.type 64 (type-passes (λ t. ltb t 64) v f.type h x.type_known); octets = x.octets }) fs a

-- ---- the table of contents and the bodies are read back
entry-type : (f d t : ℕ) → t < 64 → type_of (f * 128 + d * 64 + t) ≡ t
entry-type f d t h = omega arith

last-d : (d t : ℕ) → d ≤ 1 → t < 64 → d_of (0 + d * 64 + t) ≡ d
last-d d t g h = omega arith

toc-back :
    (v : FrameTable) (max count at d : ℕ) (fs : List Frame) (rest : List ℕ) →
    d ≤ 1 →
    0 < length fs →
    count + length fs ≤ max →
    Fit v fs →
    toc v max count at (toc_of d (types_of fs) ++ rest) ≡ contents (types_of fs) d (at + length fs) rest
unfolding toc
toc-back v max count at d [] rest g s h w = absurd (omega arith)
toc-back v max count at d (f ∷ []) rest g s h w =
    let a : count < max = omega arith in
    let t = f.type in
    let i : t < 64 = w.0.small in
    let b : 0 + d * 64 + t < 128 = omega arith in
    simp (lt-leb max count a, entry-type 0 d t i, w.0.known, lt-leb 128 (0 + d * 64 + t) b, last-d d t g i)
toc-back v max count at d (f ∷ k ∷ fs) rest g s h w =
    let a : count < max = omega arith in
    let t = f.type in
    let i : t < 64 = w.0.small in
    let b : 128 ≤ 128 + d * 64 + t = omega arith in
    let r = toc-back v max (count + 1) (at + 1) d (k ∷ fs) rest g (omega arith) (omega arith) w.1 in
    simp (lt-leb max count a, entry-type 1 d t i, w.0.known, le-leb 128 (128 + d * 64 + t) b)
    (ap (put t) r ∙ ap (λ (i : ℕ). contents (t ∷ types_of (k ∷ fs)) d i rest) (omega arith))

total-back : (v : FrameTable) (fs : List Frame) → Fit v fs → total v (types_of fs) ≡ length (bodies_of fs)
total-back v [] w = refl
total-back v (f ∷ fs) w = let i = total-back v fs w.1 in omega (arith, w.0.octets, length-append f.body (bodies_of fs))

cut-back : (v : FrameTable) (fs : List Frame) → Fit v fs → cut v (types_of fs) (bodies_of fs) ≡ fs
cut-back v [] w = refl
cut-back v (f ∷ fs) w =
    ap₂ (λ (b : List ℕ) (r : List ℕ). record { type = f.type; body = b } ∷ cut v (types_of fs) r)
    (take_at f.body (bodies_of fs) (size v f.type) w.0.octets)
    (drop_at f.body (bodies_of fs) (size v f.type) w.0.octets)
    ∙ ap (λ (r : List Frame). f ∷ r) (cut-back v fs w.1)

-- what may be written under agreed maxima
pub record Writable (v : FrameTable) (m : Limits) (l n d : ℕ) (fs : List Frame) : Type 0 where
  pub range : in_range m ≡ true
  pub l_max : l ≤ m.max_l
  pub l_small : l ≤ 7
  pub n_below : n ≤ l
  pub d_bit : d ≤ 1
  pub some : 0 < length fs
  pub few : length fs ≤ m.max_b
  pub fit : Fit v fs

pub packed-back : (v : FrameTable) (m : Limits) (l n d : ℕ) (fs : List Frame) → Writable v m l n d fs → read_as v (Interleaved m) (packed l n d fs) ≡ packet l n d fs
unfolding read_as interleaved bodies
packed-back v m l n d fs w =
    let a : l_of (l * 8 + n) ≡ l = omega (arith, w.l_small, w.n_below) in
    let b : n_of (l * 8 + n) ≡ n = omega (arith, w.l_small, w.n_below) in
    let t = toc-back v m.max_b 0 1 d fs (bodies_of fs) w.d_bit w.some (omega (arith, w.few)) w.fit in
    let s = total-back v fs w.fit in
    simp (
      w.range,
      a,
      b,
      le-ltb l n w.n_below,
      le-ltb m.max_l l w.l_max,
      t,
      le-ltb (length (bodies_of fs)) (total v (types_of fs)) (omega arith),
      le-ltb (total v (types_of fs)) (length (bodies_of fs)) (omega arith),
      cut-back v fs w.fit,
    )

-- ---- a packet that was made
passed : (b : Bool) (x : Made) (r : Refusal) (w : List ℕ) → cond b x (refused_output r) ≡ octets w → (b ≡ true) × (x ≡ octets w)
passed true x r w e = (refl, e)
passed false x r w e = apart (cc)

not-refused : (b : Bool) (r : Refusal) (x : Made) (w : List ℕ) → cond b (refused_output r) x ≡ octets w → (b ≡ false) × (x ≡ octets w)
not-refused true r x w e = apart (cc)
not-refused false r x w e = (refl, e)

pub record MadeOf (kind : Kind) (m : Limits) (l n b d : ℕ) (es w : List ℕ) : Type 0 where
  pub writable : T (narrow kind.table) → Writable kind.table m l n d (packet_frames l n b (group_in kind es))
  pub count : length (group_in kind es) ≡ (l + 1) * b
  pub whole : AllListed kind.table (group_in kind es)
  pub sent : entries_in kind rule.Sendable es ≡ frames (group_in kind es)
  pub is : w ≡ packed l n d (packet_frames l n b (group_in kind es))

pub made_of : (kind : Kind) (m : Limits) (l n b d : ℕ) (es w : List ℕ) → packet_made kind (Interleaved m) l n b d es ≡ octets w → MadeOf kind m l n b d es w
unfolding packet_made packet_within packet_of_group frames_in
made_of kind m l n b d es w e =
    let a = passed (in_range m && leb d 1) (packet_within kind m l n b d es) _ w e in
    let r = both_true (in_range m) (leb d 1) a.0 in
    let i = not-refused (ltb l n) _ _ w a.1 in
    let j = not-refused (ltb m.max_l l) _ _ w i.1 in
    let k = passed (leb 1 b && leb b m.max_b) (packet_of_group l n b d (entries_in kind rule.Sendable es)) _ w j.1 in
    let c = both_true (leb 1 b) (leb b m.max_b) k.0 in
    go r.0 (leb-true d 1 r.1) (ltb-false l n i.0) (ltb-false m.max_l l j.0) (leb-true 1 b c.0) (leb-true b m.max_b c.1) (entries_in kind rule.Sendable es) refl k.1
  where
    go : in_range m ≡ true → d ≤ 1 → n ≤ l → l ≤ m.max_l → 1 ≤ b → b ≤ m.max_b →
        (u : EntriesRead) → entries_in kind rule.Sendable es ≡ u → packet_of_group l n b d u ≡ octets w → MadeOf kind m l n b d es w
    go g h q s p t (entry.refused_entries f) x y = apart (cc)
    go g h q s p t (frames fs) x y =
        let z = passed (eqb (length fs) ((l + 1) * b)) (octets (packed l n d (packet_frames l n b fs))) _ w y in
        let c = eqb-true (length fs) ((l + 1) * b) z.0 in
        let f : group_in kind es ≡ fs = ap frames_in (read-any kind rule.Sendable 0 es fs x) in
        let o = length-packet l n b fs in
        record {
          writable = λ narrows. rw f (record {
            range = g;
            l_max = s;
            l_small = omega (arith, (range-bounds m g).0);
            n_below = q;
            d_bit = h;
            some = omega arith;
            few = omega arith;
            fit = listed-fit kind.table (packet_frames l n b fs) narrows
                (packet-every (Listed kind.table) l n b fs (entries-listed kind (allowed kind.table rule.Sendable) es 0 fs x) q (omega arith));
          });
          count = rw f c;
          whole = rw f (entries-listed kind (allowed kind.table rule.Sendable) es 0 fs x);
          sent = x ∙ ap frames (sym f);
          is = rw f (cc z.1);
        }

pub packet_read_after_write : PacketReadAfterWrite
unfolding PacketReadAfterWrite
packet_read_after_write kind t m l n b d es w e =
    let x = made_of kind m l n b d es w e in
    ap (read_as kind.table (Interleaved m)) x.is ∙ packed-back kind.table m l n d (packet_frames l n b (group_in kind es)) (x.writable t)
