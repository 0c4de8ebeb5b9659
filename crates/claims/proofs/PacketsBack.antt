-- Write after read of packets, and the header-free writer's round trips, of entries of any kind. Assumes nothing.
use Rattle.std.proofs.Common.{Option, Some, None}
use Prim.Native.Nat.{ℕ, ◌+◌, ◌*◌, ◌-◌, ◌≤◌, ◌<◌}
use mathlib.Core.Path.{◌≡◌, refl, sym, ap, ap₂, subst, ◌∙◌}
use mathlib.Core.List.{List, [], ◌∷◌, ◌++◌}
use mathlib.Core.Bool.{Bool, true, false, cond, ◌&&◌}
use native.Mathlib.Omega.{arith}
use lib.Dec.{T, eqb, leb, ltb, eqb→eq}
use lib.ListN.{length, take, drop, get_or}
use lib.Seq.{take-add, take_all}
use borrow.Author.Tests.{eq-eqb, ne_eqb, eqb-true, eqb-false, le-leb, leb-true, leb-false, lt-ltb, ltb-true}
use Rattle.octets.proofs.Logic.{apart, both_true, both_hold}
use Rattle.frame.specs.FrameTable.{rows_of, FrameTable, Frame, row_of, row_with, row_of_size, known, size, low_bits, sendable, sendable_as, types_of}
use Rattle.frame.specs.FrameTable.{Listed}
use Rattle.frame.specs.Entry.{type_of, d_of, more}
use Rattle.form.specs.Agreed.{in_range}
use Rattle.answers.specs.Outputs.{octets}
use Rattle.form.specs.declared.Limits.{Limits}
use Rattle.frame.specs.declared.Row.{Row}
use Rattle.form.specs.declared.Form.TheVariants.{HeaderFree, Interleaved}
use Rattle.frame.proofs.PlacesLaws.{every-so}
use Rattle.frame.specs.declared.Vocoder.TheVariants.{Evrc}
use Rattle.frame.proofs.FrameTableLaws.{found-known, found-size, rows-single}
use Rattle.payload.specs.Payload.{packet, Toc, contents, fault, put, toc, total, cut, read_as}
use Rattle.payload.specs.Payload as payload
use Rattle.payload.proofs.Tables.{entry_if}
use Rattle.payload.proofs.Laying.{framed}
use Rattle.payload.proofs.Checks.{length_cut}
use Rattle.entries.specs.Entries.{EntriesRead, frames, allowed, entries_in, frames_in, entries_of}
use Rattle.entries.specs.Entries as entry
use Rattle.entries.specs.declared.Rule.TheVariants as rule
use Rattle.entries.proofs.Written.{entries-written}
use Rattle.entries.proofs.Clearing.{read-any}
use Rattle.entries.proofs.EntriesLaws.{entry as inverted}
use Rattle.packet.specs.Packet.{bodies_of, follows, toc_of, packed, group_in}
use Rattle.packet.specs.Writing.{packet_made, packet_of_group, header_free_made, one_body}
use Rattle.packet.proofs.Choosing.{within-group}
use Rattle.claims.specs.Packets.{SendableIsWritten, WriterWrites, HeaderFreeWriterWrites, PacketWriteAfterRead, EveryD, AreOctets, kind_is, tells}
use Rattle.claims.specs.Packets.{HeaderFreeReadAfterWrite, HeaderFreeWriteAfterRead, KindsPass}

-- ---- the table of contents that is written is the one that was read
abbrev Back : List ℕ → Toc → Type 0
Back es (contents ts d at rest) = EveryD d (length ts) es → (toc_of d ts ++ rest ≡ es) × (0 < length ts) × (d ≤ 1)
Back es (fault f) = Unit {0}

another : (ts : List ℕ) → 0 < length ts → follows ts ≡ 128
another [] h = absurd (omega arith)
another (t ∷ ts) h = refl

put_back : (x : ℕ) (es : List ℕ) (w : Toc) → x < 256 → 128 ≤ x → Back es w → Back (x ∷ es) (put (type_of x) w)
put_back x es (contents ts d at rest) a b h =
    λ q.
    let i = h q.1 in
    let e : follows ts + d * 64 + type_of x ≡ x = omega (arith, another ts i.1, q.0) in
    (ap₂ (λ (y : ℕ) (l : List ℕ). y ∷ l) e i.0, omega arith, i.2)
put_back x es (fault f) a b h = tt

entry-back :
    (at x : ℕ) (es : List ℕ) (w : Toc) (full good on : Bool) →
    x < 256 →
    more x ≡ on →
    Back es w →
    Back (x ∷ es) (entry_if at x es w full good on)
entry-back at x es w true good on a e h = tt
entry-back at x es w false false on a e h = tt
entry-back at x es w false true true a e h = put_back x es w a (leb-true 128 x e) h
entry-back at x es w false true false a e h =
    let b = leb-false 128 x e in
    λ q. let y : 0 + d_of x * 64 + type_of x ≡ x = omega arith in (ap (λ (z : ℕ). z ∷ es) y, omega arith, omega arith)

toc-again : (v : FrameTable) (max count at : ℕ) (es : List ℕ) → AreOctets es → Back es (toc v max count at es)
unfolding toc
toc-again v max count at [] o = tt
toc-again v max count at (x ∷ es) o =
    entry-back at x es (toc v max (count + 1) (at + 1) es) (leb max count) (known v (type_of x)) (more x) o.0 refl (toc-again v max (count + 1) (at + 1) es o.1)

types-cut : (v : FrameTable) (ts bs : List ℕ) → types_of (cut v ts bs) ≡ ts
types-cut v [] bs = refl
types-cut v (t ∷ ts) bs = ap (λ (l : List ℕ). t ∷ l) (types-cut v ts (drop (size v t) bs))

bodies-cut : (v : FrameTable) (ts bs : List ℕ) → bodies_of (cut v ts bs) ≡ take (total v ts) bs
bodies-cut v [] bs = refl
bodies-cut v (t ∷ ts) bs =
    ap (λ (l : List ℕ). take (size v t) bs ++ l) (bodies-cut v ts (drop (size v t) bs)) ∙ sym (take-add (size v t) (total v ts) bs)

-- a payload that was read, packed again
record Again (v : FrameTable) (m : Limits) (p : List ℕ) (l n d : ℕ) (gs : List Frame) : Type 0 where
  same : packed l n d gs ≡ p
  range : in_range m ≡ true
  bit : d ≤ 1
  index : n ≤ l
  short : l ≤ m.max_l
  some : 1 ≤ length gs
  few : length gs ≤ m.max_b

octets-behind : (p : List ℕ) (x : ℕ) (es : List ℕ) → p ≡ x ∷ es → AreOctets p → AreOctets es
octets-behind p x es e o = (subst AreOctets e o).1

again :
    (v : FrameTable) (m : Limits) (p : List ℕ) (l n d : ℕ) (gs : List Frame) →
    read_as v (Interleaved m) p ≡ packet l n d gs →
    AreOctets p →
    get_or p 0 0 < 64 →
    EveryD d (length gs) (drop 1 p) →
    Again v m p l n d gs
again v m p l n d gs e o h q =
    let x = framed v m p l n d gs e in
    let w = x.whole in
    let c : length gs ≡ length x.ts = ap length x.frames ∙ length_cut v x.ts x.rest in
    let q' : EveryD d (length x.ts) x.es = subst (λ (k : ℕ). EveryD d k x.es) c (subst (λ (r : List ℕ). EveryD d (length gs) (drop 1 r)) x.split q) in
    let b = subst (Back x.es) x.toc_is (toc-again v m.max_b 0 1 x.es (octets-behind p x.head x.es x.split o)) q' in
    let t : types_of gs ≡ x.ts = ap types_of x.frames ∙ types-cut v x.ts x.rest in
    let u : bodies_of gs ≡ x.rest = ap bodies_of x.frames ∙ bodies-cut v x.ts x.rest ∙ take_all (total v x.ts) x.rest (omega (arith, x.full)) in
    let h' : x.head < 64 = subst (λ (r : List ℕ). get_or r 0 0 < 64) x.split h in
    let y : l * 8 + n ≡ x.head = omega (arith, x.l_is, x.n_is) in
    record {
      same = ap₂ (λ (a : ℕ) (r : List ℕ). a ∷ r) y (ap₂ (λ (a r : List ℕ). toc_of d a ++ r) t u ∙ b.0) ∙ sym x.split;
      range = x.range;
      bit = b.2;
      index = omega (arith, x.index, x.l_is, x.n_is);
      short = omega (arith, x.short, x.l_is);
      some = omega (arith, w.some);
      few = omega (arith, w.few);
    }

-- what a sendable frame is
record SendableRow (v : FrameTable) (f : Frame) : Type 0 where
  r : Row
  row : row_of v f.type ≡ Some r
  long : length f.body ≡ r.octets
  sent : r.sent ≡ true

sendable-row : (v : FrameTable) (f : Frame) → sendable v f.type f.body ≡ true → SendableRow v f
sendable-row v f e = go (row_of v f.type) refl e
  where
    go : (l : Option Row) → row_of v f.type ≡ l → sendable_as l f.body ≡ true → SendableRow v f
    go None q x = apart (cc)
    go (Some r) q x =
        let a = both_true (eqb (length f.body) r.octets && eqb (low_bits (get_or f.body (r.octets - 1) 0) r.spare) 0) r.sent x in
        let b = both_true (eqb (length f.body) r.octets) (eqb (low_bits (get_or f.body (r.octets - 1) 0) r.spare) 0) a.0 in
        record { r = r; row = q; long = eqb-true (length f.body) r.octets b.0; sent = a.1 }

listed-sendable : (v : FrameTable) (f : Frame) → sendable v f.type f.body ≡ true → Listed v f
listed-sendable v f e =
    let s = sendable-row v f e in
    record { type_known = found-known v f.type s.r s.row; octets = s.long ∙ sym (found-size v f.type s.r s.row) }

-- ---- what is written
pub sendable_is_written : SendableIsWritten
unfolding SendableIsWritten allowed
sendable_is_written kind h = record {
  group = λ fs a. entries-written kind h (allowed kind.table rule.Sendable) 0 fs (every-so _ _ (listed-sendable kind.table) fs a) (every-so _ _ (λ f x. x) fs a);
  one = λ f s b. entries-written kind h (allowed kind.table rule.HeaderFree) 0 (f ∷ []) (listed-sendable kind.table f s, tt) (simp (lt-ltb 0 (length f.body) b, s), tt);
}

pub writer_writes : WriterWrites
unfolding WriterWrites packet_made packet_of_group
writer_writes kind m l n b d a i s h es fs e c =
    simp (a.in_range, le-leb d 1 h)
    (within-group kind m l n b d es i a.long_enough s a.wide_enough ∙ rw (e, eq-eqb (length fs) ((l + 1) * b) c))

pub header_free_writer_writes : HeaderFreeWriterWrites
unfolding HeaderFreeWriterWrites header_free_made one_body
header_free_writer_writes kind es f e = rw e

-- ---- write after read
pub packet_write_after_read : PacketWriteAfterRead
unfolding PacketWriteAfterRead WriterWrites SendableIsWritten
packet_write_after_read kind h m p l n d gs e o z q fs g =
    let x = again kind.table m p l n d gs e o z q in
    writer_writes kind m l n (length gs) d (record { in_range = x.range; long_enough = x.short; wide_enough = x.few }) x.index x.some x.bit
    (entries_of fs) fs ((sendable_is_written kind h).group fs g.sendable) g.many
    ∙ rw g.ours (ap octets x.same)

-- ---- the header-free writer
free-ok : (v : FrameTable) (f : Frame) → allowed v rule.HeaderFree f ≡ true → (0 < length f.body) × (sendable v f.type f.body ≡ true)
unfolding allowed
free-ok v f e = let a = both_true (ltb 0 (length f.body)) (sendable v f.type f.body) e in (ltb-true 0 (length f.body) a.0, a.1)

-- the row of a type that may be sent is told by its size
record Told (v : FrameTable) (n t : ℕ) : Type 0 where
  r : Row
  row : row_with v n ≡ Some r
  kind : r.kind ≡ t

told-kind : (v : FrameTable) (n k : ℕ) (l : Option Row) → row_with v n ≡ l → T (kind_is l k) → Told v n k
told-kind v n k None q h = absurd h
told-kind v n k (Some r) q h = record { r = r; row = q; kind = eqb→eq r.kind k h }

told : (v u : FrameTable) (t : ℕ) (r : Row) → T (tells v u) → row_of u t ≡ Some r → r.sent ≡ true → 0 < r.octets → Told v r.octets t
unfolding row_of
told v [] t r h e s o = apart (cc)
told v (x ∷ u) t r h e s o = go (eqb t x.kind) refl e (λ y. told v u t r (both_hold (cond (x.sent && ltb 0 x.octets) (kind_is (row_with v x.octets) x.kind) true) (tells v u) h).1 y s o)
  where
    go : (b : Bool) → eqb t x.kind ≡ b → cond b (Some x) (row_of u t) ≡ Some r → (row_of u t ≡ Some r → Told v r.octets t) → Told v r.octets t
    go false q y i = i y
    go true q y i =
        let same : x ≡ r = cc in
        let k : x.kind ≡ t = sym (eqb-true t x.kind q) in
        let s' : x.sent ≡ true = ap (λ (z : Row). z.sent) same ∙ s in
        let o' : 0 < x.octets = omega (arith, ap (λ (z : Row). z.octets) same) in
        let a : T (kind_is (row_with v x.octets) x.kind) =
        simp (s', lt-ltb 0 x.octets o') at
        (both_hold (cond (x.sent && ltb 0 x.octets) (kind_is (row_with v x.octets) x.kind) true) (tells v u) h).0 in
        subst (λ (j : ℕ). Told v r.octets j) k (subst (λ (z : Row). Told v z.octets x.kind) same (told-kind v x.octets x.kind (row_with v x.octets) refl a))

pub header_free_read_after_write : HeaderFreeReadAfterWrite
unfolding HeaderFreeReadAfterWrite header_free_made one_body read_as payload.one_body frames_in
header_free_read_after_write kind h es w e = go (entries_in kind rule.HeaderFree es) refl e
  where
    go : (u : EntriesRead) → entries_in kind rule.HeaderFree es ≡ u → one_body u ≡ octets w → read_as kind.table HeaderFree w ≡ packet 0 0 0 (group_in kind es)
    go (entry.refused_entries f) q x = apart (cc)
    go (frames []) q x = apart (cc)
    go (frames (f ∷ k ∷ fs)) q x = apart (cc)
    go (frames (f ∷ [])) q x =
        let b : f.body ≡ w = cc in
        let i = inverted kind (allowed kind.table rule.HeaderFree) es 0 f [] q in
        let a = free-ok kind.table f i.allowed in
        let s = sendable-row kind.table f a.1 in
        let t = told kind.table kind.table f.type s.r h s.row s.sent (omega (arith, a.0, s.long)) in
        let n : length w ≡ s.r.octets = ap length (sym b) ∙ s.long in
        let z : length w ≡ 0 → ⊥ = λ y. absurd (omega (arith, a.0, s.long)) in
        let g : group_in kind es ≡ f ∷ [] = ap frames_in (read-any kind rule.HeaderFree 0 es (f ∷ []) q) in
        let row : row_of_size kind.table (length w) ≡ Some t.r = rw (ne_eqb (length w) 0 z) (ap (row_with kind.table) n ∙ t.row) in
        rw (row, g) (ap₂ (λ (c : ℕ) (y : List ℕ). packet 0 0 0 (record { type = c; body = y } ∷ [])) t.kind (sym b))

pub header_free_write_after_read : HeaderFreeWriteAfterRead
unfolding HeaderFreeWriteAfterRead HeaderFreeWriterWrites SendableIsWritten read_as payload.one_body
header_free_write_after_read kind h p l n d f e s = go (eqb (length p) 0) refl e
  where
    here : (k : Option Row) → 0 < length p → payload.one_body k p ≡ packet l n d (f ∷ []) → header_free_made kind HeaderFree (entries_of (f ∷ [])) ≡ octets p
    here None z x = apart (cc)
    here (Some r) z x =
        let b : p ≡ f.body = cc in
        let y = (sendable_is_written kind h).one f s (omega (arith, ap length b)) in
        header_free_writer_writes kind (entries_of (f ∷ [])) f y ∙ ap octets (sym b)

    go : (c : Bool) → eqb (length p) 0 ≡ c → payload.one_body (cond c None (row_with kind.table (length p))) p ≡ packet l n d (f ∷ []) →
        header_free_made kind HeaderFree (entries_of (f ∷ [])) ≡ octets p
    go true q x = apart (cc)
    go false q x = here (row_with kind.table (length p)) (let z = eqb-false (length p) 0 q in omega arith) x

pub kinds_pass : KindsPass
unfolding KindsPass rows_of row_of row_with
kinds_pass Evrc = record { narrows = tt; tells_apart = tt; once = rows-single Evrc; keeps = tt; erases = tt }
