-- What a capture gives is a recording: every step of the run records entries, and leaves a session whose group is a box or none. Assumes nothing.
use Prim.Native.Nat.{ℕ, zero, suc, ◌+◌, ◌≤◌, ◌<◌}
use mathlib.Core.Bool.{Bool, true, false, cond}
use mathlib.Core.Path.{◌≡◌, refl, sym, ap, ap₂, ◌∙◌}
use mathlib.Core.List.{List, [], ◌∷◌, ◌++◌}
use native.Mathlib.Omega.{arith}
use lib.Dec.{T, eqb, eqb→eq}
use lib.ListN.{length, replicate}
use lib.Seq.{drop-append_seam}
use Rattle.octets.proofs.Logic.{apart, both_hold, hold-true}
use Rattle.frame.specs.FrameTable.{FrameTable, Frame, Listed, AllListed, single, known, size, erasure}
use Rattle.frame.specs.Shape.{Voice, holding_shape, packets_of, voice_with}
use Rattle.frame.specs.Places.{up_to, no_frame}
use Rattle.frame.proofs.FrameTableLaws.{erasure-listed}
use Rattle.frame.proofs.PlacesLaws.{upTo-at, every-at, every_append, every-up_to, length-upTo}
use Rattle.payload.proofs.Readings.{IsPacket, read_is}
use Rattle.entries.specs.Kind.{Kind, keeps_types, lists_erasure}
use Rattle.entries.specs.Entries.{frames, allowed, entries_of}
use Rattle.entries.proofs.Written.{AllOk, entries-written}
use Rattle.recording.specs.Recording.{recording_read}
use Rattle.entries.specs.declared.Rule.TheVariants.{Any}
use Rattle.recording.proofs.Opening.{begins-self}
use Rattle.bundle.specs.Bundles.{frame_of}
use Rattle.bundle.specs.declared.Bundle.{Bundle}
use Rattle.numbers.specs.declared.GroupNumbers.{GroupNumbers}
use Rattle.holding.specs.Group.{is_nothing, held_at, bundle_at, with_packet, begun, holds}
use Rattle.bundle.specs.LaidOut.{laid}
use Rattle.holding.specs.declared.Holding.{Holding}
use Rattle.holding.proofs.GroupLaws.{sound-has, holds-sound, sound-something, nothing_is}
use Rattle.pouring.specs.Pouring.{row, rows, in_time, poured}
use Rattle.pouring.proofs.PouringLaws.{entries-append}
use Rattle.knowledge.specs.Knowledge.{Box}
use Rattle.knowledge.proofs.Cells.{packet-sized}
use Rattle.knowledge.proofs.PacketLaws.{right-listed, erased-frame}
use Rattle.knowledge.proofs.JoinLaws.{box-sound, box-blank, right-held}
use Rattle.knowledge.proofs.PutLaws.{put-box, begun-keeps}
use Rattle.session.specs.Session.{Offered, never_opened, fresh, vacant, is_open, refuse, accept, with_group, begins, arrival, offered, pour_made}
use Rattle.session.specs.Session.{ended}
use Rattle.session.specs.declared.Session.{Session}
use Rattle.session.proofs.Ends.{Placed, no, again, put, first, next, Ends, refuses, places, offer-ends}
use Rattle.capture.specs.Capture.{Heard, packets_in}
use Rattle.capture.specs.Run.{Step, still, and_then, first_session, offered_to, taken_of, offering, poured_of, pouring, is_twelve, readied, step_of, run_of}
use Rattle.capture.specs.Run.{whole_run, entries_recorded, capture_recording}
use Rattle.capture.proofs.Largest.{made_if}
use Rattle.claims.specs.Joinings.{HasRoom}
use Rattle.claims.specs.Captures.{GivesARecording}

-- ---- the frames of a box are as the table has them
module _ (v : Voice) (r : HasRoom v) (h : Holding) (x : Box v h) where
  frame-listed : (n k : ℕ) → n < packets_of v.shape → k < h.numbers.b → Listed v.table (frame_of v (bundle_at v.shape h n) k)
  frame-listed n k p q = go (held_at h n) refl
    where
      few : k < 10
      few = omega (arith, q, (box-sound v h x).few)

      here : Bundle
      here = bundle_at v.shape h n

      go : (b : Bool) → held_at h n ≡ b → Listed v.table (frame_of v here k)
      go true e =
          let a = right-listed v r.short r.erasing h.numbers.b (box-sound v h x).few here (packet-sized v.shape h n x.shaped p) (right-held v h x n p e).1 in
          let l = every-at (Listed v.table) (up_to (frame_of v here) h.numbers.b) k a (omega (arith, q, length-upTo (frame_of v here) h.numbers.b)) in
          rw (← upTo-at (frame_of v here) h.numbers.b k no_frame q) l
      go false e =
          let f : frame_of v here k ≡ record { type = erasure; body = [] } = ap (λ p. frame_of v p k) (box-blank v h x n p e) ∙ erased-frame v r.erasing k few in
          let z = erasure-listed v.table r.erasing in
          let l : Listed v.table (record { type = erasure; body = [] }) = record { type_known = z.0; octets = sym z.1 } in
          rw f l

  rows-listed : (m b : ℕ) → m ≤ packets_of v.shape → b ≤ h.numbers.b → AllListed v.table (rows v h.marks h.room m b)
  unfolding rows row
  rows-listed m zero p q = tt
  rows-listed m (suc b) p q =
      every_append (Listed v.table) (rows v h.marks h.room m b) (row v h.marks h.room b m) (rows-listed m b p (omega arith))
      (every-up_to (Listed v.table) (λ n. frame_of v (bundle_at v.shape h n) b) m (λ n i. frame-listed n b (omega arith) (omega arith)))

-- ---- octets that are entries
record IsEntries (v : FrameTable) (w : List ℕ) : Type 0 where
  fs : List Frame
  listed : AllListed v fs
  is : w ≡ entries_of fs

entries-both : (v : FrameTable) (w u : List ℕ) → IsEntries v w → IsEntries v u → IsEntries v (w ++ u)
entries-both v w u x y =
    record { fs = x.fs ++ y.fs; listed = every_append (Listed v) x.fs y.fs x.listed y.listed; is = ap₂ ◌++◌ x.is y.is ∙ sym (entries-append x.fs y.fs) }

entries_none : (v : FrameTable) → IsEntries v []
entries_none v = record { fs = []; listed = tt; is = refl }

-- frames of silence: erasures
abbrev pub silent : Kind → Frame
silent kind = record { type = kind.erasure; body = [] }

pub silent-listed : (kind : Kind) → T (lists_erasure kind) → (n : ℕ) → AllListed kind.table (replicate n (silent kind))
silent-listed kind r zero = tt
silent-listed kind r (suc n) =
    let z = both_hold (known kind.table kind.erasure) (eqb (size kind.table kind.erasure) 0) r in
    (record { type_known = hold-true _ z.0; octets = sym (eqb→eq (size kind.table kind.erasure) 0 z.1) }, silent-listed kind r n)

pub silent-entries : (kind : Kind) (n : ℕ) → replicate n kind.erasure ≡ entries_of (replicate n (silent kind))
silent-entries kind zero = refl
silent-entries kind (suc n) = ap (λ (l : List ℕ). kind.erasure ∷ l) (silent-entries kind n)

entries-lost : (kind : Kind) → T (lists_erasure kind) → (n : ℕ) → IsEntries kind.table (replicate n kind.erasure)
entries-lost kind r n = record { fs = replicate n (silent kind); listed = silent-listed kind r n; is = silent-entries kind n }

-- ---- a session whose group is a box, or none
data Fine (v : FrameTable) (s : Session) : Type 0 where
  none : is_nothing holding_shape s.group ≡ true → Fine v s
  boxed : Box (voice_with v) s.group → Fine v s

record Good (v : FrameTable) (a : Step) : Type 0 where
  fine : Fine v a.session
  entries : IsEntries v a.octets

module _ (kind : Kind) (r : HasRoom (voice_with kind.table)) (u : T (single kind.table kind.table)) (lists : T (lists_erasure kind)) where
  -- a packet put into a box, and into a group just begun
  put-fine : (s : Session) (q t l n : ℕ) (fs : List Frame) → IsPacket kind.table l n fs → Fine kind.table s → is_nothing holding_shape s.group ≡ false
      → l ≡ s.group.numbers.l → length fs ≡ s.group.numbers.b → Box (voice_with kind.table) (with_packet holding_shape s.group n (laid holding_shape fs))
  put-fine s q t l n fs i (none z) e a b = let y : true ≡ false = sym z ∙ e in apart (cc)
  put-fine s q t l n fs i (boxed x) e a b =
      put-box (voice_with kind.table) r.short r.erasing s.group
      (record { shaped = x.shaped; rule = (holds-sound (voice_with kind.table) s.group x.some).0 }) n (omega (arith, i.index_in)) fs b i.listed

  begun-fine : (source n : ℕ) (g : GroupNumbers) (fs : List Frame) → IsPacket kind.table g.l n fs → g.b ≡ length fs
      → Box (voice_with kind.table) (with_packet holding_shape (begun holding_shape source g) n (laid holding_shape fs))
  unfolding begun
  begun-fine source n g fs i e =
      put-box (voice_with kind.table) r.short r.erasing (begun holding_shape source g)
      (begun-keeps (voice_with kind.table) source g i.length_small (omega (arith, i.some)) (omega (arith, i.few))) n i.index_in fs (sym e) i.listed

  placed-good : (s : Session) (q t l n : ℕ) (fs : List Frame) → IsPacket kind.table l n fs → Fine kind.table s → (o : Offered) → Placed holding_shape s (arrival holding_shape q t l n fs) o
      → Good kind.table (taken_of kind s o.session o.answer)
  unfolding taken_of refuse accept begins arrival with_group
  placed-good s q t l n fs i f o (no x k e) = rw e (record { fine = f; entries = entries_none kind.table })
  placed-good s q t l n fs i f o (again a e) = rw e (record { fine = f; entries = entries_none kind.table })
  placed-good s q t l n fs i f o (put a k b c e) = rw e (record { fine = boxed (put-fine s q t l n fs i f a b c); entries = entries_none kind.table })
  placed-good s q t l n fs i f o (first a b e) = rw e (record { fine = boxed (begun-fine s.source n _ fs i refl); entries = entries_none kind.table })
  placed-good s q t l n fs i f o (next a g b lost c d e) = rw e (record { fine = boxed (begun-fine s.source n _ fs i refl); entries = entries-lost kind lists lost })

  offer-good : (s : Session) (h : Heard) → Fine kind.table s → Good kind.table (offering kind s h)
  unfolding offering offered_to taken_of refuse
  offer-good s h f =
      go (offered (voice_with kind.table) s h.source h.sequence h.timestamp h.payload)
      (offer-ends (voice_with kind.table) s h.source h.sequence h.timestamp h.payload)
    where
      go : (o : Offered) → Ends (voice_with kind.table) s h.source h.sequence h.timestamp h.payload o → Good kind.table (taken_of kind s o.session o.answer)
      go o (refuses x k e) = rw e (record { fine = f; entries = entries_none kind.table })
      go o (places op q l n d fs e x) = placed-good s h.sequence h.timestamp l n fs (read_is kind.table u s.form h.payload l n d fs e) f o x

  pour-good : (s : Session) → Fine kind.table s → Good kind.table (pouring kind.table s)
  unfolding pouring poured_of pour_made poured ended
  pour-good s f = go (is_open (voice_with kind.table) s) (holds (voice_with kind.table) s.group) refl f
    where
      go : (o b : Bool) → holds (voice_with kind.table) s.group ≡ b → Fine kind.table s → Good kind.table (poured_of s (made_if kind.table s o b))
      go false b e f = record { fine = f; entries = entries_none kind.table }
      go true false e f = record { fine = f; entries = entries_none kind.table }
      go true true e (none z) =
          let d = sound-has (voice_with kind.table) s.group (holds-sound (voice_with kind.table) s.group e).0 in
          let y : true ≡ false = sym z ∙ sound-something (voice_with kind.table) s.group d in
          apart (cc)
      go true true e (boxed x) =
          let d = box-sound (voice_with kind.table) s.group x in
          let l = rows-listed (voice_with kind.table) r s.group x (s.group.numbers.l + 1) s.group.numbers.b (omega (arith, d.low)) (omega arith) in
          record { fine = none (nothing_is holding_shape); entries = record { fs = in_time (voice_with kind.table) s.group; listed = l; is = refl } }

  then-good : (a : Step) (f : Session → Step) → Good kind.table a → ((t : Session) → Fine kind.table t → Good kind.table (f t)) → Good kind.table (and_then a f)
  unfolding and_then
  then-good a f x y =
      let z = y a.session x.fine in
      record { fine = z.fine; entries = entries-both kind.table a.octets (f a.session).octets x.entries z.entries }

  ready-good : (s : Session) (h : Heard) → Fine kind.table s → Good kind.table (readied kind s h)
  unfolding readied
  ready-good s h f = go (is_twelve (offered_to kind.table s h).answer)
    where
      go : (b : Bool) → Good kind.table (cond b (pouring kind.table s) (still s []))
      go true = pour-good s f
      go false = record { fine = f; entries = entries_none kind.table }

  step-good : (s : Session) (h : Heard) → Fine kind.table s → Good kind.table (step_of kind s h)
  unfolding step_of
  step-good s h f = then-good (readied kind s h) (λ t. offering kind t h) (ready-good s h f) (λ t x. offer-good t h x)

  run-good : (s : Session) (hs : List Heard) → Fine kind.table s → Good kind.table (run_of kind s hs)
  unfolding run_of
  run-good s [] f = record { fine = f; entries = entries_none kind.table }
  run-good s (h ∷ hs) f = then-good (step_of kind s h) (λ t. run_of kind t hs) (step-good s h f) (λ t x. run-good t hs x)

  first_fine : (hs : List Heard) → Fine kind.table (first_session hs)
  unfolding first_session never_opened fresh vacant
  first_fine [] = none (nothing_is holding_shape)
  first_fine (h ∷ hs) = none (nothing_is holding_shape)

-- ---- entries behind an opening are read as their frames
any-ok : (v : FrameTable) (fs : List Frame) → AllOk (allowed v Any) fs
unfolding allowed
any-ok v [] = tt
any-ok v (f ∷ fs) = (refl, any-ok v fs)

pub reads-entries : (kind : Kind) → T (keeps_types kind) → (fs : List Frame) → AllListed kind.table fs → recording_read kind (kind.opening ++ entries_of fs) ≡ frames fs
unfolding recording_read
reads-entries kind h fs l =
    rw (begins-self kind (entries_of fs), drop-append_seam kind.opening (entries_of fs))
    (entries-written kind h (allowed kind.table Any) (length kind.opening) fs l (any-ok kind.table fs))

pub gives_a_recording : GivesARecording
unfolding GivesARecording capture_recording entries_recorded whole_run
gives_a_recording kind r u h lists c =
    let hs = packets_in c in
    let g =
    then-good kind r u lists (run_of kind (first_session hs) hs) (pouring kind.table) (run-good kind r u lists (first_session hs) hs (first_fine kind r u lists hs))
    (λ t x. pour-good kind r u lists t x) in
    let x = g.entries in
    record { frames = x.fs; read = rw x.is (reads-entries kind h x.fs x.listed) }
