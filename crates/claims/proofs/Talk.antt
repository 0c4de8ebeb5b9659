-- A talk with silences, heard whole in order: its recording is the talk. Assumes nothing.
use Rattle.std.proofs.Common.{Some, Err}
use Prim.Native.Nat.{ℕ, zero, suc, ◌+◌, ◌-◌, ◌*◌, ◌%◌, ◌≤◌, ◌<◌}
use mathlib.Core.Path.{◌≡◌, refl, sym, ap, ap₂, ◌∙◌}
use mathlib.Core.List.{List, [], ◌∷◌, ◌++◌, map, map-append, append-nil, append_assoc}
use mathlib.Core.Bool.{or-true, Bool, true, false, ◌||◌}
use mathlib.Core.Logic.{⊎_elim}
use native.Mathlib.Nat.{eq-or-lt_of_le, mod-add-mod}
use native.Mathlib.Numerals.{add-one}
use native.Mathlib.Omega.{arith}
use lib.Dec.{eqb}
use lib.ListN.{replicate}
use lib.Seq.{ext_get_or}
use borrow.Author.Tests.{eq-eqb, ne_eqb, le-leb, lt-leb}
use Rattle.frame.specs.FrameTable.{Frame}
use Rattle.frame.specs.Shape.{Voice, holding_shape, voice_with}
use Rattle.frame.specs.Places.{up_to, no_frame, frame_at}
use Rattle.frame.proofs.PlacesLaws.{up_to-first}
use Rattle.answers.specs.Outputs.{octets}
use Rattle.answers.specs.declared.Refusal.TheVariants.{LaterGroup}
use Rattle.entries.specs.Kind.{Kind}
use Rattle.entries.specs.Entries.{entries_of}
use Rattle.payload.specs.Payload.{packet, read_as}
use Rattle.packet.specs.Packet.{packet_frames}
use Rattle.numbers.specs.Bases.{minus}
use Rattle.numbers.specs.Place.{distance, gap, pause, at_distance, with_held}
use Rattle.numbers.specs.declared.GroupNumbers.{GroupNumbers}
use Rattle.numbers.specs.declared.Before.TheVariants as before
use Rattle.numbers.proofs.PlaceLaws.{same_numbers}
use Rattle.numbers.proofs.PlaceLaws as numbers
use Rattle.holding.proofs.GroupLaws.{nothing_is}
use Rattle.pouring.specs.Pouring.{in_time}
use Rattle.pouring.proofs.PouringLaws.{entries-append}
use Rattle.session.specs.Session.{Offered, fresh, group_before, poured_before, arrival, refuse, pour_made, ended}
use Rattle.session.specs.declared.Session.{Session}
use Rattle.session.proofs.SessionLaws.{one-held, none-held, is-refused}
use Rattle.capture.specs.Capture.{Heard}
use Rattle.capture.specs.Run.{Step, and_then, capture_form, first_session, poured_of, pouring, is_twelve, run_of, whole_run, entries_recorded, capture_recording}
use Rattle.capture.proofs.RunLaws.{run-append}
use Rattle.session.proofs.Ends.{ended-open}
use Rattle.claims.specs.Joinings.{HasRoom}
use Rattle.claims.specs.Sessions.{lost_before}
use Rattle.claims.specs.Offering.{Sent, sent_numbers, numbered, stamped, offer_one, offer_all, Ready, Within, among, HoldsExactly}
use Rattle.claims.specs.Offering.{OffersDeliver}
use Rattle.claims.specs.Captures.{heard_of}
use Rattle.claims.specs.Pauses.{Spoken, spoken_packet, heard_whole, Later, Follows, InTurn, spoken_from, Each, SentAs, TalkIsRecorded}
use Rattle.claims.proofs.Offering.{offers_deliver, offer-read, arrives-with, reported-is, some-held, places_of, pours}
use Rattle.claims.proofs.Missing.{each-place}
use Rattle.claims.proofs.Captures.{Leaves, group-after, accepted-as, fresh-taken}
use Rattle.claims.proofs.CapturesRead.{silent, silent-entries}

-- ---- the clock and the sequence numbers, by arithmetic
-- a later group is not an earlier one
later-gap : (a b : GroupNumbers) → Later a b → gap a b < 32768
later-gap a b h = omega (arith, h.behind, h.near)

from_end : (e k : ℕ) → k ≤ 3000 → minus 32 ((e + 160 * k) % 4294967296) e ≡ 160 * k
from_end e k h = omega arith

-- a silence of k frames after f frames, by a clock that begins anew and by one that does not
silence-is : (f k s t x y : ℕ) → x ≡ s % 4294967296 → y ≡ t % 4294967296 → t ≡ s + 160 * f + 160 * k → k ≤ 3000 → minus 32 y (x + 160 * f) ≡ 160 * k
silence-is f k s t x y p q r h =
    let e = s + 160 * f in
    let a : (x + 160 * f) % 4294967296 ≡ e % 4294967296 = ap (λ (i : ℕ). (i + 160 * f) % 4294967296) p ∙ mod-add-mod s 4294967296 (160 * f) in
    let b : y ≡ (e + 160 * k) % 4294967296 = q ∙ ap (λ (i : ℕ). i % 4294967296) r in
    ap (λ (i : ℕ). (y + (4294967296 - i)) % 4294967296) a ∙ ap (λ (i : ℕ). minus 32 i e) b ∙ from_end e k h

-- ---- all packets of a group, in order
abbrev all_of : ℕ → List ℕ
all_of l = 0 ∷ up_to suc l

map-up_to : {A B : Type 0} (f : A → B) (g : ℕ → A) (n : ℕ) → map f (up_to g n) ≡ up_to (λ i. f (g i)) n
unfolding up_to
map-up_to f g zero = refl
map-up_to {B = B} f g (suc n) = map-append f (up_to g n) (g n ∷ []) ∙ ap (λ (l : List B). l ++ (f (g n) ∷ [])) (map-up_to f g n)

-- what a box heard of all of them
in_order : {A : Type 0} (f : ℕ → A) (l : ℕ) → up_to f (l + 1) ≡ map f (all_of l)
in_order {A} f l = ap (up_to f) (add-one l) ∙ up_to-first f l ∙ ap (λ (w : List A). f 0 ∷ w) (sym (map-up_to f suc l))

same-up_to : {A : Type 0} (f g : ℕ → A) → ((n : ℕ) → f n ≡ g n) → (n : ℕ) → up_to f n ≡ up_to g n
unfolding up_to
same-up_to f g e zero = refl
same-up_to {A} f g e (suc n) = ap₂ (λ (l : List A) (x : A). l ++ (x ∷ [])) (same-up_to f g e n) (e n)

within-append : (l : ℕ) (ns : List ℕ) (n : ℕ) → Within l ns → n ≤ l → Within l (ns ++ (n ∷ []))
within-append l [] n w h = (h, tt)
within-append l (m ∷ ns) n w h = (w.0, within-append l ns n w.1 h)

within-up_to : (l n : ℕ) → n ≤ l → Within l (up_to suc n)
unfolding up_to
within-up_to l zero h = tt
within-up_to l (suc n) h = within-append l (up_to suc n) (suc n) (within-up_to l n (omega arith)) h

all-within : (l : ℕ) → Within l (all_of l)
all-within l = (omega arith, within-up_to l l (omega arith))

among-append : (n : ℕ) (ns ms : List ℕ) → among n (ns ++ ms) ≡ among n ns || among n ms
among-append n [] ms = refl
among-append n (m ∷ ns) ms = go (eqb n m) (among-append n ns ms)
  where
    go : (b : Bool) → among n (ns ++ ms) ≡ among n ns || among n ms → b || among n (ns ++ ms) ≡ (b || among n ns) || among n ms
    go true e = refl
    go false e = e

among-up_to : (n m : ℕ) → suc n ≤ m → among (suc n) (up_to suc m) ≡ true
unfolding up_to
among-up_to n zero h = absurd (omega arith)
among-up_to n (suc m) h =
    among-append (suc n) (up_to suc m) (suc m ∷ [])
    ∙ ⊎_elim (λ (e : suc n ≡ suc m). ap (λ (b : Bool). among (suc n) (up_to suc m) || (b || false)) (eq-eqb (suc n) (suc m) e) ∙ or-true (among (suc n) (up_to suc m)))
    (λ (q : suc n < suc m). ap (λ (b : Bool). b || (eqb (suc n) (suc m) || false)) (among-up_to n m (omega arith)))
    (eq-or-lt_of_le h)

all_among : (l n : ℕ) → n ≤ l → among n (all_of l) ≡ true
all_among l zero h = refl
all_among l (suc n) h = ap (λ (b : Bool). eqb (suc n) 0 || b) (among-up_to n l h) ∙ or-true (eqb (suc n) 0)

-- ---- a session that holds all of a group
module _ (kind : Kind) (r : HasRoom (voice_with kind.table)) where
  abbrev v : Voice
  v = voice_with kind.table

  module _ (g : Sent v capture_form) (s : Session) (x : HoldsExactly s g (all_of g.group.l)) where
    -- has its frames in time order
    in_time_lem : in_time v s.group ≡ g.group.frames
    in_time_lem =
        let p = places_of v r capture_form s g (all_of g.group.l) x in
        ext_get_or no_frame (in_time v s.group) g.group.frames (p.count ∙ sym g.group.many) (λ t h.
        let q = each-place g.group.l g.group.b t (omega (arith, p.count)) in
        ap (frame_at (in_time v s.group)) (sym q.there) ∙ p.original q.n q.k q.in_group q.in_bundle (all_among g.group.l q.n q.in_group)
        ∙ ap (frame_at g.group.frames) q.there)

    -- and pours them
    pours-all : Leaves (ended holding_shape s) (entries_of g.group.frames) (pouring kind.table s)
    unfolding pouring poured_of
    pours-all =
        let e : pour_made v s ≡ octets (entries_of g.group.frames) = pours v r s x.still_open x.part.box ∙ ap (λ (fs : List Frame). octets (entries_of fs)) in_time_lem in
        rw e (record { session = refl; octets = refl })

    held-numbers : s.group.numbers ≡ sent_numbers g.group
    held-numbers = let o = x.part.of_group in same_numbers o.base o.time o.same_length o.same_bundle

    -- ---- a group that follows it
    module _ (n : Sent v capture_form) (same_source : n.group.source ≡ g.group.source)
        (later : Later (sent_numbers g.group) (sent_numbers n.group)) (k : ℕ) (few : k ≤ 3000)
        (silence : pause (sent_numbers g.group) (sent_numbers n.group) ≡ 160 * k) where
      abbrev new : GroupNumbers
      new = sent_numbers n.group

      -- its first packet is answered 12
      is_later : with_held s.group.numbers new ≡ Err LaterGroup
      unfolding with_held at_distance
      is_later =
          let d = distance (sent_numbers g.group) new in
          let some : d ≡ 0 → ⊥ = λ (e : d ≡ 0). absurd (omega (arith, later.behind)) in
          ap (λ (h : GroupNumbers). with_held h new) held-numbers
          ∙ simp (ne_eqb d 0 some, lt-leb d g.group.l (omega (arith, later.behind)), le-leb d 32767 later.near)

      twelve : is_twelve (offer_one s n 0).answer ≡ true
      unfolding is_twelve refuse
      twelve =
          let fs = packet_frames n.group.l 0 n.group.b n.group.frames in
          let a = arrival holding_shape (numbered new 0) (stamped new 0) n.group.l 0 fs in
          let f : read_as kind.table s.form (n.payload 0) ≡ packet n.group.l 0 (n.d 0) fs = rw x.in_form (n.read 0 (omega arith)) in
          let o = offer-read v s n.group.source (numbered new 0) (stamped new 0) n.group.l 0 (n.d 0) fs (n.payload 0) x.still_open (x.for_source ∙ sym same_source) f in
          let w : with_held s.group.numbers a.numbers ≡ Err LaterGroup = ap (with_held s.group.numbers) (arrives-with v r capture_form n 0 (omega arith)) ∙ is_later in
          let d = numbers.one-held (before.Held s.group.numbers) a.numbers s.group.numbers refl in
          let z = is-refused holding_shape s a (before.Held s.group.numbers) (with_held s.group.numbers a.numbers)
          (one-held holding_shape s s.group.numbers (some-held v s.group x.part.box) refl) d LaterGroup w in
          ap (λ (y : Offered). is_twelve y.answer) (o ∙ sym z)

      -- once the group is poured, the session is ready for it
      last-is : (ended holding_shape s).last ≡ Some (sent_numbers g.group)
      unfolding ended
      last-is = ap Some held-numbers

      is-ready : Ready v capture_form (ended holding_shape s) n.group.source new
      unfolding ended poured_before
      is-ready =
          record {
            opened = ended-open v s x.still_open x.part.box.some;
            for_source = x.for_source ∙ sym same_source;
            in_form = x.in_form;
            vacant = nothing_is holding_shape;
            reported = k;
            would_begin =
                sym
                (numbers.frames-lost (sent_numbers g.group) new (later-gap (sent_numbers g.group) new later) k few silence
                ∙ numbers.one-poured (group_before holding_shape (ended holding_shape s)) new (sent_numbers g.group)
                (sym (none-held holding_shape (ended holding_shape s) (nothing_is holding_shape)) ∙ ap poured_before last-is));
          }

      -- and the frames of the silence are lost
      lost-is : lost_before holding_shape (ended holding_shape s) new ≡ k
      unfolding ended is-ready
      lost-is = sym (reported-is v r capture_form n 0 (omega arith) (ended holding_shape s) is-ready)

      -- its packets, one after the other
      follows : Leaves (offer_all (ended holding_shape s) n (all_of n.group.l)) (entries_of g.group.frames ++ replicate k kind.erasure)
          (run_of kind s (map (heard_of n) (all_of n.group.l)))
          × HoldsExactly (offer_all (ended holding_shape s) n (all_of n.group.l)) n (all_of n.group.l)
      unfolding OffersDeliver
      follows =
          let d = offers_deliver v r capture_form n (ended holding_shape s) is-ready 0 (up_to suc n.group.l) (all-within n.group.l) in
          let a = accepted-as n (ended holding_shape s) (lost_before holding_shape (ended holding_shape s) new) k (all_of n.group.l) lost-is d.accepted in
          (group-after kind n s (ended holding_shape s) (entries_of g.group.frames) k 0 (up_to suc n.group.l) twelve pours-all a, d.exactly)

  -- ---- what was sent, as a box hands it over
  heard-as : (g : Spoken) (x : SentAs v capture_form g) (n : ℕ) → heard_of x.sent n ≡ spoken_packet g n
  heard-as g x n =
      same x.its_source (ap (λ (h : GroupNumbers). numbered h n) x.its_numbers) (ap (λ (h : GroupNumbers). stamped h n) x.its_numbers) (x.its_payload n)
    where
      same : {s s' q q' t t' : ℕ} {p p' : List ℕ} → s ≡ s' → q ≡ q' → t ≡ t' → p ≡ p'
          → ◌≡◌ {A = Heard} (record { source = s; sequence = q; timestamp = t; payload = p }) (record { source = s'; sequence = q'; timestamp = t'; payload = p' })
      same i j k l = cc

  heard_all : (g : Spoken) (x : SentAs v capture_form g) → up_to (spoken_packet g) (g.numbers.l + 1) ≡ map (heard_of x.sent) (all_of x.sent.group.l)
  heard_all g x =
      sym (same-up_to (heard_of x.sent) (spoken_packet g) (heard-as g x) (g.numbers.l + 1))
      ∙ ap (λ (h : GroupNumbers). up_to (heard_of x.sent) (h.l + 1)) (sym x.its_numbers)
      ∙ in_order (heard_of x.sent) x.sent.group.l

  -- the silence between two groups
  silence-between : (a b : Spoken) → SentAs v capture_form a → SentAs v capture_form b → Follows a b → pause a.numbers b.numbers ≡ 160 * b.silence
  silence-between a b x y f =
      silence-is ((a.numbers.l + 1) * a.numbers.b) b.silence a.start b.start a.numbers.timestamp b.numbers.timestamp x.by_the_clock y.by_the_clock f.in_time f.short

  -- what is recorded of a run and then another
  recorded-both : (s : Session) (hs ks : List Heard) (f : Session → Step) →
      (and_then (run_of kind s (hs ++ ks)) f).octets ≡ (run_of kind s hs).octets ++ (and_then (run_of kind (run_of kind s hs).session ks) f).octets
  unfolding and_then
  recorded-both s hs ks f =
      let a = run_of kind s hs in
      let b = run_of kind a.session ks in
      ap (λ (c : Step). c.octets ++ (f c.session).octets) (run-append kind s hs ks) ∙ append_assoc a.octets b.octets (f b.session).octets

  -- ---- from a session that holds all of the first group
  talk-from : (a : Spoken) (x : SentAs v capture_form a) (bs : List Spoken) → Each (SentAs v capture_form) bs → InTurn a bs → (s : Session) →
      HoldsExactly s x.sent (all_of x.sent.group.l) → (and_then (run_of kind s (heard_whole bs)) (pouring kind.table)).octets ≡ entries_of (spoken_from kind a bs)
  unfolding run_of and_then
  talk-from a x [] xs t s h = (pours-all x.sent s h).octets ∙ ap entries_of (x.its_frames ∙ sym (append-nil a.frames))
  talk-from a x (b ∷ bs) xs t s h =
      let y = xs.0 in
      let f = t.0 in
      let n = y.sent in
      let k = b.silence in
      let w = entries_of a.frames in
      let later : Later (sent_numbers x.sent.group) (sent_numbers n.group) = rw (x.its_numbers, y.its_numbers) f.later in
      let z = follows x.sent s h n (y.its_source ∙ f.same_source ∙ sym x.its_source) later k f.short (ap₂ pause x.its_numbers y.its_numbers ∙ silence-between a b x y f) in
      let u = offer_all (ended holding_shape s) n (all_of n.group.l) in
      let i = talk-from b y bs xs.1 t.1 u z.1 in
      let e = heard_all b y in
      ap (λ (hs : List Heard). (and_then (run_of kind s (hs ++ heard_whole bs)) (pouring kind.table)).octets) e
      ∙ recorded-both s (map (heard_of n) (all_of n.group.l)) (heard_whole bs) (pouring kind.table)
      ∙ ap₂ (λ (o : List ℕ) (p : Session). o ++ (and_then (run_of kind p (heard_whole bs)) (pouring kind.table)).octets) z.0.octets z.0.session
      ∙ ap₂ (λ (fs : List Frame) (o : List ℕ). (entries_of fs ++ replicate k kind.erasure) ++ o) x.its_frames i
      ∙ append_assoc w (replicate k kind.erasure) (entries_of (spoken_from kind b bs))
      ∙ ap (λ (o : List ℕ). w ++ (o ++ entries_of (spoken_from kind b bs))) (silent-entries kind k)
      ∙ ap (λ (o : List ℕ). w ++ o) (sym (entries-append (replicate k (silent kind)) (spoken_from kind b bs)))
      ∙ sym (entries-append a.frames (replicate k (silent kind) ++ spoken_from kind b bs))

  -- ---- from the first packet on
  first_of : (a : Spoken) (bs : List Spoken) → first_session (heard_whole (a ∷ bs)) ≡ fresh holding_shape a.source capture_form
  unfolding first_session
  first_of a bs = ap (λ (hs : List Heard). first_session (hs ++ heard_whole bs)) (in_order (spoken_packet a) a.numbers.l)

  talk : (a : Spoken) (x : SentAs v capture_form a) (bs : List Spoken) → Each (SentAs v capture_form) bs → InTurn a bs →
      entries_recorded kind (heard_whole (a ∷ bs)) ≡ entries_of (spoken_from kind a bs)
  unfolding entries_recorded whole_run
  talk a x bs xs t =
      let g = x.sent in
      let s = fresh holding_shape g.group.source capture_form in
      let y = fresh-taken kind r g 0 (up_to suc g.group.l) (all-within g.group.l) in
      ap (λ (p : Session). (and_then (run_of kind p (heard_whole (a ∷ bs))) (pouring kind.table)).octets) (first_of a bs ∙ ap (λ (i : ℕ). fresh holding_shape i capture_form) (sym x.its_source))
      ∙ ap (λ (hs : List Heard). (and_then (run_of kind s (hs ++ heard_whole bs)) (pouring kind.table)).octets) (heard_all a x)
      ∙ recorded-both s (map (heard_of g) (all_of g.group.l)) (heard_whole bs) (pouring kind.table)
      ∙ ap₂ (λ (o : List ℕ) (p : Session). o ++ (and_then (run_of kind p (heard_whole bs)) (pouring kind.table)).octets) y.0.octets y.0.session
      ∙ talk-from a x bs xs t (offer_all s g (all_of g.group.l)) y.1.exactly

pub talk_is_recorded : TalkIsRecorded
unfolding TalkIsRecorded capture_recording
talk_is_recorded kind r a bs xs t c e = ap (λ (o : List ℕ). kind.opening ++ o) (ap (entries_recorded kind) e ∙ talk kind r a xs.0 bs xs.1 t)
