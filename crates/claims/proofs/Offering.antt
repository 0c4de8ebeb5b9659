-- Demand 3, offering. Assumes nothing.
use Rattle.std.proofs.Common.{Ok}
use Prim.Native.Nat.{ℕ, ◌+◌, ◌*◌, ◌%◌, ◌≤◌, ◌<◌}
use mathlib.Core.Path.{◌≡◌, refl, sym, ap, ap₂, subst, ◌∙◌}
use mathlib.Core.List.{List, [], ◌∷◌}
use mathlib.Core.Bool.{Bool, true, false, cond, ◌||◌}
use native.Mathlib.Omega.{arith}
use lib.Dec.{eqb}
use lib.ListN.{length}
use borrow.Author.Tests.{eq-eqb, eqb-true, eqb-false}
use Rattle.frame.specs.FrameTable.{Frame, AllListed, Listed}
use Rattle.frame.specs.Shape.{Voice, packets_of}
use Rattle.frame.specs.Places.{frame_at}
use Rattle.form.specs.declared.Form.{Form}
use Rattle.answers.specs.declared.Refusal.TheVariants.{PacketDiffers}
use Rattle.payload.specs.Payload.{packet, read_as}
use Rattle.packet.specs.Packet.{place_of, packet_frames}
use Rattle.packet.proofs.Packing.{length-packet, packet-at, packet-every}
use Rattle.numbers.specs.Bases.{minus, base_sequence, base_timestamp}
use Rattle.numbers.specs.Place.{differ, at_distance, with_held, decided}
use Rattle.numbers.proofs.PlaceLaws.{same_numbers}
use Rattle.holding.specs.Group.{is_nothing, begun, held_at, bundle_at, with_packet}
use Rattle.bundle.specs.Bundles.{same_bundles}
use Rattle.bundle.specs.LaidOut.{laid}
use Rattle.holding.specs.declared.Holding.{Holding}
use Rattle.pouring.specs.Pouring.{in_time}
use Rattle.knowledge.specs.Knowledge.{Box, Known, unheard, told, known_of, frame_known}
use Rattle.holding.proofs.GroupLaws.{nothing_is, holds-sound, sound-something}
use Rattle.knowledge.proofs.Cells.{Cell, cell}
use Rattle.knowledge.proofs.JoinLaws.{box-sound}
use Rattle.knowledge.proofs.KnowledgeLaws.{known-held, cell_for, cell-known}
use Rattle.knowledge.proofs.PacketLaws.{packets-refl}
use Rattle.knowledge.proofs.PutLaws.{Keeps, with-head, put-box, put-knows, put-others, begun-keeps, begun-lost}
use Rattle.session.proofs.Ends.{fresh-open}
use Rattle.capture.proofs.Staying.{open-with}
use Rattle.session.specs.Session.{Offered, Arrival, fresh, vacant, is_open, accept, refuse, with_group, pour_made, copied, poured_before, group_before}
use Rattle.session.specs.Session.{begins, belongs, placed_by, placed, arrival, judged, received, offered}
use Rattle.session.specs.declared.Session.{Session}
use Rattle.answers.specs.Outputs.{octets}
use Rattle.entries.specs.Entries.{entries_of}
use Rattle.claims.specs.Joinings.{HasRoom, EveryPlaceInTime}
use Rattle.claims.specs.Sessions.{lost_before, LostFramesByFormula, body_octets}
use Rattle.claims.specs.Offering.{SentGroup, Sent, sent_numbers, numbered, stamped, offer_one, offer_all, AllAccepted, Ready, Within, among}
use Rattle.claims.specs.Offering.{sent_packet, knowledge, HoldsExactly, PouredPlaces, FreshIsReady, OffersDeliver, OfGroup, Part}
use Rattle.claims.specs.Boxes.{CopiedOut}
use Rattle.claims.proofs.Joinings.{every_place_in_time}
use Rattle.claims.proofs.Sessions.{lost_frames_by_formula, entries-length}

-- ---- the base numbers of a packet that was numbered and stamped
base_back : (s n : ℕ) → s < 65536 → base_sequence ((s + n) % 65536) n ≡ s
base_back s n h = omega arith

time-back : (t n : ℕ) → t < 4294967296 → base_timestamp ((t + 160 * n) % 4294967296) n ≡ t
time-back t n h = omega arith

no_distance : (a : ℕ) → a < 65536 → minus 16 a a ≡ 0
no_distance a h = omega arith

-- what is known of packet n goes by whether it was offered
pub known_as : {v : Voice} (g : SentGroup v) (n : ℕ) {s t : Bool} → s ≡ t → cond s (sent_packet g n) unheard ≡ cond t (sent_packet g n) unheard
known_as g n e = ap (λ (t : Bool). cond t (sent_packet g n) unheard) e

-- ---- a session that was just opened
pub fresh_is_ready : FreshIsReady
unfolding FreshIsReady fresh vacant group_before poured_before decided
fresh_is_ready v form e source g = record {
  opened = fresh-open v source form e;
  for_source = refl;
  in_form = refl;
  vacant = nothing_is v.shape;
  reported = 0;
  would_begin = simp (nothing_is v.shape);
}

-- ---- a packet is offered
module _ (v : Voice) (s : Session) (source sequence timestamp l n d : ℕ) (fs : List Frame) (p : List ℕ) where
  pub offer-read : is_open v s ≡ true → s.source ≡ source → read_as v.table s.form p ≡ packet l n d fs
      → offered v s source sequence timestamp p ≡ placed v.shape s (arrival v.shape sequence timestamp l n fs)
  unfolding offered received judged
  offer-read o e r = simp (o, eq-eqb source s.source (sym e), r)

-- ---- a holding that holds a packet is not that of nothing
pub some-held : (v : Voice) (h : Holding) → Box v h → is_nothing v.shape h ≡ false
some-held v h x = sound-something v h (box-sound v h x)

-- the packets offered, named in another order
exactly-as : {v : Voice} {form : Form} (s : Session) (g : Sent v form) (ds es : List ℕ) → ((i : ℕ) → among i ds ≡ among i es) → HoldsExactly s g ds → HoldsExactly s g es
exactly-as s g ds es h x =
    record {
      still_open = x.still_open;
      for_source = x.for_source;
      in_form = x.in_form;
      part = record {
        box = x.part.box;
        of_group = x.part.of_group;
        knows = λ i k. x.part.knows i k ∙ known_as g.group i (h i);
      };
    }

-- what one more offer does
pub record OneMore {v : Voice} {form : Form} (s : Session) (g : Sent v form) (n : ℕ) (ds : List ℕ) : Type 0 where
  pub told : (offer_one s g n).answer ≡ Ok 0
  pub after : HoldsExactly (offer_one s g n).session g (n ∷ ds)

-- ---- packet n is offered to a session that holds the group
module _ (v : Voice) (m : HasRoom v) (form : Form) (g : Sent v form) (n : ℕ) (le : n ≤ g.group.l) where
  abbrev ours : List Frame
  ours = packet_frames g.group.l n g.group.b g.group.frames

  small : n < packets_of v.shape
  small = omega (arith, g.group.low)

  ours-many : length ours ≡ g.group.b
  ours-many = length-packet g.group.l n g.group.b g.group.frames

  ours-listed : AllListed v.table ours
  ours-listed = packet-every (Listed v.table) g.group.l n g.group.b g.group.frames g.group.listed le (omega (arith, g.group.many))

  base-is : base_sequence (numbered (sent_numbers g.group) n) n ≡ g.group.sequence
  base-is = base_back g.group.sequence n g.group.sequence_fits

  time-is : base_timestamp (stamped (sent_numbers g.group) n) n ≡ g.group.timestamp
  time-is = time-back g.group.timestamp n g.group.timestamp_fits

  -- the numbers that it arrives with are those of its group
  pub arrives-with : (arrival v.shape (numbered (sent_numbers g.group) n) (stamped (sent_numbers g.group) n) g.group.l n ours).numbers ≡ sent_numbers g.group
  unfolding arrival
  arrives-with = same_numbers base-is time-is refl ours-many

  -- packet n put into a holding with the group's numbers that knows these packets
  put-part : (h : Holding) → Keeps v h → OfGroup h g.group → (ds : List ℕ) → ((i : ℕ) → i < packets_of v.shape → known_of v h i ≡ knowledge g.group ds i)
      → Part (with_packet v.shape h n (laid v.shape ours)) g.group (n ∷ ds)
  put-part h k o ds kn =
      let hd = with-head v.shape h n (laid v.shape ours) in
      record {
        box = put-box v m.short m.erasing h k n in-h ours many-h ours-listed;
        of_group = record {
          of_source = hd.source ∙ o.of_source;
          base = hd.sequence ∙ o.base;
          time = hd.timestamp ∙ o.time;
          same_length = hd.l ∙ o.same_length;
          same_bundle = hd.b ∙ o.same_bundle;
        };
        knows = λ i l. go i l (eqb i n) refl;
      }
    where
      in-h : n ≤ h.numbers.l
      in-h = omega (arith, o.same_length)

      many-h : length ours ≡ h.numbers.b
      many-h = ours-many ∙ sym o.same_bundle

      go : (i : ℕ) → i < packets_of v.shape → (t : Bool) → eqb i n ≡ t → known_of v (with_packet v.shape h n (laid v.shape ours)) i ≡ cond (t || among i ds) (sent_packet g.group i) unheard
      go i l true e =
          let q : i ≡ n = eqb-true i n e in
          subst (λ (j : ℕ). known_of v (with_packet v.shape h n (laid v.shape ours)) j ≡ sent_packet g.group j) (sym q)
          (put-knows v m.short m.erasing h k n in-h ours many-h ours-listed (sent_packet g.group n) refl refl)
      go i l false e = put-others v m.short m.erasing h k n in-h ours many-h ours-listed i (eqb-false i n e) ∙ kn i l

  -- what becomes of it: the same again, or put in
  module _ (s : Session) (ds : List ℕ) (x : HoldsExactly s g ds) where
    in_place : offer_one s g n ≡ belongs v.shape s (arrival v.shape (numbered (sent_numbers g.group) n) (stamped (sent_numbers g.group) n) g.group.l n ours)
    unfolding placed group_before decided with_held at_distance differ placed_by arrival
    in_place =
        let h = s.group in
        let o = x.part.of_group in
        let r : read_as v.table s.form (g.payload n) ≡ packet g.group.l n (g.d n) ours = rw x.in_form (g.read n le) in
        let z : minus 16 (base_sequence (numbered (sent_numbers g.group) n) n) h.numbers.sequence ≡ 0 = rw (base-is, o.base) (no_distance g.group.sequence g.group.sequence_fits) in
        let same-l = eq-eqb g.group.l h.numbers.l (sym o.same_length) in
        let same-b = eq-eqb (length ours) h.numbers.b (ours-many ∙ sym o.same_bundle) in
        let same-time = eq-eqb (base_timestamp (stamped (sent_numbers g.group) n) n) h.numbers.timestamp (time-is ∙ sym o.time) in
        offer-read v s g.group.source (numbered (sent_numbers g.group) n) (stamped (sent_numbers g.group) n) g.group.l n (g.d n) ours (g.payload n) x.still_open x.for_source r
        ∙ simp (some-held v h x.part.box, z, same-l, same-b, same-time)

    by-held :
        belongs v.shape s (arrival v.shape (numbered (sent_numbers g.group) n) (stamped (sent_numbers g.group) n) g.group.l n ours)
        ≡ cond (held_at s.group n) (cond (same_bundles (bundle_at v.shape s.group n) (laid v.shape ours)) (accept s 0) (refuse s PacketDiffers))
        (accept (with_group s (with_packet v.shape s.group n (laid v.shape ours))) 0)
    unfolding belongs arrival
    by-held = refl

    -- held already
    again : among n ds ≡ true → offer_one s g n ≡ accept s 0
    unfolding cell
    again e =
        let c : cell v.shape s.group n ≡ cell_for v.shape (sent_packet g.group n) =
        cell-known v m.short m.erasing s.group x.part.box n small ∙ ap (cell_for v.shape) (x.part.knows n small ∙ known_as g.group n e) in
        let t : held_at s.group n ≡ true = ap (λ (y : Cell). y.0) c in
        let p : bundle_at v.shape s.group n ≡ laid v.shape ours = ap (λ (y : Cell). y.1) c in
        let q : same_bundles (bundle_at v.shape s.group n) (laid v.shape ours) ≡ true = rw p (packets-refl (laid v.shape ours)) in
        in_place ∙ by-held ∙ rw (t, q)

    -- not held yet
    added : among n ds ≡ false → offer_one s g n ≡ accept (with_group s (with_packet v.shape s.group n (laid v.shape ours))) 0
    added e =
        let t : held_at s.group n ≡ false = sym (known-held v s.group n) ∙ ap (λ (k : Known). k.held) (x.part.knows n small ∙ known_as g.group n e) in
        in_place ∙ by-held ∙ rw t

    -- ---- the session after it
    after-put : HoldsExactly (with_group s (with_packet v.shape s.group n (laid v.shape ours))) g (n ∷ ds)
    unfolding with_group
    after-put =
        let h = s.group in
        let q = put-part h (record { shaped = x.part.box.shaped; rule = (holds-sound v h x.part.box.some).0 }) x.part.of_group ds x.part.knows in
        record {
          still_open = open-with v s (with_packet v.shape h n (laid v.shape ours)) x.still_open q.box (q.of_group.of_source ∙ sym x.for_source);
          for_source = x.for_source;
          in_form = x.in_form;
          part = q;
        }

    after-again : among n ds ≡ true → HoldsExactly s g (n ∷ ds)
    after-again e = exactly-as s g ds (n ∷ ds) (λ i. go i (eqb i n) refl) x
      where
        go : (i : ℕ) (t : Bool) → eqb i n ≡ t → among i ds ≡ t || among i ds
        go i true q = ap (λ (j : ℕ). among j ds) (eqb-true i n q) ∙ e
        go i false q = refl

    -- one more offer
    pub step : OneMore s g n ds
    unfolding accept
    step = go (among n ds) refl
      where
        go : (t : Bool) → among n ds ≡ t → OneMore s g n ds
        go true e =
            let o = again e in
            record { told = ap (λ (y : Offered). y.answer) o; after = subst (λ (y : Session). HoldsExactly y g (n ∷ ds)) (sym (ap (λ (y : Offered). y.session) o)) (after-again e) }
        go false e =
            let o = added e in
            record { told = ap (λ (y : Offered). y.answer) o; after = subst (λ (y : Session). HoldsExactly y g (n ∷ ds)) (sym (ap (λ (y : Offered). y.session) o)) after-put }

-- ---- one after the other
abbrev spread : List ℕ → List ℕ → List ℕ
spread ds [] = ds
spread ds (n ∷ ns) = spread (n ∷ ds) ns

record More {v : Voice} {form : Form} (s : Session) (g : Sent v form) (ds ns : List ℕ) : Type 0 where
  pub told : AllAccepted s g 0 ns
  pub after : HoldsExactly (offer_all s g ns) g (spread ds ns)

offers : (v : Voice) → HasRoom v → (form : Form) (g : Sent v form) (s : Session) (ds ns : List ℕ) → HoldsExactly s g ds → Within g.group.l ns → More s g ds ns
unfolding AllAccepted offer_all
offers v m form g s ds [] x w = record { told = tt; after = x }
offers v m form g s ds (n ∷ ns) x w =
    let o = step v m form g n w.0 s ds x in
    let r = offers v m form g (offer_one s g n).session (n ∷ ds) ns o.after w.1 in
    record { told = (o.told, r.told); after = r.after }

-- ---- the first packet begins the group
pub record First {v : Voice} {form : Form} (s : Session) (g : Sent v form) (n : ℕ) : Type 0 where
  pub told : (offer_one s g n).answer ≡ Ok (lost_before v.shape s (sent_numbers g.group))
  pub after : HoldsExactly (offer_one s g n).session g (n ∷ [])

module _ (v : Voice) (m : HasRoom v) (form : Form) (g : Sent v form) (n : ℕ) (le : n ≤ g.group.l) (s : Session) (y : Ready v form s g.group.source (sent_numbers g.group)) where
  abbrev mine : List Frame
  mine = packet_frames g.group.l n g.group.b g.group.frames

  abbrev none : Holding
  none = begun v.shape g.group.source (sent_numbers g.group)

  abbrev first : Holding
  first = with_packet v.shape none n (laid v.shape mine)

  abbrev came : Arrival
  came = arrival v.shape (numbered (sent_numbers g.group) n) (stamped (sent_numbers g.group) n) g.group.l n mine

  came-numbers : came.numbers ≡ sent_numbers g.group
  came-numbers = arrives-with v m form g n le

  was_read : read_as v.table s.form (g.payload n) ≡ packet g.group.l n (g.d n) mine
  was_read = rw y.in_form (g.read n le)

  begun_first : offer_one s g n ≡ begins v.shape s came y.reported
  unfolding placed placed_by
  begun_first =
      offer-read v s g.group.source _ _ g.group.l n (g.d n) mine (g.payload n) y.opened y.for_source was_read
      ∙ ap (placed_by v.shape s came) (ap (decided (group_before v.shape s)) came-numbers ∙ y.would_begin)

  begins-so : (k : ℕ) → begins v.shape s came k ≡ accept (with_group s first) k
  unfolding begins arrival
  begins-so k = rw (y.for_source, base-is v m form g n le, time-is v m form g n le, ours-many v m form g n le)

  pub reported-is : y.reported ≡ lost_before v.shape s (sent_numbers g.group)
  unfolding LostFramesByFormula accept
  reported-is =
      let told : (offer_one s g n).answer ≡ Ok y.reported = ap (λ (z : Offered). z.answer) (begun_first ∙ begins-so y.reported) in
      lost_frames_by_formula v s g.group.source _ _ (g.payload n) g.group.l n (g.d n) mine was_read y.reported told ∙ ap (lost_before v.shape s) came-numbers

  none-known : (i : ℕ) → i < packets_of v.shape → known_of v none i ≡ unheard
  unfolding known_of told
  none-known i k = rw (begun-lost v g.group.source (sent_numbers g.group) i k)

  none_of : OfGroup none g.group
  unfolding begun
  none_of = record { of_source = refl; base = refl; time = refl; same_length = refl; same_bundle = refl }

  first-exactly : HoldsExactly (with_group s first) g (n ∷ [])
  unfolding with_group
  first-exactly =
      let k = begun-keeps v g.group.source (sent_numbers g.group) g.group.low g.group.some g.group.few in
      let q = put-part v m form g n le none k none_of [] none-known in
      record {
        still_open = open-with v s first y.opened q.box (q.of_group.of_source ∙ sym y.for_source);
        for_source = y.for_source;
        in_form = y.in_form;
        part = q;
      }

  pub begins-group : First s g n
  unfolding accept
  begins-group =
      let o : offer_one s g n ≡ accept (with_group s first) (lost_before v.shape s (sent_numbers g.group)) = begun_first ∙ begins-so y.reported ∙ ap (accept (with_group s first)) reported-is in
      record { told = ap (λ (z : Offered). z.answer) o; after = subst (λ (z : Session). HoldsExactly z g (n ∷ [])) (sym (ap (λ (z : Offered). z.session) o)) first-exactly }

-- ---- all of it
or_turn : (a b : Bool) → a || (b || false) ≡ b || a
or_turn true true = refl
or_turn true false = refl
or_turn false true = refl
or_turn false false = refl

or_assoc : (a b c : Bool) → a || (b || c) ≡ (b || a) || c
or_assoc true true c = refl
or_assoc true false c = refl
or_assoc false true c = refl
or_assoc false false c = refl

spread-among : (i : ℕ) (ds ns : List ℕ) → among i (spread ds ns) ≡ among i ns || among i ds
spread-among i ds [] = refl
spread-among i ds (n ∷ ns) = spread-among i (n ∷ ds) ns ∙ or_assoc (among i ns) (eqb i n) (among i ds)

pub places_of : (v : Voice) → HasRoom v → (form : Form) (s : Session) (g : Sent v form) (ns : List ℕ) → HoldsExactly s g ns
    → PouredPlaces (in_time v s.group) g.group.frames g.group.l g.group.b ns
unfolding EveryPlaceInTime
places_of v m form s g ns x =
    let p = every_place_in_time v m s.group x.part.box in
    record {
      count = p.count ∙ ap₂ (λ (l b : ℕ). (l + 1) * b) x.part.of_group.same_length x.part.of_group.same_bundle;
      original = λ n k i j e. at_place n k i j ∙ ap (λ (w : Known). frame_known w k) (known_as g.group n e) ∙ packet-at g.group.l n g.group.b g.group.frames k j;
      erased = λ n k i j e. at_place n k i j ∙ ap (λ (w : Known). frame_known w k) (known_as g.group n e);
    }
  where
    at_place : (n k : ℕ) → n ≤ g.group.l → k < g.group.b → frame_at (in_time v s.group) (place_of g.group.l n k) ≡ frame_known (knowledge g.group ns n) k
    at_place n k i j =
        ap (λ (l : ℕ). frame_at (in_time v s.group) (place_of l n k)) (sym x.part.of_group.same_length)
        ∙ (every_place_in_time v m s.group x.part.box).places n k (omega (arith, x.part.of_group.same_length)) (omega (arith, x.part.of_group.same_bundle))
        ∙ ap (λ (w : Known). frame_known w k) (x.part.knows n (omega (arith, g.group.low)))

-- an open session pours its group's places
pub pours : (v : Voice) → HasRoom v → (s : Session) → is_open v s ≡ true → Box v s.group → pour_made v s ≡ octets (entries_of (in_time v s.group))
unfolding EveryPlaceInTime pour_made
pours v m s o x = rw o (every_place_in_time v m s.group x).entries

pub offers_deliver : OffersDeliver
unfolding OffersDeliver AllAccepted offer_all
offers_deliver v m form g s y n ns w =
    let f = begins-group v m form g n w.0 s y in
    let r = offers v m form g (offer_one s g n).session (n ∷ []) ns f.after w.1 in
    let x = exactly-as (offer_all (offer_one s g n).session g ns) g (spread (n ∷ []) ns) (n ∷ ns) (λ i. spread-among i (n ∷ []) ns ∙ or_turn (among i ns) (eqb i n)) r.after in
    let t = offer_all (offer_one s g n).session g ns in
    let p = places_of v m form t g (n ∷ ns) x in
    record {
      accepted = (f.told, r.told);
      exactly = x;
      places = p;
      poured = pours v m t x.still_open x.part.box;
      octet_count = entries-length (in_time v t.group) ∙ ap (λ (i : ℕ). i + body_octets (in_time v t.group)) p.count;
    }

pub copied_out : CopiedOut
unfolding CopiedOut copied
copied_out v form s g ns x = simp (x.still_open, some-held v s.group x.part.box)
