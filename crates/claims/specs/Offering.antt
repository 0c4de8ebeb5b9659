-- Demand 3, offering: a group that was sent, any part of it offered in any order, repeats allowed, to a session that is ready for it.
-- Over any shape and frame table that has room, and any packet format for which reading after writing holds: that law is the field
-- `read` of `Sent`, and all that is asked of a format.
use Rattle.std.specs.Prelude.{ℕ, ◌+◌, ◌*◌, ◌%◌, ◌≤◌, ◌<◌, ◌≡◌, List, [], ◌∷◌, Bool, true, false, cond, ◌||◌, eqb, length, Ok}
use Rattle.frame.specs.FrameTable.{Frame, AllListed, erasure}
use Rattle.frame.specs.Shape.{Voice, packets_of}
use Rattle.frame.specs.Places.{frame_at}
use Rattle.form.specs.declared.Form.{Form}
use Rattle.payload.specs.Payload.{packet, read_as}
use Rattle.packet.specs.Packet.{place_of, packet_frames}
use Rattle.answers.specs.Outputs.{octets}
use Rattle.numbers.specs.Place.{decided}
use Rattle.numbers.specs.declared.GroupNumbers.{GroupNumbers}
use Rattle.numbers.specs.declared.Verdict.TheVariants.{Begins}
use Rattle.holding.specs.Group.{is_nothing}
use Rattle.holding.specs.declared.Holding.{Holding}
use Rattle.pouring.specs.Pouring.{in_time}
use Rattle.knowledge.specs.Knowledge.{Box, Known, unheard, known_of}
use Rattle.session.specs.Session.{Offered, fresh, form_right, is_open, group_before, offered, pour_made}
use Rattle.entries.specs.Entries.{entries_of}
use Rattle.session.specs.declared.Session.{Session}
use Rattle.claims.specs.Joinings.{HasRoom}
use Rattle.claims.specs.Sessions.{lost_before, body_octets}

-- a group: its numbers, and its frames in time order
pub record SentGroup (v : Voice) : Type 0 where
  pub source : ℕ
  pub sequence : ℕ
  pub timestamp : ℕ
  pub l : ℕ
  pub b : ℕ
  pub frames : List Frame
  pub sequence_fits : sequence < 65536
  pub timestamp_fits : timestamp < 4294967296
  pub low : l ≤ v.shape.greatest
  pub some : 1 ≤ b
  pub few : b ≤ 10
  pub many : length frames ≡ (l + 1) * b
  pub listed : AllListed v.table frames

-- a group as it was written: the payload of each packet, which is read in the form as that packet's frames
pub record Sent (v : Voice) (form : Form) : Type 0 where
  pub group : SentGroup v
  pub payload : ℕ → List ℕ
  pub d : ℕ → ℕ
  pub read : (n : ℕ) → n ≤ group.l → read_as v.table form (payload n)
      ≡ packet group.l n (d n) (packet_frames group.l n group.b group.frames)

-- the numbers that its packets share
abbrev pub sent_numbers : {v : Voice} → SentGroup v → GroupNumbers
sent_numbers g = record { sequence = g.sequence; timestamp = g.timestamp; l = g.l; b = g.b }

-- "numbered and stamped": packet N has the base numbers and N, wrap-around included
abbrev pub numbered : GroupNumbers → ℕ → ℕ
numbered g n = (g.sequence + n) % 65536

-- 160 counts to a frame
abbrev pub stamped : GroupNumbers → ℕ → ℕ
stamped g n = (g.timestamp + 160 * n) % 4294967296

-- its packet n offered
abbrev pub offer_one : {v : Voice} {form : Form} → Session → Sent v form → ℕ → Offered
offer_one {v} s g n =
    offered v s g.group.source (numbered (sent_numbers g.group) n) (stamped (sent_numbers g.group) n) (g.payload n)

-- its packets of these numbers, one after the other
unfoldable pub offer_all : {v : Voice} {form : Form} → Session → Sent v form → List ℕ → Session
offer_all s g [] = s
offer_all s g (n ∷ ns) = offer_all (offer_one s g n).session g ns

-- every offer is accepted; the first reports these lost frames, the others none
unfoldable pub AllAccepted : {v : Voice} {form : Form} → Session → Sent v form → ℕ → List ℕ → Type 0
AllAccepted s g before [] = Unit {0}
AllAccepted s g before (n ∷ ns) = ((offer_one s g n).answer ≡ Ok before) × AllAccepted (offer_one s g n).session g 0 ns

-- "ready for a group if it is open for its source in the form the group was written in, holds none, and these rules would begin it"
pub record Ready (v : Voice) (form : Form) (s : Session) (source : ℕ) (g : GroupNumbers) : Type 0 where
  pub opened : is_open v s ≡ true
  pub for_source : s.source ≡ source
  pub in_form : s.form ≡ form
  pub vacant : is_nothing v.shape s.group ≡ true
  pub reported : ℕ
  pub would_begin : decided (group_before v.shape s) g ≡ Ok (Begins reported)

-- a session that was just opened is ready for every group of its source
unfoldable pub FreshIsReady : Type 0
FreshIsReady =
    (v : Voice) (form : Form) → form_right form ≡ true → (source : ℕ) (g : GroupNumbers) →
    Ready v form (fresh v.shape source form) source g

-- numbers of packets of the group
abbrev pub Within : ℕ → List ℕ → Type 0
Within l [] = Unit {0}
Within l (n ∷ ns) = (n ≤ l) × Within l ns

-- whether packet n is one of these
abbrev pub among : ℕ → List ℕ → Bool
among n [] = false
among n (m ∷ ms) = eqb n m || among n ms

-- what is known of packet n as it was sent
abbrev pub sent_packet : {v : Voice} → SentGroup v → ℕ → Known
sent_packet g n = record { held = true; frames = packet_frames g.l n g.b g.frames }

-- what is known of packet n where these were offered
abbrev pub knowledge : {v : Voice} → SentGroup v → List ℕ → ℕ → Known
knowledge g ns n = cond (among n ns) (sent_packet g n) unheard

-- a holding with the group's numbers
pub record OfGroup {v : Voice} (h : Holding) (g : SentGroup v) : Type 0 where
  pub of_source : h.source ≡ g.source
  pub base : h.numbers.sequence ≡ g.sequence
  pub time : h.numbers.timestamp ≡ g.timestamp
  pub same_length : h.numbers.l ≡ g.l
  pub same_bundle : h.numbers.b ≡ g.b

-- a holding of the group that names exactly these packets
pub record Part {v : Voice} (h : Holding) (g : SentGroup v) (ns : List ℕ) : Type 0 where
  pub box : Box v h
  pub of_group : OfGroup h g
  pub knows : (n : ℕ) → n < packets_of v.shape → known_of v h n ≡ knowledge g ns n

-- the session is open as it was, and its holding is the one that names exactly the packets offered
pub record HoldsExactly {v : Voice} {form : Form} (s : Session) (g : Sent v form) (ns : List ℕ) : Type 0 where
  pub still_open : is_open v s ≡ true
  pub for_source : s.source ≡ g.group.source
  pub in_form : s.form ≡ form
  pub part : Part s.group g.group ns

-- "each place has the original frame if its packet was offered and an erasure if not"
pub record PouredPlaces (poured frames : List Frame) (l b : ℕ) (ns : List ℕ) : Type 0 where
  pub count : length poured ≡ (l + 1) * b
  pub original : (n k : ℕ) → n ≤ l → k < b → among n ns ≡ true → frame_at poured (place_of l n k) ≡ frame_at frames (place_of l n k)
  pub erased : (n k : ℕ) → n ≤ l → k < b → among n ns ≡ false → frame_at poured (place_of l n k) ≡ record { type = erasure; body = [] }

-- what is offered is accepted, held, and poured, and both counts are those of the formulas
pub record Delivered {v : Voice} {form : Form} (s : Session) (g : Sent v form) (n : ℕ) (ns : List ℕ) : Type 0 where
  pub accepted : AllAccepted s g (lost_before v.shape s (sent_numbers g.group)) (n ∷ ns)
  pub exactly : HoldsExactly (offer_all s g (n ∷ ns)) g (n ∷ ns)
  pub places : PouredPlaces (in_time v (offer_all s g (n ∷ ns)).group) g.group.frames g.group.l g.group.b (n ∷ ns)
  pub poured : pour_made v (offer_all s g (n ∷ ns)) ≡ octets (entries_of (in_time v (offer_all s g (n ∷ ns)).group))
  pub octet_count :
      length (entries_of (in_time v (offer_all s g (n ∷ ns)).group))
      ≡ (g.group.l + 1) * g.group.b + body_octets (in_time v (offer_all s g (n ∷ ns)).group)

-- "one interleave group .. and a session ready for it .. Offer at least one of its packets, any of them, in any order, repeats allowed."
unfoldable pub OffersDeliver : Type 0
OffersDeliver =
    (v : Voice) → HasRoom v → (form : Form) (g : Sent v form) (s : Session) → Ready v form s g.group.source (sent_numbers g.group) →
    (n : ℕ) (ns : List ℕ) →
    Within g.group.l (n ∷ ns) →
    Delivered s g n ns
