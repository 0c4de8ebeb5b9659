-- Demand 3, joining (document 01, "Joining" and "What the promises have to say"): over holdings as Groups defines them, all of one group
-- and each holding at least one packet; any number of boxes, in every order and grouping. Over any
-- shape and frame table that has room.
use Rattle.std.specs.Prelude.{ℕ, ◌+◌, ◌*◌, ◌≤◌, ◌<◌, ◌≡◌, true, T, length, Result, Ok, Err}
use mathlib.Core.List.{List, [], ◌∷◌, ◌++◌, Permᴰ}
use Rattle.answers.specs.declared.Refusal.{Refusal}
use Rattle.frame.specs.declared.Vocoder.{Vocoder}
use Rattle.frame.specs.FrameTable.{within, erases}
use Rattle.frame.specs.Shape.{Voice, packets_of, voice_of}
use Rattle.frame.specs.Places.{frame_at}
use Rattle.form.specs.declared.Form.{Form}
use Rattle.form.specs.Agreed.{voice_for}
use Rattle.holding.specs.Group.{voice_in}
use Rattle.answers.specs.Outputs.{octets}
use Rattle.answers.specs.declared.Refusal.TheVariants.{PacketDiffers}
use Rattle.entries.specs.Entries.{entries_of}
use Rattle.packet.specs.Packet.{place_of}
use Rattle.joining.specs.Joining.{Joined, same_group, refused_join, join_of}
use Rattle.pouring.specs.Pouring.{in_time, poured}
use Rattle.knowledge.specs.Knowledge.{Box, Known, known_of, frame_known, Among}
use Rattle.holding.specs.declared.Holding.{Holding}

-- a voice whose cells have room for its frames: no body longer than a cell, and an erasure without a body
pub record HasRoom (v : Voice) : Type 0 where
  pub short : T (within v.shape.cell v.table)
  pub erasing : T (erases v.table)

-- the voice of every vocoder is such, and so is that of every session, by its form, and of every holding
pub record VoicesHaveRoom : Type 0 where
  pub of_vocoders : (vocoder : Vocoder) → HasRoom (voice_of vocoder)
  pub of_sessions : (form : Form) → HasRoom (voice_for form)
  pub of_holdings : (h : Holding) → HasRoom (voice_in h)

-- a way of joining: one box, or two ways joined
pub data Way : Type 0 where
  only : Holding → Way
  joining : Way → Way → Way

-- the boxes of a way, in its order
abbrev pub boxes : Way → List Holding
boxes (only h) = h ∷ []
boxes (joining s t) = boxes s ++ boxes t

-- an outcome that is a holding
abbrev pub done : Holding → Joined
done h = record { answer = (Ok tt); holding = h }

-- the join of two outcomes; a refusal on the way ends it
abbrev pub join_answers : Voice → Joined → Result Unit Refusal → Joined → Result Unit Refusal → Joined
join_answers v j (Err r) k y = j
join_answers v j (Ok t) k (Err r) = k
join_answers v j (Ok t) k (Ok u) = join_of v j.holding k.holding

-- what a way of joining ends in
unfoldable pub outcome : Voice → Way → Joined
outcome v (only h) = done h
outcome v (joining s t) = join_answers v (outcome v s) (outcome v s).answer (outcome v t) (outcome v t).answer

-- "all of one group and each holding at least one packet"
pub record OneGroup (v : Voice) (hs : List Holding) : Type 0 where
  pub each : (h : Holding) → Among h hs → Box v h
  pub same : (a b : Holding) → Among a hs → Among b hs → same_group a b ≡ true

-- the same boxes, in any order, repeats allowed
abbrev pub SameBoxes : List Holding → List Holding → Type 0
SameBoxes xs ys = ((h : Holding) → Among h xs → Among h ys) × ((h : Holding) → Among h ys → Among h xs)

-- every order and grouping gives the same, and so do repeats
unfoldable pub EveryOrderAndGrouping : Type 0
EveryOrderAndGrouping =
    (v : Voice) (s t : Way) → OneGroup v (boxes s) → SameBoxes (boxes s) (boxes t) → outcome v s ≡ outcome v t

-- a permutation has the same boxes
unfoldable pub EveryPermutation : Type 0
EveryPermutation = (xs ys : List Holding) → Permᴰ xs ys → SameBoxes xs ys

-- a holding joined with itself is unchanged
unfoldable pub WithItself : Type 0
WithItself = (v : Voice) (h : Holding) → Box v h → join_of v h h ≡ done h

-- "a packet held in both differs": what the two know of it is not the same
pub record Differ (v : Voice) (a b : Holding) : Type 0 where
  pub packet : ℕ
  pub below : packet < packets_of v.shape
  pub first : (known_of v a packet).held ≡ true
  pub second : (known_of v b packet).held ≡ true
  pub unlike : known_of v a packet ≡ known_of v b packet → ⊥

-- "where two of them differ in a packet, every order and grouping ends in 14"
unfoldable pub DifferenceEndsIn14 : Type 0
DifferenceEndsIn14 =
    (v : Voice) (w : Way) → OneGroup v (boxes w) → (a b : Holding) → Among a (boxes w) → Among b (boxes w) →
    Differ v a b → outcome v w ≡ refused_join v.shape PacketDiffers

-- else they are joined
pub record Joins (v : Voice) (w : Way) : Type 0 where
  pub all : Holding
  pub is : outcome v w ≡ done all

-- where no two boxes differ in a packet, every way joins
unfoldable pub ElseTheyJoin : Type 0
ElseTheyJoin =
    (v : Voice) → HasRoom v → (w : Way) → OneGroup v (boxes w) →
    ((a b : Holding) → Among a (boxes w) → Among b (boxes w) → Differ v a b → ⊥) → Joins v w

-- "every packet held in either": joining loses nothing, and what a box knows of a packet that it holds is known then
unfoldable pub NothingLost : Type 0
NothingLost =
    (v : Voice) (w : Way) → OneGroup v (boxes w) → (all : Holding) → outcome v w ≡ done all →
    (a : Holding) → Among a (boxes w) → (n : ℕ) → n < packets_of v.shape → (known_of v a n).held ≡ true → known_of v all n ≡ known_of v a n

-- one of these boxes knows this of packet n
pub record KnownBy (v : Voice) (hs : List Holding) (n : ℕ) (k : Known) : Type 0 where
  pub box : Holding
  pub is_in : Among box hs
  pub knows : known_of v box n ≡ k

-- nor does it invent: what is known of a packet then, held or not, one of the boxes knows
unfoldable pub NothingInvented : Type 0
NothingInvented =
    (v : Voice) (w : Way) → OneGroup v (boxes w) → (all : Holding) → outcome v w ≡ done all →
    (n : ℕ) → n < packets_of v.shape → KnownBy v (boxes w) n (known_of v all n)

-- "so equal knowledge is equal content"
unfoldable pub EqualKnowledge : Type 0
EqualKnowledge =
    (v : Voice) → HasRoom v → (a b : Holding) → Box v a → Box v b → same_group a b ≡ true →
    ((n : ℕ) → n < packets_of v.shape → known_of v a n ≡ known_of v b n) → a ≡ b

-- "Frame k of packet N stands at time place k x (L + 1) + N."
pub record PouredInTime (v : Voice) (h : Holding) : Type 0 where
  pub entries : poured v h ≡ octets (entries_of (in_time v h))
  pub count : length (in_time v h) ≡ (h.numbers.l + 1) * h.numbers.b
  pub places : (n k : ℕ) → n ≤ h.numbers.l → k < h.numbers.b →
      frame_at (in_time v h) (place_of h.numbers.l n k) ≡ frame_known (known_of v h n) k

-- every holding that holds a packet is poured so
unfoldable pub EveryPlaceInTime : Type 0
EveryPlaceInTime = (v : Voice) → HasRoom v → (h : Holding) → Box v h → PouredInTime v h
