-- Demand 2 (document 01, "Writing packets"): writing and then reading gives back the frames, reading and then writing the octets.
-- Of entries of any kind; where a claim asks something of the kind, it is a test that is computed, and that of every vocoder passes it.
use Rattle.std.specs.Prelude.{ℕ, zero, suc, ◌+◌, ◌*◌, ◌≤◌, ◌<◌, ◌≡◌, List, [], ◌∷◌, Bool, true, false, cond, ◌&&◌, T, eqb, ltb, length}
use Rattle.std.specs.Prelude.{Option, Some, None}
use Rattle.std.specs.Prelude.{drop, get_or}
use Rattle.frame.specs.declared.Vocoder.{Vocoder}
use Rattle.frame.specs.declared.Row.{Row}
use Rattle.frame.specs.FrameTable.{FrameTable, Frame, row_with, sendable, single, Every}
use Rattle.frame.specs.Entry.{d_of}
use Rattle.answers.specs.Outputs.{octets}
use Rattle.form.specs.Agreed.{in_range}
use Rattle.form.specs.declared.Limits.{Limits}
use Rattle.form.specs.declared.Form.TheVariants.{HeaderFree, Interleaved}
use Rattle.payload.specs.Payload.{packet, read_as}
use Rattle.entries.specs.Kind.{Kind, kind_of, every_type, keeps_types, lists_erasure}
use Rattle.entries.specs.Entries.{frames, entries_in, entries_of}
use Rattle.entries.specs.declared.Rule.TheVariants.{Sendable}
use Rattle.entries.specs.declared.Rule.TheVariants as rule
use Rattle.packet.specs.Packet.{packet_frames, packed, group_in}
use Rattle.packet.specs.Writing.{packet_made, header_free_made}

-- every type of the table fits the six bits of an entry
abbrev pub narrow : FrameTable → Bool
narrow v = every_type (λ t. ltb t 64) v

-- "limits that admit it"
pub record Admits (m : Limits) (l b : ℕ) : Type 0 where
  pub in_range : in_range m ≡ true
  pub long_enough : l ≤ m.max_l
  pub wide_enough : b ≤ m.max_b

-- "Output: packet N": where no check refuses, numbers in range and (L + 1) x B sendable frames, the writer writes these very octets
unfoldable pub WriterWrites : Type 0
WriterWrites =
    (kind : Kind) (m : Limits) (l n b d : ℕ) → Admits m l b → n ≤ l → 1 ≤ b → d ≤ 1 →
    (es : List ℕ) (fs : List Frame) → entries_in kind Sendable es ≡ frames fs → length fs ≡ (l + 1) * b →
    packet_made kind (Interleaved m) l n b d es ≡ octets (packed l n d (packet_frames l n b fs))

-- and the header-free writer writes the body of one frame that may be sent so
unfoldable pub HeaderFreeWriterWrites : Type 0
HeaderFreeWriterWrites =
    (kind : Kind) (es : List ℕ) (f : Frame) → entries_in kind rule.HeaderFree es ≡ frames (f ∷ []) →
    header_free_made kind HeaderFree es ≡ octets f.body

-- "Read after write, under the same agreed form, gives the frames, L, N and D back."
unfoldable pub PacketReadAfterWrite : Type 0
PacketReadAfterWrite =
    (kind : Kind) → T (narrow kind.table) → (m : Limits) (l n b d : ℕ) (es w : List ℕ) →
    packet_made kind (Interleaved m) l n b d es ≡ octets w →
    read_as kind.table (Interleaved m) w ≡ packet l n d (packet_frames l n b (group_in kind es))

-- "every frame is sendable"
abbrev pub AllSendable : FrameTable → List Frame → Type 0
AllSendable v fs = Every (λ f. sendable v f.type f.body ≡ true) fs

-- the entries of sendable frames pass the writer's walk, and so does that of one with a body in the header-free writer
pub record SendableAreWalked (kind : Kind) : Type 0 where
  pub group : (fs : List Frame) → AllSendable kind.table fs → entries_in kind Sendable (entries_of fs) ≡ frames fs
  pub one : (f : Frame) → sendable kind.table f.type f.body ≡ true → 0 < length f.body →
      entries_in kind rule.HeaderFree (entries_of (f ∷ [])) ≡ frames (f ∷ [])

-- of every kind whose entries keep types
unfoldable pub SendableIsWritten : Type 0
SendableIsWritten = (kind : Kind) → T (keeps_types kind) → SendableAreWalked kind

-- a group's frames, all sendable, in which packet N has these: "the other packets of the group may be any sendable frames"
pub record GroupOf (v : FrameTable) (l n : ℕ) (gs fs : List Frame) : Type 0 where
  pub sendable : AllSendable v fs
  pub many : length fs ≡ (l + 1) * length gs
  pub ours : packet_frames l n (length gs) fs ≡ gs

-- octet 0 is RR x 64 + L x 8 + N: "RR was 0"
abbrev pub RRZero : List ℕ → Type 0
RRZero p = get_or p 0 0 < 64

-- D of the first entries is d: "all D were equal"
abbrev pub EveryD : ℕ → ℕ → List ℕ → Type 0
EveryD d zero es = Unit {0}
EveryD d (suc b) [] = Unit {0}
EveryD d (suc b) (e ∷ es) = (d_of e ≡ d) × EveryD d b es

-- numbers that are octets
abbrev pub AreOctets : List ℕ → Type 0
AreOctets [] = Unit {0}
AreOctets (x ∷ xs) = (x < 256) × AreOctets xs

-- "Write after read gives the payload's octets back if RR was 0, all D were equal and every frame is sendable"
unfoldable pub PacketWriteAfterRead : Type 0
PacketWriteAfterRead =
    (kind : Kind) → T (keeps_types kind) → (m : Limits) (p : List ℕ) (l n d : ℕ) (gs : List Frame) →
    read_as kind.table (Interleaved m) p ≡ packet l n d gs → AreOctets p → RRZero p → EveryD d (length gs) (drop 1 p) →
    (fs : List Frame) → GroupOf kind.table l n gs fs → packet_made kind (Interleaved m) l n (length gs) d (entries_of fs) ≡ octets p

-- a type that may be sent and has a body is "known by the length"
abbrev pub kind_is : Option Row → ℕ → Bool
kind_is None k = false
kind_is (Some r) k = eqb r.kind k

-- every type of the table that has a body and may be sent is told by its length
abbrev pub tells : FrameTable → FrameTable → Bool
tells v [] = true
tells v (r ∷ u) = cond (r.sent && ltb 0 r.octets) (kind_is (row_with v r.octets) r.kind) true && tells v u

-- the same for the header-free writer, whose one frame is the group's
unfoldable pub HeaderFreeReadAfterWrite : Type 0
HeaderFreeReadAfterWrite =
    (kind : Kind) → T (tells kind.table kind.table) → (es w : List ℕ) → header_free_made kind HeaderFree es ≡ octets w →
    read_as kind.table HeaderFree w ≡ packet 0 0 0 (group_in kind es)

-- and back: a header-free payload that was read is written again the same
unfoldable pub HeaderFreeWriteAfterRead : Type 0
HeaderFreeWriteAfterRead =
    (kind : Kind) → T (keeps_types kind) → (p : List ℕ) (l n d : ℕ) (f : Frame) →
    read_as kind.table HeaderFree p ≡ packet l n d (f ∷ []) → sendable kind.table f.type f.body ≡ true →
    header_free_made kind HeaderFree (entries_of (f ∷ [])) ≡ octets p

-- a kind that passes: its table, in which a type stands in one row only; its entries; and its erasure
pub record Passes (kind : Kind) : Type 0 where
  pub narrows : T (narrow kind.table)
  pub tells_apart : T (tells kind.table kind.table)
  pub once : T (single kind.table kind.table)
  pub keeps : T (keeps_types kind)
  pub erases : T (lists_erasure kind)

-- the kind of every vocoder does
unfoldable pub KindsPass : Type 0
KindsPass = (vocoder : Vocoder) → Passes (kind_of vocoder)
