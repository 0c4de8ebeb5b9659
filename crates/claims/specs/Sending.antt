-- Demand 3: our writers send groups that it speaks of.
use Rattle.std.specs.Prelude.{ℕ, ◌≤◌, ◌<◌, ◌≡◌, List, Bool, false, not, T, length, Option, Some, None}
use Rattle.frame.specs.declared.Vocoder.{Vocoder}
use Rattle.frame.specs.declared.Row.{Row}
use Rattle.frame.specs.FrameTable.{FrameTable, Frame, rows_of, row_of, erasure}
use Rattle.frame.specs.Shape.{Voice, voice_with}
use Rattle.frame.specs.Places.{frame_at}
use Rattle.form.specs.declared.Form.{Form}
use Rattle.entries.specs.Kind.{Kind}
use Rattle.numbers.specs.declared.GroupNumbers.{GroupNumbers}
use Rattle.packet.specs.Packet.{group_in}
use Rattle.packet.specs.Writing.{packet_made, header_free_made}
use Rattle.form.specs.declared.Limits.{Limits}
use Rattle.form.specs.declared.Form.TheVariants.{HeaderFree, Interleaved}
use Rattle.answers.specs.Outputs.{octets}
use Rattle.claims.specs.Packets.{narrow, tells, Admits}
use Rattle.claims.specs.Offering.{SentGroup, Sent, sent_numbers}
use Rattle.claims.specs.Missing.{is_erasure}

-- "of the form it was written in, under limits that admit it": a group of l and b that `packet::write` wrote
unfoldable pub AdmitsIn : ℕ → ℕ → Form → Type 0
AdmitsIn l b HeaderFree = ⊥
AdmitsIn l b (Interleaved m) = Admits m l b

-- a group with these numbers and frames, sent with these payloads, whichever form of these they are read in
pub record SentSo (v : Voice) (InForm : Form → Type 0) (source : ℕ) (numbers : GroupNumbers) (fs : List Frame)
    (payload : ℕ → List ℕ) : Type 0 where
  pub group : SentGroup v
  pub its_source : group.source ≡ source
  pub its_numbers : sent_numbers group ≡ numbers
  pub its_frames : group.frames ≡ fs
  pub sent : (form : Form) → InForm form → Sent v form
  pub same_group : (form : Form) (i : InForm form) → (sent form i).group ≡ group
  pub its_payload : (form : Form) (i : InForm form) (n : ℕ) → (sent form i).payload n ≡ payload n

-- our writer sends such a group, whatever limits it was written under, to sessions of the form under any limits that admit it:
-- any L, B, any sendable frames, any D for each packet, base numbers anywhere, wrap-around included
unfoldable pub WriterSends : Type 0
WriterSends =
    (kind : Kind) → T (narrow kind.table) → (m : Limits) (g : GroupNumbers) (es : List ℕ) (d : ℕ → ℕ) (payload : ℕ → List ℕ) →
    ((n : ℕ) → n ≤ g.l → packet_made kind (Interleaved m) g.l n g.b (d n) es ≡ octets (payload n)) →
    (source : ℕ) → g.sequence < 65536 → g.timestamp < 4294967296 →
    SentSo (voice_with kind.table) (AdmitsIn g.l g.b) source g (group_in kind es) payload

-- and so does the header-free writer: a group of one packet of one frame
unfoldable pub HeaderFreeWriterSends : Type 0
HeaderFreeWriterSends =
    (kind : Kind) → T (tells kind.table kind.table) → (es w : List ℕ) → header_free_made kind HeaderFree es ≡ octets w →
    (source sequence timestamp : ℕ) → sequence < 65536 → timestamp < 4294967296 →
    SentSo (voice_with kind.table) (λ form. form ≡ HeaderFree) source
    (record { sequence = sequence; timestamp = timestamp; l = 0; b = 1 }) (group_in kind es) (λ n. w)

-- an erasure is not to be sent
abbrev pub sent_of : Option Row → Bool
sent_of (Some r) = r.sent
sent_of None = false

-- the test of a table that its erasures are never sent
abbrev pub never_sent : FrameTable → Bool
never_sent v = not (sent_of (row_of v erasure))

-- a group that our writer sends has no erasure of its own
unfoldable pub WriterSendsNoErasure : Type 0
WriterSendsNoErasure =
    (kind : Kind) → T (never_sent kind.table) → (m : Limits) (l n b d : ℕ) (es w : List ℕ) →
    packet_made kind (Interleaved m) l n b d es ≡ octets w →
    (i : ℕ) → i < length (group_in kind es) → is_erasure (frame_at (group_in kind es) i) ≡ false

-- nor has one that the header-free writer sends
unfoldable pub HeaderFreeSendsNoErasure : Type 0
HeaderFreeSendsNoErasure =
    (kind : Kind) → T (never_sent kind.table) → (es w : List ℕ) → header_free_made kind HeaderFree es ≡ octets w →
    (i : ℕ) → i < length (group_in kind es) → is_erasure (frame_at (group_in kind es) i) ≡ false

-- the frame table of every vocoder passes it
unfoldable pub TablesNeverSendErasures : Type 0
TablesNeverSendErasures = (vocoder : Vocoder) → T (never_sent (rows_of vocoder))
