-- Document 01, "Session", over any shape and frame table.
use Rattle.std.specs.Prelude.{ℕ, ◌/◌, Bool, true, false, cond, ◌&&◌, List, length, eqb, leb, Option, Some, None, Result, Ok, Err}
use Rattle.frame.specs.FrameTable.{Frame}
use Rattle.frame.specs.Shape.{Shape, Voice}
use Rattle.form.specs.Agreed.{in_range}
use Rattle.answers.specs.Outputs.{Made}
use Rattle.answers.specs.Outputs as outputs
use Rattle.form.specs.declared.Form.{Form}
use Rattle.form.specs.declared.Form.TheVariants.{HeaderFree, Interleaved}
use Rattle.answers.specs.declared.Refusal.{Refusal}
use Rattle.payload.specs.Payload.{Reading, packet, refused_payload, read_as}
use Rattle.numbers.specs.Bases.{base_sequence, base_timestamp}
use Rattle.numbers.specs.Place.{pause, decided}
use Rattle.numbers.specs.declared.GroupNumbers.{GroupNumbers}
use Rattle.numbers.specs.declared.Before.{Before}
use Rattle.numbers.specs.declared.Before.TheVariants as before
use Rattle.numbers.specs.declared.Verdict.{Verdict}
use Rattle.numbers.specs.declared.Verdict.TheVariants as verdict
use Rattle.holding.specs.Group.{nothing, is_nothing, begun, held_at, bundle_at, with_packet, holds}
use Rattle.bundle.specs.Bundles.{same_bundles}
use Rattle.bundle.specs.declared.Bundle.{Bundle}
use Rattle.answers.specs.Outputs.{giving}
use Rattle.bundle.specs.LaidOut.{laid}
use Rattle.holding.specs.declared.Holding.{Holding}
use Rattle.pouring.specs.Pouring.{poured}
use Rattle.answers.specs.declared.Refusal.TheVariants.{AnotherSource, PacketDiffers, NotApplicable}
use Rattle.session.specs.declared.Session.{Session}

-- ---- a call's answer, and what it leaves

-- an offer
pub record Offered : Type 0 where
  pub answer : Result ℕ Refusal
  pub session : Session

-- an opening
pub record Started : Type 0 where
  pub answer : Result Unit Refusal
  pub session : Session

-- a copy; it is of nothing where it was refused
pub record Copied : Type 0 where
  pub answer : Result Unit Refusal
  pub holding : Holding

-- a drop
pub record Dropped : Type 0 where
  pub answer : Result Unit Refusal
  pub session : Session

-- a packet that was read, with the numbers of its group and its frames laid out
pub record Arrival : Type 0 where
  pub numbers : GroupNumbers
  pub n : ℕ
  pub packet : Bundle

-- ---- open, and not open

-- a session that holds no group and remembers none
unfoldable pub vacant : Shape → Bool → ℕ → Form → Session
vacant shape is_open source form =
    record {
      «open» = is_open;
      source = source;
      form = form;
      group = nothing shape;
      last = None;
    }

-- a session never opened; "Ending a session clears all of it, a held group and the memory of the last one"
unfoldable pub never_opened : Shape → Session
never_opened shape = vacant shape false 0 HeaderFree

-- "Opening names the source and the agreed form .. and otherwise gives a fresh session."
unfoldable pub fresh : Shape → ℕ → Form → Session
fresh shape source form = vacant shape true source form

-- its maxima are in range; a header-free form has none
unfoldable pub form_right : Form → Bool
form_right HeaderFree = true
form_right (Interleaved m) = in_range m

-- "21 if a maximum is out of range"
unfoldable pub opened_for : Shape → Session → ℕ → Form → Started
opened_for shape s source form =
    cond (form_right form) (record { answer = (Ok tt); session = fresh shape source form })
    (record { answer = Err NotApplicable; session = s })

-- "the L or B of its last poured group is out of these ranges", if there is one; any base timestamp is in range
unfoldable pub last_right : Shape → Option GroupNumbers → Bool
last_right shape None = true
last_right shape (Some g) = leb g.l shape.greatest && (leb 1 g.b && leb g.b 10)

-- "its held group breaks this or names another source"; it holds none if its group is that of nothing
unfoldable pub group_right : Voice → Session → Bool
group_right v s = cond (is_nothing v.shape s.group) true (holds v s.group && eqb s.group.source s.source)

-- "A session counts as not open if .."
unfoldable pub is_open : Voice → Session → Bool
is_open v s = s.«open» && (form_right s.form && (last_right v.shape s.last && group_right v s))

-- ---- offering

-- "Every refused offer leaves the session as it was."
unfoldable pub refuse : Session → Refusal → Offered
refuse s r = record { answer = Err r; session = s }

-- an offer accepted, with the lost frames before it
unfoldable pub accept : Session → ℕ → Offered
accept s lost = record { answer = Ok lost; session = s }

-- a session with another group
unfoldable pub with_group : Session → Holding → Session
with_group s h =
    record {
      «open» = s.«open»;
      source = s.source;
      form = s.form;
      group = h;
      last = s.last;
    }

-- "With no group held but one poured before", "With none before": (02, ii) "with the poured group's numbers"
unfoldable pub poured_before : Option GroupNumbers → Before
poured_before None = before.Nothing
poured_before (Some g) = before.Poured g

-- the lost frames before a group of these numbers, of the last poured one, if there is one: (02, ii) "divided by 160"
abbrev pub lost_after : Option GroupNumbers → GroupNumbers → ℕ
lost_after None new = 0
lost_after (Some g) new = pause g new / 160

-- "with a group held"; else the last poured one, if there is one
unfoldable pub group_before : Shape → Session → Before
group_before shape s = cond (is_nothing shape s.group) (poured_before s.last) (before.Held s.group.numbers)

-- "the packet begins a group and the answer reports .. lost frames before it"
unfoldable pub begins : Shape → Session → Arrival → ℕ → Offered
begins shape s a lost =
    accept (with_group s (with_packet shape (begun shape s.source a.numbers) a.n a.packet)) lost

-- "If the packet is already held: same types and bodies, accepted and nothing changes; otherwise 14. If not held, it is put in."
unfoldable pub belongs : Shape → Session → Arrival → Offered
belongs shape s a =
    cond (held_at s.group a.n)
    (cond (same_bundles (bundle_at shape s.group a.n) a.packet) (accept s 0) (refuse s PacketDiffers))
    (accept (with_group s (with_packet shape s.group a.n a.packet)) 0)

-- what the verdict on a packet's numbers means for its frames
unfoldable pub placed_by : Shape → Session → Arrival → Result Verdict Refusal → Offered
placed_by shape s a (Ok (verdict.Begins lost)) = begins shape s a lost
placed_by shape s a (Ok verdict.Belongs) = belongs shape s a
placed_by shape s a (Err r) = refuse s r

-- the place of a packet that was read
unfoldable pub placed : Shape → Session → Arrival → Offered
placed shape s a = placed_by shape s a (decided (group_before shape s) a.numbers)

-- a packet that was read, with the numbers of its group
unfoldable pub arrival : Shape → ℕ → ℕ → ℕ → ℕ → List Frame → Arrival
arrival shape sequence timestamp l n fs =
    record {
      numbers =
          record {
            sequence = base_sequence sequence n;
            timestamp = base_timestamp timestamp n;
            l = l;
            b = length fs;
          };
      n = n;
      packet = laid shape fs;
    }

-- "payload (1 to 9), place"
unfoldable pub judged : Shape → Session → ℕ → ℕ → Reading → Offered
judged shape s sequence timestamp (refused_payload r) = refuse s r
judged shape s sequence timestamp (packet l n d fs) = placed shape s (arrival shape sequence timestamp l n fs)

-- what an open session makes of a packet: "source (10), payload (1 to 9), place"
unfoldable pub received : Voice → Session → ℕ → ℕ → ℕ → List ℕ → Offered
received v s source sequence timestamp p =
    cond (eqb source s.source) (judged v.shape s sequence timestamp (read_as v.table s.form p)) (refuse s AnotherSource)

-- "Offering a packet checks in this order: open session (21), source (10), payload (1 to 9), place."
unfoldable pub offered : Voice → Session → ℕ → ℕ → ℕ → List ℕ → Offered
offered v s source sequence timestamp p =
    cond (is_open v s) (received v s source sequence timestamp p) (refuse s NotApplicable)

-- ---- pouring, copying out, dropping, ending

-- "Checks: session open and group held (21), room (15)."
unfoldable pub pour_made : Voice → Session → Made
pour_made v s = cond (is_open v s) (poured v s.group) (outputs.refused_output NotApplicable)

-- pouring "ends the group", and its numbers are remembered
unfoldable pub ended : Shape → Session → Session
ended shape s =
    record {
      «open» = s.«open»;
      source = s.source;
      form = s.form;
      group = nothing shape;
      last = Some s.group.numbers;
    }

-- "and ends the group"; a refused pouring leaves the session as it was
unfoldable pub after_pour : Shape → Session → Result ℕ Refusal → Session
after_pour shape s (Ok n) = ended shape s
after_pour shape s (Err r) = s

-- 21; beside it stands a holding of nothing, which `copied_out` leaves out
unfoldable pub no_copy : Shape → Copied
no_copy shape = record { answer = Err NotApplicable; holding = nothing shape }

-- "A session's holding can be copied out (21 likewise)"
unfoldable pub copied : Voice → Session → Copied
copied v s =
    cond (is_open v s) (cond (is_nothing v.shape s.group) (no_copy v.shape) (record { answer = (Ok tt); holding = s.group }))
    (no_copy v.shape)

-- 21, and the session as it was
unfoldable pub not_dropped : Session → Dropped
not_dropped s = record { answer = Err NotApplicable; session = s }

-- a group dropped is ended as pouring "ends the group", and nothing is written: "session open and group held (21)"
unfoldable pub dropped : Voice → Session → Dropped
dropped v s =
    cond (is_open v s)
    (cond (is_nothing v.shape s.group) (not_dropped s) (record { answer = (Ok tt); session = ended v.shape s }))
    (not_dropped s)

-- what a copy gives: the holding, or the refusal
abbrev pub copied_out : Voice → Session → Result Holding Refusal
copied_out v s = giving (copied v s).answer (copied v s).holding
