-- Document 01, "Session", of an open session in parts: its numbers by value, and beside them the types and the bodies of its group. No
-- rule is said here: each is that of Session, of the session put together.
use Rattle.std.specs.Prelude.{ℕ, ◌<◌, Bool, true, false, cond, ◌≡◌, List, length, get_or, set, replicate, eqb, Result, Err, Ok}
use Rattle.answers.specs.declared.Refusal.{Refusal}
use Rattle.frame.specs.FrameTable.{Frame}
use Rattle.frame.specs.Shape.{holding_shape}
use Rattle.form.specs.Agreed.{table_of, voice_for}
use Rattle.form.specs.declared.Form.{Form}
use Rattle.answers.specs.declared.Refusal.TheVariants.{AnotherSource, PacketDiffers}
use Rattle.payload.specs.Payload.{Reading, packet, refused_payload, read_as}
use Rattle.payload.specs.Shown.{frames_read}
use Rattle.numbers.specs.Bases.{base_sequence, base_timestamp}
use Rattle.numbers.specs.Place.{decided}
use Rattle.numbers.specs.declared.GroupNumbers.{GroupNumbers}
use Rattle.numbers.specs.declared.Before.{Before}
use Rattle.numbers.specs.declared.Before.TheVariants as before
use Rattle.numbers.specs.declared.Verdict.{Verdict}
use Rattle.numbers.specs.declared.Verdict.TheVariants as verdict
use Rattle.bundle.specs.Bundles.{same_bundles}
use Rattle.bundle.specs.LaidOut.{laid}
use Rattle.holding.specs.Group.{Spans, holding_of, bundle_at, with_packet}
use Rattle.session.specs.Session.{Offered, poured_before, is_open, refuse, accept, with_group, begins}
use Rattle.session.specs.declared.Session.{Session}
use Rattle.session.specs.declared.Standing.{Standing}
use Rattle.session.specs.declared.Decision.{Decision}
use Rattle.session.specs.declared.Decision.TheVariants as decision

-- the session put together from its parts
abbrev pub whole : Standing → List ℕ → List ℕ → Session
whole t ms rs =
    record {
      «open» = t.«open»;
      source = t.source;
      form = t.form;
      group = holding_of t.group_source t.numbers t.held ms rs;
      last = t.last;
    }

-- what an offer answered, and the session put together after it
abbrev pub offered_in : Result ℕ Refusal → Standing → List ℕ → List ℕ → Offered
offered_in answer t ms rs = record { answer = answer; session = whole t ms rs }

-- a session that counts as open, its types and bodies in a holding's room
pub record Stands (t : Standing) (ms rs : List ℕ) : Type 0 where
  pub opened : is_open (voice_for t.form) (whole t ms rs) ≡ true
  pub spans : Spans holding_shape t.held ms rs

-- the frames of a payload, read in the agreed form
abbrev pub frames_of : Form → List ℕ → List Frame
frames_of form p = frames_read (read_as (table_of form) form p)

-- what a decision means for a packet of these frames
unfoldable pub decided_as : Session → List Frame → Result Decision Refusal → Offered
decided_as s fs (Ok (decision.Begins g n lost)) =
    begins holding_shape s (record { numbers = g; n = n; packet = laid holding_shape fs }) lost
decided_as s fs (Ok (decision.PutIn n)) = accept (with_group s (with_packet holding_shape s.group n (laid holding_shape fs))) 0
decided_as s fs (Ok (decision.Again n)) =
    cond (same_bundles (bundle_at holding_shape s.group n) (laid holding_shape fs)) (accept s 0) (refuse s PacketDiffers)
decided_as s fs (Err r) = refuse s r

-- what is known of the packet then: N, how many frames it has, and that none is held where it begins a group
abbrev pub Fits : Standing → List Frame → Result Decision Refusal → Type 0
Fits t fs (Ok (decision.Begins g n lost)) = (n < 8) × (g.b ≡ length fs) × (t.numbers.b ≡ 0)
Fits t fs (Ok (decision.PutIn n)) = (n < 8) × (t.numbers.b ≡ length fs)
Fits t fs (Ok (decision.Again n)) = (n < 8) × (t.numbers.b ≡ length fs)
Fits t fs (Err r) = Unit {0}

-- the group that a packet comes after: "with a group held", "With no group held but one poured before", "With none before"; a held
-- group has a frame to a packet
unfoldable pub before_of : Standing → Before
before_of t = cond (eqb t.numbers.b 0) (poured_before t.last) (before.Held t.numbers)

-- what is decided of a packet by the verdict on its numbers: "If the packet is already held", "If not held, it is put in"
unfoldable pub placed_as : Standing → GroupNumbers → ℕ → Result Verdict Refusal → Result Decision Refusal
placed_as t g n (Ok (verdict.Begins lost)) = Ok (decision.Begins g n lost)
placed_as t g n (Ok verdict.Belongs) = cond (get_or t.held n false) (Ok (decision.Again n)) (Ok (decision.PutIn n))
placed_as t g n (Err r) = Err r

-- the numbers of the group of packet N with these, of L and B
abbrev pub group_numbers : ℕ → ℕ → ℕ → ℕ → ℕ → GroupNumbers
group_numbers sequence timestamp n l b = record {
  sequence = base_sequence sequence n;
  timestamp = base_timestamp timestamp n;
  l = l;
  b = b;
}

-- "payload (1 to 9), place"
unfoldable pub read_decision : Standing → ℕ → ℕ → Reading → Result Decision Refusal
read_decision t sequence timestamp (refused_payload r) = Err r
read_decision t sequence timestamp (packet l n d fs) =
    placed_as t (group_numbers sequence timestamp n l (length fs)) n
    (decided (before_of t) (group_numbers sequence timestamp n l (length fs)))

-- what is decided of a packet, of all but the types and bodies: "source (10), payload (1 to 9), place"
unfoldable pub decision_of : Standing → ℕ → ℕ → ℕ → List ℕ → Result Decision Refusal
decision_of t source sequence timestamp p =
    cond (eqb source t.source) (read_decision t sequence timestamp (read_as (table_of t.form) t.form p))
    (Err AnotherSource)

-- all but the types and bodies of a session in which packet n "begins a group"
unfoldable pub begun_with : Standing → GroupNumbers → ℕ → Standing
begun_with t g n =
    record {
      «open» = t.«open»;
      source = t.source;
      form = t.form;
      group_source = t.source;
      numbers = g;
      held = set (replicate {A = Bool} 8 false) n true;
      last = t.last;
    }

-- and of one into whose group it was put: "If not held, it is put in."
unfoldable pub holding_also : Standing → ℕ → Standing
holding_also t n =
    record {
      «open» = t.«open»;
      source = t.source;
      form = t.form;
      group_source = t.group_source;
      numbers = t.numbers;
      held = set t.held n true;
      last = t.last;
    }
