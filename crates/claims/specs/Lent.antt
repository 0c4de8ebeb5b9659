-- Document 01, "Session", on sessions and holdings in octets that a host lends ("Capture program"): what holds of every such octets. Over
-- any frame table in a holding.
use Rattle.std.specs.Prelude.{ℕ, ◌<◌, ◌≡◌, List, true, false, length, take, get_or, replicate, None, is_some}
use Rattle.octets.specs.Octets.{over, any_set, two_at, four_at}
use Rattle.frame.specs.FrameTable.{Frame}
use Rattle.frame.specs.Shape.{Voice, packets_of, holding_shape}
use Rattle.answers.specs.Outputs.{refused_output}
use Rattle.answers.specs.declared.Refusal.TheVariants.{NotApplicable}
use Rattle.form.specs.declared.Form.{Form}
use Rattle.holding.specs.Group.{Shaped, nothing}
use Rattle.holding.specs.declared.Holding.{Holding}
use Rattle.payload.specs.Payload.{packet, read_as}
use Rattle.pouring.specs.Pouring.{poured}
use Rattle.session.specs.declared.Session.{Session}
use Rattle.session.specs.Session.{never_opened, opened_for, is_open, refuse, offered, ended}
use Rattle.lending.specs.Laid.{is_holding, holding_in, holding_laid, is_session, session_laid, session_in}
use Rattle.lending.specs.Calls.{offer_octets}
use Rattle.joining.specs.Joining.{same_group}
use Rattle.knowledge.specs.Knowledge.{Box, known_of}
use Rattle.claims.specs.Packets.{AreOctets}
use Rattle.claims.specs.Joinings.{HasRoom}
use Rattle.claims.specs.Sessions.{Repeat}

-- a wholly zero buffer is a session never opened, and a session never opened, or ended, is wholly zero
pub record ZeroIsNeverOpened : Type 0 where
  pub read : session_in (replicate 2304 0) ≡ never_opened holding_shape
  pub laid : session_laid (never_opened holding_shape) ≡ replicate 2304 0

-- "shorter than its octets is no session and no holding"
unfoldable pub ShortIsNone : Type 0
ShortIsNone = (o : List ℕ) → length o < 2304 → (is_session o ≡ false) × (is_holding o ≡ false)

-- octets that are no session count as not open: 21 whatever is offered
unfoldable pub NoSessionTakesNothing : Type 0
NoSessionTakesNothing =
    (v : Voice) (o : List ℕ) → is_session o ≡ false → (source sequence timestamp : ℕ) (p : List ℕ) →
    offered v (session_in o) source sequence timestamp p ≡ refuse (never_opened holding_shape) NotApplicable

-- octets that are no holding count as holding no packet: 21
unfoldable pub NoHoldingHoldsNothing : Type 0
NoHoldingHoldsNothing =
    (v : Voice) (o : List ℕ) → is_holding o ≡ false →
    (holding_in o ≡ nothing holding_shape) × (poured v (holding_in o) ≡ refused_output NotApplicable)

-- what lent octets are read as is as long as its type makes it
pub record LentIsShaped : Type 0 where
  pub holdings : (o : List ℕ) → Shaped holding_shape (holding_in o)
  pub sessions : (o : List ℕ) → Shaped holding_shape (session_in o).group

-- what a call laid out reads back the same, whatever the buffer held; a holding is as long as its type makes it, and types are octets
unfoldable pub HoldingReadsBack : Type 0
HoldingReadsBack = (h : Holding) → Shaped holding_shape h → AreOctets h.marks → (o : List ℕ) → holding_in (over o 0 (holding_laid h)) ≡ h

-- a session in which no group was poured has the numbers of none
unfoldable pub NoneRemembered : Session → Type 0
NoneRemembered s = is_some s.last ≡ false → s.last ≡ None

-- the octets where a session's last poured group is laid out read as the numbers of none
unfoldable pub ReadsNone : List ℕ → Type 0
ReadsNone o = (two_at o 9 ≡ 0) × ((four_at o 16 ≡ 0) × ((get_or o 11 0 ≡ 0) × (get_or o 12 0 ≡ 0)))

-- so it is with every session that a call reads or gives
pub record NothingPouredNothingRemembered : Type 0 where
  pub opened : (source : ℕ) (form : Form) → NoneRemembered (opened_for holding_shape (never_opened holding_shape) source form).session
  pub lent : (o : List ℕ) → NoneRemembered (session_in o)
  pub offers : (v : Voice) (s : Session) (source sequence timestamp : ℕ) (p : List ℕ) →
      NoneRemembered (offered v s source sequence timestamp p).session
  pub pours : (s : Session) → NoneRemembered (ended holding_shape s)
  -- so also in octets: those of a session that remembers none read as the numbers of none
  pub octets : (o : List ℕ) → is_session o ≡ true → is_some (session_in o).last ≡ false → ReadsNone o

-- what is laid out of a session reads back the same
unfoldable pub SessionReadsBack : Type 0
SessionReadsBack =
    (s : Session) → Shaped holding_shape s.group → AreOctets s.group.marks → (o : List ℕ) → session_in (over o 0 (session_laid s)) ≡ s

-- "Octets of the layout that stand for nothing are zero": what counts as an open session is, laid out again, the octets it was read from
unfoldable pub SessionLaysBack : Type 0
SessionLaysBack = (o : List ℕ) → (session_in o).«open» ≡ true → session_laid (session_in o) ≡ take 2304 o

-- and so is what counts as holding a packet
unfoldable pub HoldingLaysBack : Type 0
HoldingLaysBack = (o : List ℕ) → any_set (holding_in o).held ≡ true → holding_laid (holding_in o) ≡ take 2304 o

-- "equal knowledge is equal octets": two buffers with the same open session, and two with the same packets
pub record EqualIsEqualOctets : Type 0 where
  pub sessions : (a b : List ℕ) → (session_in a).«open» ≡ true → session_in a ≡ session_in b → take 2304 a ≡ take 2304 b
  pub holdings : (a b : List ℕ) → any_set (holding_in a).held ≡ true → holding_in a ≡ holding_in b → take 2304 a ≡ take 2304 b

-- "an accepted repeat changes none": what leaves the session as it was leaves its octets as they were, and a repeat does
pub record RepeatChangesNoOctet : Type 0 where
  pub kept : (v : Voice) (o : List ℕ) (source sequence timestamp : ℕ) (p : List ℕ) →
      (offered v (session_in o) source sequence timestamp p).session ≡ session_in o → offer_octets v o source sequence timestamp p ≡ o
  pub repeated : (v : Voice) (o : List ℕ) → is_open v (session_in o) ≡ true →
      (sequence timestamp l n d : ℕ) (fs : List Frame) → Repeat v (session_in o) sequence timestamp l n fs →
      (p : List ℕ) → read_as v.table (session_in o).form p ≡ packet l n d fs →
      offer_octets v o (session_in o).source sequence timestamp p ≡ o

-- equal knowledge gives equal octets
unfoldable pub EqualKnowledgeEqualOctets : Type 0
EqualKnowledgeEqualOctets =
    (v : Voice) → HasRoom v → (a b : Holding) → Box v a → Box v b → same_group a b ≡ true →
    ((n : ℕ) → n < packets_of v.shape → known_of v a n ≡ known_of v b n) → holding_laid a ≡ holding_laid b
