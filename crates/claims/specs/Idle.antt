-- Document 01, "What the promises have to say": "Check these idle builds against the promises." Of any build that meets the contracts
-- (`Build`), each of these says: it is not such a one. A group that our writer wrote and a session that is ready for it are all it takes.
use Rattle.std.specs.Prelude.{ℕ, ◌+◌, ◌≤◌, ◌≡◌, List, false, length, take, replicate, Ok}
use Rattle.frame.specs.FrameTable.{erasure}
use Rattle.frame.specs.Shape.{holding_shape}
use Rattle.form.specs.declared.Form.{Form}
use Rattle.form.specs.Agreed.{voice_for}
use Rattle.holding.specs.Group.{is_nothing}
use Rattle.pouring.specs.Pouring.{in_time}
use Rattle.session.specs.declared.Session.{Session}
use Rattle.claims.specs.Call.{Build}
use Rattle.claims.specs.Calls.Lent.{LentWholeSession}
use Rattle.claims.specs.Calls.Session as session
use Rattle.claims.specs.Calls.Landing as landing
use Rattle.claims.specs.Refusals.{Refused}
use Rattle.claims.specs.Sessions.{lost_before, body_octets}
use Rattle.claims.specs.Offering.{Ready}
use Rattle.claims.specs.Demand3.{Writers, WrittenGroup, forms_of, offer_through}

-- the contracts can be met, or claims on builds would say nothing
pub record Buildable : Type 0 where
  pub writers : Writers
  pub offer : Build session.offer
  pub pour : Build session.pour
  pub host_offer : Build landing.lv_session_offer
  pub host_pour : Build landing.lv_session_pour

-- a case of demand 3: a group that was written, a session that is ready for it, in a form that admits it, and one of its packets
pub record Case3 : Type 0 where
  pub writers : Writers
  pub group : WrittenGroup writers
  pub form : Form
  pub admitted : forms_of group.written form
  pub session : Session
  pub ready : Ready (voice_for form) form session group.source group.numbers
  pub n : ℕ
  pub within : n ≤ group.numbers.l

-- "One that refuses everything: shut out .. by demand 3, where a written packet is accepted."
unfoldable pub RefusesEverything : Type 0
RefusesEverything =
    (offer : Build session.offer) →
    ((given : (session.offer).Given) (lent : LentWholeSession) → Refused (offer.run given lent).0) → Case3 → ⊥

-- "One that pours erasures always: demand 3, original frames where offered."
unfoldable pub PoursErasures : Type 0
PoursErasures =
    (offer : Build session.offer) (pour : Build session.pour) →
    ((s : Session) (out : List ℕ) (k : ℕ) → (pour.run tt (record { session = s; out = out })).0 ≡ Ok k →
    take k (pour.run tt (record { session = s; out = out })).1.out ≡ replicate k erasure) →
    Case3 → ⊥

-- "One that stores nothing on offering: the holding after it is fixed."
unfoldable pub StoresNothing : Type 0
StoresNothing =
    (offer : Build session.offer) →
    ((given : (session.offer).Given) (lent : LentWholeSession) → (offer.run given lent).1 ≡ lent) → Case3 → ⊥

-- "One that takes the first packet and only nods at later ones: demand 3 with two packets."
unfoldable pub NodsAtLater : Type 0
NodsAtLater =
    (offer : Build session.offer) →
    ((given : (session.offer).Given) (lent : LentWholeSession) → is_nothing holding_shape lent.session.group ≡ false →
    (offer.run given lent).1 ≡ lent) →
    (c : Case3) (k : ℕ) → k ≤ c.group.numbers.l → (k ≡ c.n → ⊥) → ⊥

-- "One that reports invented lost-frame or octet counts: both counts are fixed by formula."
unfoldable pub InventsLostFrames : Type 0
InventsLostFrames =
    (offer : Build session.offer) (c : Case3) (k : ℕ) → (offer_through offer c.group c.session c.n).answer ≡ Ok k →
    (k ≡ lost_before holding_shape c.session c.group.numbers → ⊥) → ⊥

-- the same for octet counts
unfoldable pub InventsOctetCounts : Type 0
InventsOctetCounts =
    (pour : Build session.pour) (s : Session) (out : List ℕ) (k : ℕ) → (pour.run tt (record { session = s; out = out })).0 ≡ Ok k →
    let frames = in_time (voice_for s.form) s.group in
    (k ≡ length frames + body_octets frames → ⊥) → ⊥
