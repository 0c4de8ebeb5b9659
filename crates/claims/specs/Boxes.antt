-- Demand 3, the other half: "two boxes, one slip".
use Rattle.std.specs.Prelude.{ℕ, ◌<◌, ◌≡◌, List, [], ◌∷◌, Bool, false, ◌||◌, Ok}
use Rattle.frame.specs.Shape.{Voice, packets_of}
use Rattle.form.specs.declared.Form.{Form}
use Rattle.holding.specs.declared.Holding.{Holding}
use Rattle.knowledge.specs.Knowledge.{Among}
use Rattle.session.specs.Session.{copied}
use Rattle.session.specs.declared.Session.{Session}
use Rattle.claims.specs.Joinings.{HasRoom, Way, boxes, done, outcome}
use Rattle.claims.specs.Offering.{SentGroup, Sent, among, HoldsExactly}

-- such a session's holding can be copied out
unfoldable pub CopiedOut : Type 0
CopiedOut =
    (v : Voice) (form : Form) (s : Session) (g : Sent v form) (ns : List ℕ) → HoldsExactly s g ns →
    copied v s ≡ record { answer = (Ok tt); holding = s.group }

-- some box was offered packet n
abbrev pub offered_to : ℕ → (Holding → List ℕ) → List Holding → Bool
offered_to n parts [] = false
offered_to n parts (h ∷ hs) = among n (parts h) || offered_to n parts hs

-- a box that was offered these packets of the group: its session, of any form in which they are read, and the holding copied out of it
pub record HeardBy (v : Voice) (g : SentGroup v) (h : Holding) (ns : List ℕ) : Type 0 where
  pub form : Form
  pub sent : Sent v form
  pub same_group : sent.group ≡ g
  pub session : Session
  pub exactly : HoldsExactly session sent ns
  pub copied_out : copied v session ≡ record { answer = (Ok tt); holding = h }

-- boxes that each were offered a part of the group, each in a form of its own, joined in any order and grouping, hold what one box would
-- that was offered all of it
unfoldable pub BoxesJoin : Type 0
BoxesJoin =
    (v : Voice) → HasRoom v → (g : SentGroup v) (w : Way) (parts : Holding → List ℕ) →
    ((h : Holding) → Among h (boxes w) → HeardBy v g h (parts h)) →
    (one : Holding) (all : List ℕ) → HeardBy v g one all →
    ((n : ℕ) → n < packets_of v.shape → among n all ≡ offered_to n parts (boxes w)) →
    outcome v w ≡ done one
