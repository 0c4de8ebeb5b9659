-- Demand 3, joining, on holdings in octets that a host lends: what holds of holdings holds of their octets. Over any frame table in a
-- holding that has room for its frames and whose types fit an entry; that of every vocoder does (`KindsPass`, `VoicesHaveRoom`).
use Rattle.std.specs.Prelude.{ℕ, ◌≡◌, List, true, T, take, Result, Ok, Err}
use Rattle.answers.specs.declared.Refusal.{Refusal}
use Rattle.octets.specs.Octets.{over}
use Rattle.frame.specs.FrameTable.{FrameTable}
use Rattle.frame.specs.Shape.{Voice, voice_with}
use Rattle.holding.specs.Group.{holds}
use Rattle.joining.specs.Joining.{Joined, join_of}
use Rattle.lending.specs.Laid.{is_long, holding_in, holding_voice}
use Rattle.lending.specs.Calls.{join_answer, join_octets}
use Rattle.claims.specs.Packets.{narrow}
use Rattle.claims.specs.Joinings.{HasRoom, Way, only, joining, boxes, outcome, OneGroup, SameBoxes}

-- a way of joining lent octets: one holding's, or two ways joined into octets that are lent for it
pub data LentWay : Type 0 where
  lent : List ℕ → LentWay
  into : List ℕ → LentWay → LentWay → LentWay

-- the same way of the holdings in them
abbrev pub way_of : LentWay → Way
way_of (lent o) = only (holding_in o)
way_of (into out s t) = joining (way_of s) (way_of t)

-- what is lent to join into is long enough
abbrev pub LongEnough : LentWay → Type 0
LongEnough (lent o) = Unit {0}
LongEnough (into out s t) = (is_long out ≡ true) × (LongEnough s × LongEnough t)

-- what a host has then: the last answer, and the octets
pub record Left : Type 0 where
  pub answer : Result Unit Refusal
  pub octets : List ℕ

-- two outcomes joined into octets; a refusal on the way ends it
abbrev pub join_into : Voice → List ℕ → Left → Result Unit Refusal → Left → Result Unit Refusal → Left
join_into v out j (Err r) k y = j
join_into v out j (Ok t) k (Err r) = k
join_into v out j (Ok t) k (Ok u) =
    record { answer = join_answer v j.octets k.octets out; octets = join_octets v j.octets k.octets out }

-- what a way of joining lent octets ends in
unfoldable pub lent_outcome : Voice → LentWay → Left
lent_outcome v (lent o) = record { answer = (Ok tt); octets = o }
lent_outcome v (into out s t) =
    join_into v out (lent_outcome v s) (lent_outcome v s).answer (lent_outcome v t) (lent_outcome v t).answer

-- the same answer, and where it is done the octets are read as the holding
pub record EndsAs (j : Left) (o : Joined) : Type 0 where
  pub answered : j.answer ≡ o.answer
  pub read : j.answer ≡ (Ok tt) → holding_in j.octets ≡ o.holding

-- the same refusal, or the same octets of a holding
pub record SameEnd (j k : Left) : Type 0 where
  pub answered : j.answer ≡ k.answer
  pub same : j.answer ≡ (Ok tt) → take 2304 j.octets ≡ take 2304 k.octets

-- lent octets are joined as the holdings in them
pub record JoinsLent (v : Voice) : Type 0 where
  -- what joining gives is read back as the joined holding
  pub reads_back : (a b out : List ℕ) → join_answer v a b out ≡ (Ok tt) →
      holding_in (join_octets v a b out) ≡ (join_of v (holding_in a) (holding_in b)).holding
  -- a holding joined with itself gives its own octets back
  pub with_itself : (o out : List ℕ) → holds v (holding_in o) ≡ true → is_long out ≡ true →
      (join_answer v o o out ≡ (Ok tt)) × (join_octets v o o out ≡ over out 0 (take 2304 o))
  -- both orders of two give the same answer and the same octets, whatever is lent
  pub either_order : (a b out : List ℕ) →
      (join_answer v a b out ≡ join_answer v b a out) × (join_octets v a b out ≡ join_octets v b a out)
  -- a way of joining lent octets ends as the same way of the holdings in them
  pub ends_as : (w : LentWay) → LongEnough w → EndsAs (lent_outcome v w) (outcome v (way_of w))
  -- every order and grouping ends in the same octets or in the same refusal, and so do repeats
  pub every_order : (s t : LentWay) → LongEnough s → LongEnough t → OneGroup v (boxes (way_of s)) →
      SameBoxes (boxes (way_of s)) (boxes (way_of t)) → SameEnd (lent_outcome v s) (lent_outcome v t)

-- "Holdings of that same group from several boxes join to the same holding in every order and grouping", of lent octets
pub record LentJoinings : Type 0 where
  pub of_tables : (table : FrameTable) → T (narrow table) → HasRoom (voice_with table) → JoinsLent (voice_with table)
  pub of_holdings : (o : List ℕ) → JoinsLent (holding_voice o)
