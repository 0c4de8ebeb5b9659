-- Document 01, "Session", for a host of two boxes: a group that was joined and poured from a copy is dropped, and what was lost between
-- two groups is told by their holdings. Over any shape and frame table.
use Rattle.std.specs.Prelude.{ℕ, true, List, ◌≡◌, Result, Ok, Err}
use Rattle.frame.specs.FrameTable.{Frame}
use Rattle.frame.specs.Shape.{Voice}
use Rattle.answers.specs.Outputs.{refused_output, written_of}
use Rattle.answers.specs.declared.Refusal.{Refusal}
use Rattle.answers.specs.declared.Refusal.TheVariants.{NoRoom, NotApplicable}
use Rattle.payload.specs.Payload.{packet, read_as}
use Rattle.holding.specs.Asked.{lost_between}
use Rattle.holding.specs.Group.{holds}
use Rattle.holding.specs.declared.Holding.{Holding}
use Rattle.session.specs.Session.{Dropped, is_open, arrival, offered, pour_made, ended, after_pour, dropped}
use Rattle.session.specs.declared.Session.{Session}

-- what a pouring answers, but for its octet count
unfoldable pub answer_of : Result ℕ Refusal → Result Unit Refusal
answer_of (Ok n) = (Ok tt)
answer_of (Err r) = Err r

-- the answer and the session that such a pouring leaves
unfoldable pub as_poured : Voice → Session → Result ℕ Refusal → Dropped
as_poured v s w = record { answer = answer_of w; session = after_pour v.shape s w }

-- a session whose group is poured, or dropped
pub record Alike (v : Voice) (s : Session) : Type 0 where
  -- into room enough, so that it does not answer 15, pouring answers as dropping does, and both leave the same session
  pub same : (out : List ℕ) → (written_of (pour_made v s) out ≡ Err NoRoom → ⊥) →
      dropped v s ≡ as_poured v s (written_of (pour_made v s) out)
  -- where dropping is refused, it is with 21, and pouring is so too, whatever the room
  pub refused : (r : Refusal) → (dropped v s).answer ≡ Err r →
      (r ≡ NotApplicable) × (pour_made v s ≡ refused_output NotApplicable)

-- pouring and dropping leave the same session
unfoldable pub PourAndDropAlike : Type 0
PourAndDropAlike = (v : Voice) (s : Session) → Alike v s

-- what is said of the groups of two holdings is what a session that poured, or dropped, the first reports on a packet of the second
unfoldable pub LostBetweenIsReported : Type 0
LostBetweenIsReported =
    (v : Voice) (s : Session) → is_open v s ≡ true → holds v s.group ≡ true →
    (after : Holding) → holds v after ≡ true →
    (sequence timestamp : ℕ) (p : List ℕ) (l n d : ℕ) (fs : List Frame) → read_as v.table s.form p ≡ packet l n d fs →
    (arrival v.shape sequence timestamp l n fs).numbers ≡ after.numbers →
    (offered v (ended v.shape s) after.source sequence timestamp p).answer ≡ lost_between v s.group after
