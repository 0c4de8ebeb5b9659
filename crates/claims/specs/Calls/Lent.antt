-- Made by tools/calls --write from the sources: what is lent to calls to be written to, by the names of the parameters.
use Rattle.std.specs.Prelude.{ℕ, List}
use Rattle.session.specs.declared.Session.{Session}
use Rattle.session.specs.declared.Standing.{Standing}

-- count
pub record LentCount : Type 0 where
  pub count : ℕ

-- dst
pub record LentDst : Type 0 where
  pub dst : List ℕ

-- holding
pub record LentHolding : Type 0 where
  pub holding : List ℕ

-- kind, start, size
pub record LentKindStartSize : Type 0 where
  pub kind : ℕ
  pub start : ℕ
  pub size : ℕ

-- l, n, b, d
pub record LentLNBD : Type 0 where
  pub l : ℕ
  pub n : ℕ
  pub b : ℕ
  pub d : ℕ

-- lost
pub record LentLost : Type 0 where
  pub lost : ℕ

-- marks, room
pub record LentMarksRoom : Type 0 where
  pub marks : List ℕ
  pub room : List ℕ

-- out
pub record LentOut : Type 0 where
  pub out : List ℕ

-- out, written
pub record LentOutWritten : Type 0 where
  pub out : List ℕ
  pub written : ℕ

-- session
pub record LentSession : Type 0 where
  pub session : List ℕ

-- session, lost
pub record LentSessionLost : Type 0 where
  pub session : List ℕ
  pub lost : ℕ

-- session, out
pub record LentSessionOut : Type 0 where
  pub session : List ℕ
  pub out : List ℕ

-- session, out, written
pub record LentSessionOutWritten : Type 0 where
  pub session : List ℕ
  pub out : List ℕ
  pub written : ℕ

-- source, sequence, timestamp, l, b, held
pub record LentSourceSequenceTimestampLBHeld : Type 0 where
  pub source : ℕ
  pub sequence : ℕ
  pub timestamp : ℕ
  pub l : ℕ
  pub b : ℕ
  pub held : ℕ

-- session
pub record LentWholeSession : Type 0 where
  pub session : Session

-- session, out
pub record LentWholeSessionOut : Type 0 where
  pub session : Session
  pub out : List ℕ

-- standing, marks, room
pub record LentWholeStandingMarksRoom : Type 0 where
  pub standing : Standing
  pub marks : List ℕ
  pub room : List ℕ
