-- Document 01, "Capture program": the run that measures. It knows all of its session but the types and the bodies of its group. No rule is
-- said here: each is that of Run, of a session put together.
use Rattle.std.specs.Prelude.{ℕ, ◌+◌, ◌≡◌, List, length}
use Rattle.session.specs.Standing.{whole, Stands}
use Rattle.session.specs.declared.Session.{Session}
use Rattle.capture.specs.Run.{Step, capture_form, capture_kind, pouring}
use Rattle.capture.specs.declared.Going.{Going}

-- the octets that pouring a session's group records
unfoldable pub held_octets : Session → ℕ
held_octets s = length (pouring capture_kind.table s).octets

-- a measuring run over this session, with so many octets recorded: there are types and bodies with which it is the session, open and in
-- the form of a capture, and the octets of the held group are counted too
pub record Measured (s : Session) (at : ℕ) (g : Going) : Type 0 where
  pub marks : List ℕ
  pub room : List ℕ
  pub session : whole g.standing marks room ≡ s
  pub stands : Stands g.standing marks room
  pub form : g.standing.form ≡ capture_form
  pub counted : g.octets ≡ at + held_octets s

-- a measuring run over some session
pub record Measures (g : Going) : Type 0 where
  pub session : Session
  pub recorded : ℕ
  pub so : Measured session recorded g

-- a measuring run before a step and after it: whatever session it was over, it is over the one that the step leaves, and has counted what
-- the step records
abbrev pub Weighs : (Session → Step) → Going → Going → Type 0
Weighs step g r = (s : Session) (at : ℕ) → Measured s at g → Measured (step s).session (at + length (step s).octets) r
