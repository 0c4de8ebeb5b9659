-- Document 01, "Capture program": the run in place. No rule is said here: each is that of Run, of the session put together.
use Rattle.std.specs.Prelude.{ℕ, ◌≡◌, List, Result}
use Rattle.answers.specs.declared.Refusal.{Refusal}
use Rattle.session.specs.Standing.{whole, decision_of}
use Rattle.session.specs.declared.Standing.{Standing}
use Rattle.session.specs.declared.Decision.{Decision}
use Rattle.capture.specs.Capture.{Heard}
use Rattle.capture.specs.Run.{Run}
use Rattle.capture.specs.declared.Going.{Going}

-- the run, its session put together
abbrev pub run_in : Going → List ℕ → List ℕ → Run
run_in g ms rs = record { session = whole g.standing ms rs; octets = g.octets }

-- what was decided of a packet of the capture
abbrev pub DecidesOf : Standing → Heard → Result Decision Refusal → Type 0
DecidesOf t h r = r ≡ decision_of t h.source h.sequence h.timestamp h.payload
