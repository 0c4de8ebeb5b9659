-- `landing::packet_named` meets its contract. Assumes nothing.
use Rattle.std.proofs.Common.{sym, ◌∙◌}
use Rattle.answers.proofs.Exits.{exits}
use Rattle.answers.proofs.OutputsLaws.{writes-refusal}
use Rattle.landing.specs.Host.{packet_named}
use Rattle.landing.proofs.packet_named.Goals as goal

pub returns-in_err-form_named : goal.returns-in_err-form_named
unfolding packet_named
returns-in_err-form_named c =
    rw (exits _ _ c.from_residual.ensures.1) (writes-refusal _ _ _ (rw (sym c.form_named.ensures ∙ c.in_err-form_named.was)))
