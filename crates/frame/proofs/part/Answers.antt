-- `frame::part` meets its contract: each way out is a law of the place. Assumes nothing.
use Rattle.std.proofs.Common.{refl, arith}
use Rattle.frame.specs.Places.{lies_in}
use Rattle.frame.proofs.PlacesLaws.{starts-past, ends-past, no_part, very-part}
use Rattle.frame.proofs.part.Goals as goal
use Rattle.frame.proofs.part.Goals.{then-octets-at-via-then-octets-at, then-octets-at-via-else-octets-at+then-octets-at-2}

pub returns-in_default : goal.returns-in_default
unfolding lies_in
returns-in_default c = no_part _ _ _ (rw c.in_default.is) refl refl

pub returns-then-octets-at : goal.returns-then-octets-at
returns-then-octets-at c =
    let at = c.in-Ok.at in
    elim c.then-octets-at.branch [
      | then-octets-at-via-then-octets-at w ↦ no_part _ _ _ (rw c.in-Ok.is (starts-past at.kind _ at.size _ w.if-octets-at.true)) refl refl
      | then-octets-at-via-else-octets-at+then-octets-at-2 w ↦
          no_part _ _ _ (rw c.in-Ok.is (ends-past at.kind _ _ _ (omega arith) w.if-octets-at-2.true)) refl refl
    ]

pub returns : goal.returns
returns c = rw c.in-Ok.is (very-part _ _ c.in-Ok.at.kind _ _ (omega arith) refl refl)
