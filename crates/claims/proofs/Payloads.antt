-- What holds of every payload. Assumes nothing.
use Prim.Native.Nat.{◌+◌, ◌*◌}
use mathlib.Core.Path.{◌≡◌, sym}
use native.Mathlib.Omega.{arith}
use Rattle.frame.proofs.PlacesLaws.{refusal-empty}
use Rattle.payload.specs.Payload.{interleaved, read_as, l_of, n_of}
use Rattle.claims.specs.Payloads.{RRIgnored, RefusalsPartEmpty}

pub rr_ignored : RRIgnored
unfolding RRIgnored read_as interleaved
rr_ignored v m rr l n es hl hn =
    let a : l_of (rr * 64 + l * 8 + n) ≡ l_of (l * 8 + n) = omega arith in
    let b : n_of (rr * 64 + l * 8 + n) ≡ n_of (l * 8 + n) = omega arith in
    simp (a, b)

pub refusals_part_empty : RefusalsPartEmpty
unfolding RefusalsPartEmpty
refusals_part_empty v f p k r e = refusal-empty _ k r (sym e)
