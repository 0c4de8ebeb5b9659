-- `frame::low_bits` meets its contract. Assumes nothing.
use Prim.Native.Nat.{ℕ, ◌%◌}
use mathlib.Core.Path.{ap}
use lib.Pow.{pow_pos}
use Rattle.frame.proofs.FrameTableLaws.{all-bits, unit}
use Rattle.frame.proofs.low_bits.Goals as goal

pub returns-then-bits-ge8 : goal.returns-then-bits-ge8
returns-then-bits-ge8 c = all-bits _ _ c.ranges.octet.fits c.if-bits-ge8.true

pub nonzero_rem-result : goal.nonzero_rem-result
nonzero_rem-result c = rw (unit _ c.if-bits-ge8.false) (pow_pos _)

pub returns : goal.returns
returns c = ap (λ (u : ℕ). c.args.octet % u) (unit _ c.if-bits-ge8.false)
