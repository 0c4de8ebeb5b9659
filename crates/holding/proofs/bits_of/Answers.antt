-- `holding::bits_of` meets its contract. The invariant: bits is the number of the flags from n on.
use Rattle.std.proofs.Common.{◌∙◌}
use Rattle.holding.proofs.AskedLaws.{bits_none, bits_below, bits-more}
use Rattle.holding.proofs.bits_of.Goals as goal

pub loop-n-init : goal.loop-n-init
loop-n-init c = bits_none c.args.set.now

pub with_bit-bits-requires : goal.with_bit-bits-requires
with_bit-bits-requires c = bits_below _ _ _ c.loop-n.invariant c.requires c.loop-n-test.true

pub loop-n-preserved : goal.loop-n-preserved
loop-n-preserved c = c.with_bit-bits.ensures ∙ bits-more _ _ _ c.loop-n.invariant c.loop-n-test.true c.loop-n.auto.n
