-- `lending::put_flags` meets its contract. The invariant: the first i flags are laid out, and nothing else has changed.
use mathlib.Core.Bool.{false}
use native.Mathlib.Omega.{arith}
use lib.ListN.{length-set}
use Rattle.octets.proofs.OctetsLaws.{change-more, change-all}
use Rattle.lending.specs.Laid.{flag_octet}
use Rattle.lending.proofs.put_flags.Goals as goal

pub loop-i-preserved : goal.loop-i-preserved
loop-i-preserved c = (
  simp length-set c.loop-i.invariant.0,
  change-more flag_octet false c.args.out.now c.args.at c.args.flags.now _ c.loop-i.i _
      c.loop-i.invariant.1 c.requires c.loop-i-test.true c.flag.ensures,
)

pub returns : goal.returns
returns c =
    change-all flag_octet c.args.out.now c.args.at c.args.flags.now _ c.loop-i.i c.loop-i.invariant.1 (omega arith) (omega arith)
