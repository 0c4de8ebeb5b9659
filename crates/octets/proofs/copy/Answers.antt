-- `octets::copy` meets its contract. The invariant: the first i octets of src stand in dst from `at` on, and nothing else has changed.
use Rattle.std.proofs.Common.{arith}
use lib.Seq.{paste-zero}
use Rattle.octets.proofs.OctetsLaws.{copy_more, copy-all}
use Rattle.octets.proofs.copy.Goals as goal

pub loop-i-init : goal.loop-i-init
loop-i-init c = paste-zero c.args.dst.now c.args.at c.args.src.now

pub loop-i-preserved : goal.loop-i-preserved
loop-i-preserved c =
    copy_more c.args.dst.now c.args.at c.args.src.now _ c.loop-i.i c.loop-i.invariant c.requires c.loop-i-test.true

pub returns : goal.returns
returns c = copy-all c.args.dst.now c.args.at c.args.src.now _ _ c.loop-i.invariant c.loop-i.auto.i-end (omega arith)
