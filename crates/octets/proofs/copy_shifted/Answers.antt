-- `octets::copy_shifted` meets its contract. The invariant: the first i octets of src, shifted, stand in dst from `at` on, and nothing else has changed.
use Rattle.std.proofs.Common.{map, refl, arith}
use lib.Seq.{paste-zero}
use Rattle.octets.specs.Octets.{shifted}
use Rattle.octets.proofs.OctetsLaws.{change-more, change-all}
use Rattle.octets.proofs.copy_shifted.Goals as goal

pub loop-i-init : goal.loop-i-init
loop-i-init c = paste-zero c.args.dst.now c.args.at (map (shifted c.args.by) c.args.src.now)

pub loop-i-preserved : goal.loop-i-preserved
loop-i-preserved c =
    change-more (shifted c.args.by) 0 c.args.dst.now c.args.at c.args.src.now _ c.loop-i.i _ c.loop-i.invariant c.requires c.loop-i-test.true refl

pub returns : goal.returns
returns c =
    change-all (shifted c.args.by) c.args.dst.now c.args.at c.args.src.now _ _ c.loop-i.invariant c.loop-i.auto.i-end (omega arith)
