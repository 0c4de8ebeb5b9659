-- `entries::write_cleared` meets its contract. The invariant: the first i octets stand in out from `at` on, and what is left of them is
-- what the rest clears to, behind `left` octets of a body. Assumes nothing.
use Prim.Native.Nat.{◌+◌}
use mathlib.Core.Path.{refl, ap, ◌∙◌}
use native.Mathlib.Omega.{arith}
use lib.Seq.{paste-zero}
use lib.ListN.{set}
use Rattle.octets.proofs.OctetsLaws.{copy_more, copy-all}
use Rattle.entries.specs.Kind.{kind_of}
use Rattle.entries.specs.Entries.{cleared}
use Rattle.entries.proofs.Clearing.{length-cleared, kept, clears-octet}
use Rattle.entries.proofs.write_cleared.Goals as goal
use Rattle.entries.proofs.write_cleared.Goals.{then-left-gt0, else-left-gt0}

pub loop-i-init : goal.loop-i-init
loop-i-init c = (paste-zero c.args.out.now c.args.at (cleared (kind_of c.args.vocoder) 0 c.args.entries.now), refl)

pub loop-i-preserved : goal.loop-i-preserved
loop-i-preserved c =
    let es = cleared (kind_of c.args.vocoder) 0 c.args.entries.now in
    let n = length-cleared (kind_of c.args.vocoder) 0 c.args.entries.now in
    let more = copy_more c.args.out.now c.args.at es _ c.loop-i.i c.loop-i.invariant.0 (omega arith) (omega arith) in
    elim c.if-left-gt0.branch [
      | then-left-gt0 w ↦
          let x = kept _ c.args.entries.now c.loop-i.i c.loop-i-test.true c.loop-i.left c.loop-i.invariant.1 w.if-left-gt0.true in
          (w.out-is ∙ ap (set c.loop-i.out (c.args.at + c.loop-i.i)) x.here ∙ more, rw w.left-is x.rest)
      | else-left-gt0 w ↦
          let x = clears-octet _ c.args.entries.now c.loop-i.i c.loop-i-test.true c.loop-i.left c.loop-i.invariant.1 w.if-left-gt0.false in
          (w.out-is ∙ ap (set c.loop-i.out (c.args.at + c.loop-i.i)) x.here ∙ more, rw (w.left-is, w.body_size-left.ensures) x.rest)
    ]

pub returns : goal.returns
returns c =
    let n = length-cleared (kind_of c.args.vocoder) 0 c.args.entries.now in
    copy-all _ _ _ _ _ c.loop-i.invariant.0 (omega arith) (omega arith)
