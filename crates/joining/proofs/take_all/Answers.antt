-- `joining::take_all` meets its contract. The invariant: the packets before n are taken.
use mathlib.Core.Path.{refl, ◌∙◌}
use Rattle.joining.specs.Joining.{take_below}
use Rattle.joining.proofs.JoiningLaws.{take_more}
use Rattle.joining.proofs.take_all.Goals as goal

pub loop-n-init : goal.loop-n-init
unfolding take_below
loop-n-init c =
    (c.requires.0, refl)

pub loop-n-preserved : goal.loop-n-preserved
loop-n-preserved c = (
  record {
    long_held = c.take_one.auto.held ∙ c.loop-n.invariant.0.long_held;
    long_marks = c.take_one.auto.marks ∙ c.loop-n.invariant.0.long_marks;
    long_room = c.take_one.auto.room ∙ c.loop-n.invariant.0.long_room;
  },
  take_more _ _ _ _ _ _ c.loop-n.invariant.1 c.take_one.ensures,
)
