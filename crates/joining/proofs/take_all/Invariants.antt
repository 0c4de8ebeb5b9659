-- `joining::take_all` meets its contract. The invariant: the packets before n are taken.
use mathlib.Core.Path.{◌≡◌}
use Rattle.frame.specs.Shape.{shape_of}
use Rattle.holding.specs.Group.{Spans}
use Rattle.joining.specs.Joining.{take_below, unnumbered, unnumbered_of}
use Rattle.joining.proofs.take_all.Given as goal

abbrev pub invariant-loop-n : goal.invariant-loop-n
invariant-loop-n l = Spans (shape_of l.vocoder) l.held l.marks l.room
    × (unnumbered l.held l.marks l.room ≡ take_below (shape_of l.vocoder) (unnumbered l.initial.held l.initial.marks l.initial.room) (unnumbered_of l.from) l.n)
