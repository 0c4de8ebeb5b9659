-- `entries::seek` meets its contract. The invariant: the place of the entry that is come to. Assumes nothing.
use mathlib.Core.Path.{◌≡◌}
use lib.ListN.{take}
use Rattle.frame.specs.Places.{taken}
use Rattle.entries.specs.declared.Rule.TheVariants.{Any}
use Rattle.entries.specs.Kind.{kind_of}
use Rattle.entries.specs.Entries.{entries_in, frames_in}
use Rattle.entries.proofs.seek.Given as goal

abbrev pub invariant-loop : goal.invariant-loop
invariant-loop l = l.at ≡ taken 1 (take l.counter (frames_in (entries_in (kind_of l.vocoder) Any l.entries)))
