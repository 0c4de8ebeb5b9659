-- `pouring::pour_held` meets its contract.
use Rattle.std.proofs.Common.{ap, arith}
use Rattle.numbers.specs.declared.GroupNumbers.{GroupNumbers}
use Rattle.holding.specs.Group.{voice_in}
use Rattle.holding.proofs.GroupLaws.{sound-has, holds-sound}
use Rattle.pouring.proofs.PouringLaws.{poured-held}
use Rattle.pouring.proofs.pour_held.Goals as goal

pub pour_held_in-requires : goal.pour_held_in-requires
pour_held_in-requires c =
    let s = sound-has (voice_in c.args.h) c.args.h (holds-sound (voice_in c.args.h) c.args.h c.requires).0 in
    let parts = c.parts.ensures.3 in
    let l = ap (λ (g : GroupNumbers). g.l) c.numbers_of.ensures in
    let b = ap (λ (g : GroupNumbers). g.b) c.numbers_of.ensures in
    ((parts.long_marks, parts.long_room), omega (arith, l, s.low), omega (arith, b, s.few))

pub returns : goal.returns
returns c =
    let l = ap (λ (g : GroupNumbers). g.l) c.numbers_of.ensures in
    let b = ap (λ (g : GroupNumbers). g.b) c.numbers_of.ensures in
    poured-held (voice_in c.args.h) c.args.h _ _ _ _ _ _ _ c.pour_held_in.ensures (omega (arith, l)) (omega (arith, b)) c.parts.ensures.1 c.parts.ensures.2
