-- `session::lay_in` meets its contract.
use Prim.Native.Nat.{◌*◌}
use mathlib.Core.Path.{◌≡◌, ap, ◌∙◌}
use lib.ListN.{length}
use borrow.Author.Rules.{rules}
use Rattle.octets.specs.Octets.{over}
use Rattle.octets.proofs.OctetsLaws.{put-over}
use Rattle.bundle.specs.declared.Bundle.{Bundle}
use Rattle.session.proofs.lay_in.Goals as goal

pub returns : goal.returns
returns c =
    let ms = c.lay_frames.new.marks in
    let rs = c.lay_frames.new.room in
    let m : length ms ≡ 10 = search rules in
    let r : length rs ≡ 220 = search rules in
    let i = 10 * c.args.n in
    let j = 220 * c.args.n in (
      put-over c.args.marks.now ms i 10 m ∙ ap (over c.args.marks.now i) (ap (λ (p : Bundle). p.marks) c.lay_frames.ensures),
      put-over c.args.room.now rs j 220 r ∙ ap (over c.args.room.now j) (ap (λ (p : Bundle). p.room) c.lay_frames.ensures),
    )
