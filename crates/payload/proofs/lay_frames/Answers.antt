-- `payload::lay_frames` meets its contract.
use mathlib.Core.Path.{sym, ap, ◌∙◌}
use Rattle.frame.specs.Shape.{holding_shape, shape_of}
use Rattle.frame.specs.declared.Vocoder.TheVariants.{Evrc}
use Rattle.frame.proofs.FrameTableLaws.{rows-single}
use Rattle.bundle.specs.LaidOut.{laid}
use Rattle.payload.proofs.LayingOut.{cleared, laid-empty, read-along}
use Rattle.payload.proofs.lay_frames.Goals as goal

pub returns-then-b-eq0 : goal.returns-then-b-eq0
returns-then-b-eq0 c =
    cleared holding_shape _ _ _ _ c.requires.1 c.requires.2 c.fill.ensures c.fill-2.ensures ∙ laid-empty holding_shape _ (sym c.requires.0 ∙ c.if-b-eq0.true)

pub lay_body-requires : goal.lay_body-requires
unfolding shape_of
lay_body-requires c =
    cleared holding_shape _ _ _ _ c.requires.1 c.requires.2 c.fill.ensures c.fill-2.ensures

pub lay_entries-requires : goal.lay_entries-requires
unfolding shape_of
lay_entries-requires c =
    let a = read-along _ (rows-single Evrc) _ _ _ (rw c.in-Interleaved.is at c.requires.0) c.if-b-eq0.false in
    (a.few, a.fits, cleared holding_shape _ _ _ _ c.requires.1 c.requires.2 c.fill.ensures c.fill-2.ensures)

pub returns-in-HeaderFree : goal.returns-in-HeaderFree
unfolding shape_of
returns-in-HeaderFree c =
    rw c.in-HeaderFree.is c.lay_body.ensures

pub returns-in-Interleaved : goal.returns-in-Interleaved
unfolding shape_of
returns-in-Interleaved c =
    let a = read-along _ (rows-single Evrc) _ _ _ (rw c.in-Interleaved.is at c.requires.0) c.if-b-eq0.false in
    rw c.in-Interleaved.is (c.lay_entries.ensures ∙ ap (laid holding_shape) a.frames)
