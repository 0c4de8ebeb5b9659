-- `lending::drop_group` meets its contract.
use mathlib.Core.Path.{refl, sym, ◌∙◌}
use Rattle.lending.proofs.CallsLaws.{group-held, drop-none, drop-done}
use Rattle.lending.proofs.PartsLaws.{open-there, session-long, found, ended-in}
use Rattle.lending.proofs.drop_group.Goals as goal

pub returns-then-not-has_group : goal.returns-then-not-has_group
returns-then-not-has_group c = drop-none _ _ (sym c.has_group.ensures ∙ c.if-not-has_group.true)

pub standing_at-standing-requires : goal.standing_at-standing-requires
standing_at-standing-requires c = session-long _ (open-there _ (group-held _ _ (sym c.has_group.ensures ∙ c.if-not-has_group.false)).0)

pub put_vacant-requires : goal.put_vacant-requires
put_vacant-requires c =
    session-long _ (open-there _ (group-held _ _ (sym c.has_group.ensures ∙ c.if-not-has_group.false)).0)

pub returns : goal.returns
returns c =
    let held = sym c.has_group.ensures ∙ c.if-not-has_group.false in
    let opened = (group-held _ _ held).0 in
    let there = found _ _ _ opened c.standing_at-standing.ensures refl in
    drop-done _ _ held _ (ended-in _ _ _ there _ _ c.end_group.ensures c.put_vacant.ensures)
