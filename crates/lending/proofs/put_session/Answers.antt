-- `lending::put_session` meets its contract.
use mathlib.Core.Path.{◌≡◌}
use lib.ListN.{length}
use borrow.Author.Rules.{rules}
use Rattle.lending.proofs.PartsLaws.{session-laid}
use Rattle.lending.proofs.put_session.Goals as goal

pub returns : goal.returns
returns c = let held : length c.args.standing.held ≡ 8 = search rules in
    session-laid _ _ _ held c.requires.1 c.requires.0 _ _ (c.put_front.ensures _) c.fill.ensures
