-- `lending::put_head` meets its contract.
use Rattle.lending.proofs.LaidLaws.{head-laid}
use Rattle.lending.proofs.put_head.Goals as goal

pub returns : goal.returns
returns c ms rs =
    let poured = rw c.is_some.ensures at c.put_flag-2.ensures in
    head-laid _ _ _ _ _ _ _ _ c.put_flag.ensures c.put_form.ensures c.put_four.ensures poured
    c.put_last.ensures c.fill.ensures
