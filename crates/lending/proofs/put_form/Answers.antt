-- `lending::put_form` meets its contract.
use Rattle.lending.proofs.LaidLaws.{put-interleaved}
use Rattle.lending.proofs.put_form.Goals as goal

pub returns-in-Interleaved : goal.returns-in-Interleaved
returns-in-Interleaved c = put-interleaved _ _ _ _ c.in-Interleaved.is c.requires
