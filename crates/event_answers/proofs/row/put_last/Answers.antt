-- `put_last` meets its contract. Assumes nothing.
use borrow.Author.Rules.{rules}
use Rattle.event_answers.specs.Ended.{fields_ended}
use Rattle.base_digits.proofs.Puts.{put_after}
use Rattle.event_answers.proofs.row.put_last.Goals as goal

pub returns : goal.returns
unfolding fields_ended
returns c =
    let p = c.put_field-end.ensures in
    (search rules, put_after 10 p.1)
