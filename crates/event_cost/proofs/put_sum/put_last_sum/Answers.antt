-- `put_last_sum` meets its contract. Assumes nothing.
use borrow.Author.Rules.{rules}
use Rattle.base_digits.proofs.Puts.{put_after}
use Rattle.event_answers.specs.Ended.{fields_ended}
use Rattle.event_cost.proofs.put_sum.put_last_sum.Goals as goal

pub returns : goal.returns
unfolding fields_ended
returns c =
    let p = c.put_sum-end.ensures in
    (search rules, put_after 10 p.1)
