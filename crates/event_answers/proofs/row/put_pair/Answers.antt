-- `put_pair` meets its contract. Assumes nothing.
use Rattle.event_answers.proofs.Puts.{put_accepted, put_field}
use Rattle.event_answers.proofs.row.put_pair.Goals as goal

pub returns : goal.returns
returns c =
    let r = c.put_last.ensures in
    put_accepted _ _ c.put_accepted-start.ensures.1 (put_field _ _ c.put_field-second.ensures.1 r.1)
