-- `put_count` meets its contract. Assumes nothing.
use native.Mathlib.Omega.{arith}
use Rattle.event_answers.proofs.Puts.{put_accepted}
use Rattle.event_answers.proofs.row.put_count.Goals as goal

pub returns : goal.returns
returns c =
    let p = c.put_accepted-start.ensures in
    let q = c.put_last.ensures in
    (omega (arith, p.0, q.0), put_accepted _ _ p.1 q.1)
