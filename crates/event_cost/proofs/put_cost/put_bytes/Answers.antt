-- `put_bytes` meets its contract. Assumes nothing.
use native.Mathlib.Omega.{arith}
use Rattle.event_answers.proofs.Puts.{put_accepted}
use Rattle.event_cost.proofs.put_cost.put_bytes.Goals as goal

pub returns : goal.returns
returns c =
    let p = c.put_accepted-start.ensures in
    let q = c.put_last_sum.ensures in
    (omega (arith, p.0, q.0), put_accepted _ _ p.1 q.1)
