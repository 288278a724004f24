-- `put_row` meets its contract. Assumes nothing.
use native.Mathlib.Omega.{arith}
use Rattle.base_digits.proofs.Puts.{number_put, number_most}
use Rattle.event_answers.proofs.Puts.{put_row}
use Rattle.event_answers.proofs.row.put_row.Goals as goal

pub put_last-requires : goal.put_last-requires
put_last-requires c = omega (arith, number_most _ _ _ c.put_number-start.ensures.0)

pub returns : goal.returns
returns c =
    let p = c.put_number-start.ensures in
    let q = c.put_last.ensures in
    (omega (arith, number_most _ _ _ p.0, q.0), put_row _ _ (number_put _ _ _ p) q.1)
