-- `put_accepted` meets its contract. Assumes nothing.
use native.Mathlib.Omega.{arith}
use lib.ListN.{length-set}
use Rattle.base_digits.proofs.Puts.{put_after_two, number_put, number_most}
use Rattle.event_answers.proofs.row.put_accepted.Goals as goal

pub bounds-out-start : goal.bounds-out-start
bounds-out-start c = omega (arith, number_most _ _ _ c.put_number-start.ensures.0)

pub overflow_add-out : goal.overflow_add-out
overflow_add-out c = omega (arith, number_most _ _ _ c.put_number-start.ensures.0)

pub bounds-out-start-2 : goal.bounds-out-start-2
bounds-out-start-2 c = simp length-set (omega (arith, number_most _ _ _ c.put_number-start.ensures.0))

pub overflow_add-result : goal.overflow_add-result
overflow_add-result c = omega (arith, number_most _ _ _ c.put_number-start.ensures.0)

pub returns : goal.returns
returns c =
    let p = c.put_number-start.ensures in
    (omega (arith, number_most _ _ _ p.0), put_after_two 44 48 (number_put _ _ _ p))
