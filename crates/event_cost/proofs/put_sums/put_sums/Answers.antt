-- `put_sums` meets its contract. Assumes nothing.
use mathlib.Core.List.{[], ◌∷◌}
use native.Mathlib.Omega.{arith}
use Rattle.base_digits.proofs.Puts.{put_as, put_then, text_put}
use Rattle.event_answers.proofs.Puts.{fields_ended_lem, put_field}
use Rattle.event_cost.specs.Costs.{sum_field, sum_row}
use Rattle.event_cost.proofs.put_sums.put_sums.Goals as goal

pub returns : goal.returns
unfolding sum_row
returns c =
    let a = c.args in
    let t = c.put_text-start.ensures in
    let p = c.put_sum-second.ensures in
    let q = c.put_last_sum.ensures in
    (omega (arith, t.0, p.0, q.0), put_then (text_put _ _ (115 ∷ 117 ∷ 109 ∷ []) t) (put_as (fields_ended_lem (sum_field a.sums.moved ∷ sum_field a.sums.whole ∷ [])) (put_field _ _ p.1 q.1)))
