-- `cost_line` meets its contract: the event's answer, the cost of its copies, and its line of output. Assumes nothing.
use Rattle.event_cost.proofs.Telling.{copies_fit}
use Rattle.event_cost.proofs.Costing.{costed}
use Rattle.event_cost.proofs.cost_line.cost_line.Goals as goal

pub plan_cost-cost-requires : goal.plan_cost-cost-requires
plan_cost-cost-requires c =
    let a = c.answer_event-answered in
    rw c.copy_count.ensures (copies_fit _ _ a.result.answer a.ensures.answered.0)

pub returns-clause-costed : goal.returns-clause-costed
returns-clause-costed c =
    let a = c.answer_event-answered in
    let p = c.put_cost-end in
    costed _ _ c.args.number _ _ c.args.event a.result.answer _ _ a.ensures.answered.1 _ c.copy_count.ensures _ c.plan_cost-cost.ensures
    c.args.sums _ c.add_sums.ensures c.args.filled _ c.args.out.now _ p.ensures
