-- `put_cost` meets its contract. Assumes nothing.
use borrow.Author.Rules.{rules}
use mathlib.Core.Path.{sym, ◌∙◌}
use Rattle.base_digits.proofs.Puts.{put_as}
use Rattle.event_cost.proofs.Telling.{put_no_plan, plan_told}
use Rattle.event_cost.proofs.put_cost.put_cost.Goals as goal

pub returns-then-is_plan : goal.returns-then-is_plan
returns-then-is_plan c =
    let a = c.args in
    let p = c.put_plan.ensures in
    (p.0, put_as (plan_told a.number a.bytes a.event a.answer (sym c.is_plan.ensures ∙ c.if-is_plan.true)) p.1)

pub returns : goal.returns
returns c =
    let a = c.args in
    (search rules, put_no_plan a.number a.bytes a.event a.answer a.out.now a.at (sym c.is_plan.ensures ∙ c.if-is_plan.false))
