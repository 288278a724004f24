-- `plan_cost` meets its contract: the sums are those of the copies before i. Assumes nothing.
use mathlib.Core.Path.{ap, ◌∙◌}
use Rattle.event_answers.proofs.Answering.{copy_from}
use Rattle.event_cost.specs.Costs.{no_sums, copy_sums}
use Rattle.event_cost.proofs.Clipping.{copies_none, copies_next}
use Rattle.event_cost.proofs.plan_cost.plan_cost.Goals as goal

pub loop-i-init : goal.loop-i-init
unfolding no_sums
loop-i-init c = copies_none c.args.shape c.args.copies.now

pub loop-i-preserved : goal.loop-i-preserved
loop-i-preserved c =
    let l = c.loop-i in
    let a = c.args in
    copies_next a.shape a.copies.now l.i l.sums _ _ l.invariant (c.copy_cost-cost.ensures ∙ ap (copy_sums a.shape) (copy_from a.copies.now l.i)) c.add_sums-sums.ensures
