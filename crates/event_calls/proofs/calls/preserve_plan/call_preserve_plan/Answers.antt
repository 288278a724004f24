-- `call_plan` meets its contract: the call, with its answer as a line's. Assumes nothing.
use Rattle.pool_preserve_plan.specs.PreservePlan.{planned_told}
use Rattle.event_calls.proofs.Buffers.{made_plan}
use Rattle.event_calls.proofs.calls.preserve_plan.call_preserve_plan.Goals as goal

pub returns : goal.returns
returns c =
    let m = c.preserve_plan-said in
    let s = c.answer_planned in
    let a = c.args in
    made_plan _ _ a.copies.now _ (planned_told m.result) a.id a.shape a.held (record { slice = a.slice; level = a.level; cover = a.cover }) m.ensures _ s.ensures
