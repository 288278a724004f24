-- `call_retire` meets its contract: the call, with its answer as a line's. Assumes nothing.
use Rattle.grid_shapes.specs.Outcomes.{outcome_number}
use Rattle.pool_memory.specs.Calls.{told_number}
use Rattle.event_calls.proofs.Alone.{made_retire}
use Rattle.event_calls.proofs.calls.retire.call_retire.Goals as goal

pub returns : goal.returns
returns c =
    let m = c.retire-said in
    let s = c.answer_done in
    let a = c.args in
    made_retire _ _ (told_number (outcome_number m.result.outcome)) _ s.ensures a.id a.view a.seq m.ensures
