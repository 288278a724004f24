-- `call_note` meets its contract: the call, with its answer as a line's. Assumes nothing.
use Rattle.grid_shapes.specs.Outcomes.{outcome_number}
use Rattle.pool_memory.specs.Calls.{told_number}
use Rattle.event_calls.proofs.Alone.{made_note}
use Rattle.event_calls.proofs.calls.note_allocated.call_note_allocated.Goals as goal

pub returns : goal.returns
returns c =
    let m = c.note_allocated-said in
    let s = c.answer_done in
    let a = c.args in
    made_note _ _ (told_number (outcome_number m.result.outcome)) _ s.ensures a.allocated m.ensures
