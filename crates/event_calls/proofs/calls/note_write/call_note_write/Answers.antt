-- `call_write` meets its contract: the call, with its answer as a line's. Assumes nothing.
use Rattle.grid_shapes.specs.Outcomes.{outcome_number}
use Rattle.pool_memory.specs.Calls.{told_number}
use Rattle.event_calls.proofs.Alone.{made_write}
use Rattle.event_calls.proofs.calls.note_write.call_note_write.Goals as goal

pub returns : goal.returns
returns c =
    let m = c.note_write-said in
    let s = c.answer_done in
    let a = c.args in
    made_write _ _ (told_number (outcome_number m.result.outcome)) _ s.ensures a.id a.slice a.level a.rect m.ensures
