-- `call_pop` meets its contract: the call, with its answer as a line's. Assumes nothing.
use Rattle.pool_retire.specs.Answers.{popped_told}
use Rattle.event_calls.proofs.Alone.{made_pop}
use Rattle.event_calls.proofs.calls.pop_retired.call_pop_retired.Goals as goal

pub returns : goal.returns
returns c =
    let m = c.pop_retired-said in
    let s = c.answer_popped in
    let a = c.args in
    made_pop _ _ (popped_told m.result.popped) a.settled m.ensures _ s.ensures
