-- `call_take` meets its contract: the call, with its answer as a line's. Assumes nothing.
use Rattle.pool_take_spare.specs.Answer.{taken_told}
use Rattle.event_calls.proofs.Alone.{made_take}
use Rattle.event_calls.proofs.calls.take_spare.call_take_spare.Goals as goal

pub returns : goal.returns
returns c =
    let m = c.take_spare-said in
    let s = c.answer_taken in
    let a = c.args in
    made_take _ _ (taken_told m.result.taken) a.id a.shape a.records a.seq m.ensures _ s.ensures
