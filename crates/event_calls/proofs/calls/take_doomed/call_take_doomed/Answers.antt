-- `call_doomed` meets its contract: the call, with its answer as a line's. Assumes nothing.
use Rattle.pool_take_doomed.specs.Answer.{handed_told}
use Rattle.event_calls.proofs.Buffers.{made_doomed}
use Rattle.event_calls.proofs.calls.take_doomed.call_take_doomed.Goals as goal

pub returns : goal.returns
returns c =
    let m = c.take_doomed-said in
    let s = c.answer_handed in
    let a = c.args in
    made_doomed _ _ a.views.now _ (handed_told m.result.handed) _ s.ensures m.ensures
