-- `call_drain` meets its contract: the call, with its answer as a line's. Assumes nothing.
use Rattle.pool_take_doomed.specs.Answer.{handed_told}
use Rattle.event_calls.proofs.Buffers.{made_drain}
use Rattle.event_calls.proofs.calls.drain_versions.call_drain_versions.Goals as goal

pub returns : goal.returns
returns c =
    let m = c.drain_versions-said in
    let s = c.answer_handed in
    let a = c.args in
    made_drain _ _ a.views.now _ (handed_told m.result.handed) _ s.ensures m.ensures
