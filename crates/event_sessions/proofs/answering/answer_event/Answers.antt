-- `answer_event` meets its contract. Assumes nothing.
use borrow.Author.Tests.{eq-eqb, ne_eqb}
use lib.ListN.{length}
use Rattle.event_sessions.proofs.Opened.{alone_answers, opened_answers}
use Rattle.event_sessions.proofs.answering.answer_event.Goals as goal

pub answer_unopened-requires : goal.answer_unopened-requires
answer_unopened-requires c = ne_eqb _ 1 c.if-session-ne1.true

pub returns-then-session-ne1-clause-answered : goal.returns-then-session-ne1-clause-answered
returns-then-session-ne1-clause-answered c =
    let a = c.args in
    alone_answers _ _ _ _ _ _ _ _ c.answer_unopened.ensures

pub call_event-called-requires : goal.call_event-called-requires
call_event-called-requires c = c.requires (eq-eqb _ 1 c.if-session-ne1.false)

pub session_after-requires : goal.session_after-requires
session_after-requires c = tt

pub returns-clause-answered : goal.returns-clause-answered
returns-clause-answered c =
    let a = c.args in
    let t = a.stores.now in
    let m = c.call_event-called in
    opened_answers a.session t.textures.now t.retiring.now t.doomed.now t.spares.now t.newest.now t.stamps.now a.event (length t.copies.now) (length t.views.now) _ _ _ _ _ _ _ _ _ _ _ _
    c.if-session-ne1.false m.ensures c.session_after.ensures
