-- `call_event` meets its contract: each call is the step of its event. Assumes nothing.
use mathlib.Core.Logic.{inl, inr}
use Rattle.event_sessions.proofs.Steps.{stepped, open_uncalled, unread_uncalled, plan_uncalled}
use Rattle.event_sessions.proofs.call_event.call_event.Goals as goal

pub returns-in-Take : goal.returns-in-Take
returns-in-Take c =
    let a = c.args in
    let m = c.call_take_spare in
    stepped _ _ _ _ _ _ _ _ _ a.event _ c.in-Take.is m.ensures

pub returns-in-Retire : goal.returns-in-Retire
returns-in-Retire c =
    let a = c.args in
    let m = c.call_retire in
    stepped _ _ _ _ _ _ _ _ _ a.event _ c.in-Retire.is m.ensures

pub returns-in-Write : goal.returns-in-Write
returns-in-Write c =
    let a = c.args in
    let m = c.call_note_write in
    stepped _ _ _ _ _ _ _ _ _ a.event _ c.in-Write.is m.ensures

pub returns-in-Regen : goal.returns-in-Regen
returns-in-Regen c =
    let a = c.args in
    let m = c.call_note_mip_regeneration in
    stepped _ _ _ _ _ _ _ _ _ a.event _ c.in-Regen.is m.ensures

pub returns-in-Pop : goal.returns-in-Pop
returns-in-Pop c =
    let a = c.args in
    let m = c.call_pop_retired in
    stepped _ _ _ _ _ _ _ _ _ a.event _ c.in-Pop.is m.ensures

pub returns-in-Park : goal.returns-in-Park
returns-in-Park c =
    let a = c.args in
    let m = c.call_park in
    stepped _ _ _ _ _ _ _ _ _ a.event _ c.in-Park.is m.ensures

pub returns-in-Note : goal.returns-in-Note
returns-in-Note c =
    let a = c.args in
    let m = c.call_note_allocated in
    stepped _ _ _ _ _ _ _ _ _ a.event _ c.in-Note.is m.ensures

pub returns-in-Doomed : goal.returns-in-Doomed
returns-in-Doomed c =
    let a = c.args in
    let m = c.call_take_doomed in
    stepped _ _ _ _ _ _ _ _ _ a.event _ c.in-Doomed.is m.ensures

pub returns-in-Drain : goal.returns-in-Drain
returns-in-Drain c =
    let a = c.args in
    let m = c.call_drain_versions in
    stepped _ _ _ _ _ _ _ _ _ a.event _ c.in-Drain.is m.ensures

pub returns-in-Trim : goal.returns-in-Trim
returns-in-Trim c =
    let a = c.args in
    let m = c.call_trim in
    stepped _ _ _ _ _ _ _ _ _ a.event _ c.in-Trim.is m.ensures

pub returns-in-Forget : goal.returns-in-Forget
returns-in-Forget c =
    let a = c.args in
    let m = c.call_forget_texture in
    stepped _ _ _ _ _ _ _ _ _ a.event _ c.in-Forget.is m.ensures

pub returns-then-taken : goal.returns-then-taken
returns-then-taken c =
    let m = c.call_preserve_plan in
    stepped _ _ _ _ _ _ _ _ _ c.args.event _ c.in-Plan.is (c.if-taken.true, m.ensures)

pub returns-else-taken : goal.returns-else-taken
returns-else-taken c = plan_uncalled _ _ _ _ _ _ _ c.args.event _ _ _ _ _ c.in-Plan.is c.if-taken.false

pub returns-in-Open : goal.returns-in-Open
returns-in-Open c = elim c.in-Open.is [ inl w ↦ open_uncalled _ _ _ _ _ _ _ c.args.event w.0 w.1 | inr w ↦ unread_uncalled _ _ _ _ _ _ _ c.args.event w ]
