-- `answer_unopened` meets its contract. Assumes nothing.
use Rattle.event_sessions.proofs.Opened.{open_alone, none_alone}
use Rattle.event_sessions.proofs.opening.answer_unopened.Goals as goal

pub returns-in-Open : goal.returns-in-Open
returns-in-Open c =
    let m = c.open_session in
    open_alone _ c.requires _ _ c.args.event _ c.in-Open.is m.ensures

pub returns-in_default : goal.returns-in_default
returns-in_default c = none_alone _ c.requires c.args.event c.in_default.not-Open
