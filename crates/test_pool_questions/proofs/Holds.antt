-- Once opened, the stores form a pool after every line. Assumes nothing.
use Prim.Native.Nat.{ℕ}
use mathlib.Core.Path.{◌≡◌, sym, subst}
use mathlib.Core.Option.{Option}
use mathlib.Core.List.{List}
use Rattle.pool_books.specs.Demand3.{Reply}
use Rattle.event_lines.specs.declared.event.Event.{Event}
use Rattle.event_sessions.specs.declared.session.Session.{Session}
use Rattle.event_sessions.specs.Noted.{fresh_session}
use Rattle.event_sessions.specs.Sessions.{SessionState, state_of, HoldsPool, line_step}
use Rattle.event_sessions.proofs.Keeps.{fresh_holds, step_keeps}

-- in a session that begins nothing is opened
pub begun_holds : (session : Session) (textures retiring doomed spares newest stamps : List ℕ) → session ≡ fresh_session
    → HoldsPool (state_of session textures retiring doomed spares newest stamps)
begun_holds session textures retiring doomed spares newest stamps e =
    subst (λ (s : Session). HoldsPool (state_of s textures retiring doomed spares newest stamps)) (sym e)
    (fresh_holds textures retiring doomed spares newest stamps)

-- after an event
pub event_holds : (copies views : ℕ) (before after : SessionState) (event : Event) (reply : Option Reply)
    → (reply, after) ≡ line_step copies views before event → HoldsPool before → HoldsPool after
event_holds copies views before after event reply e h =
    subst (λ (r : Option Reply × SessionState). HoldsPool r.1) (sym e) (step_keeps copies views before event h)
