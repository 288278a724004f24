-- Rule: What a list of events leaves to be printed (02, W-202): the sheet of its pool where it opened one, and nothing where it did not.
use Rattle.std.specs.Prelude.{ℕ, cond, List, []}
use Rattle.pool_memory.specs.Lent.{Slice}
use Rattle.pool_sheet.specs.PrintSheet.{sheet_of}
use Rattle.event_sessions.specs.declared.session.Session.{Session}
use Rattle.event_sessions.specs.Sessions.{SessionState, state_of}

unfoldable pub sheet_text : SessionState → List ℕ
sheet_text s = cond s.opened (sheet_of s.lent) []

-- the state as a contract names it: with the lent slices as they were when the call was made
abbrev pub state_at_entry : Session → Slice → Slice → Slice → Slice → Slice → Slice → SessionState
state_at_entry s textures retiring doomed spares newest stamps =
    state_of s textures retiring doomed spares newest stamps
