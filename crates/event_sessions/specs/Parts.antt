-- Helper: What the parts of a line's step do.
use Rattle.std.specs.Prelude.{ℕ, ◌≡◌, Bool, true, List}
use Rattle.std.proofs.Math.Option.{Option}
use Rattle.grid_shapes.specs.declared.shape.VersionShape.{VersionShape}
use Rattle.pool_memory.specs.declared.pool.Pool.{Pool}
use Rattle.pool_memory.specs.declared.book.PacingBook.{PacingBook}
use Rattle.pool_memory.specs.Lent.{Lent}
use Rattle.pool_books.specs.Demand3.{Reply}
use Rattle.event_lines.specs.declared.event.Event.{Event}
use Rattle.event_answers.specs.Answers.{reply_told, InBuffers}
use Rattle.event_answers.specs.declared.answer.Answer.{Answer}
use Rattle.event_sessions.specs.declared.session.Session.{Session}
use Rattle.event_sessions.specs.Sessions.{SessionState, line_step}
use Rattle.event_sessions.specs.Noted.{taken_after, shape_after}

-- ---- an opened session

abbrev pub session_opened : Bool → VersionShape → Lent → SessionState
session_opened taken shape l = record { opened = true; taken = taken; shape = shape; lent = l }

unfoldable pub session_after : ℕ → VersionShape → Pool → PacingBook → Event → Session
session_after taken latest pool book e =
    record { opened = 1; taken = taken_after 1 taken e; pool = pool; book = book; shape = shape_after latest e }

-- the answer of an event with buffers of `copies` and `views` numbers, and the stores at exit, are those of its step
unfoldable pub Stepped : ℕ → ℕ → SessionState → Event → Answer → List ℕ → List ℕ → Lent → Type 0
Stepped copies views s e a copiesExit viewsExit exit =
    InBuffers a copiesExit viewsExit × (reply_told a copiesExit viewsExit ≡ (line_step copies views s e).0) × (exit ≡ (line_step copies views s e).1.lent)

-- ---- a session that is not opened: its answers need no buffer

unfoldable pub SaysOnly : Answer → SessionState → Option Reply × SessionState → Type 0
SaysOnly a exit r = (copies views : List ℕ) → InBuffers a copies views × ((reply_told a copies views, exit) ≡ r)

unfoldable pub AnsweredAlone : Answer → SessionState → SessionState → Event → Type 0
AnsweredAlone a exit s e = (copies views : ℕ) → SaysOnly a exit (line_step copies views s e)
