-- Rule: What a line does (01, "Upload rectangle, event program"): the call that its event asks for, on the pool as the lines before left it.
use Rattle.std.specs.Prelude.{ℕ, ◌≡◌, Bool, true, cond, List, eqb, replicate}
use Rattle.std.proofs.Math.Option.{Option, none, some}
use Rattle.grid_shapes.specs.declared.shape.VersionShape.{VersionShape}
use Rattle.pool_rules.specs.Model.{UploadFootprint}
use Rattle.pool_memory.specs.Lent.{Lent, lent}
use Rattle.pool_memory.specs.IsPool.{is_pool, sizes_fit}
use Rattle.pool_books.specs.Demand3.{Reply, refusal, done}
use Rattle.pool_books.specs.LentLists.{LentCall, lent_call, opened_lent}
use Rattle.event_lines.specs.declared.event.Event.{Event}
use Rattle.event_sessions.specs.declared.session.Session.{Session}
use Rattle.pool_books.specs.Lists.{between, doomed_call, drain_call, forget_call, note_call, park_call, plan_call, pop_call, regen_call, retire_call, take_call, trim_call, write_call}

-- ---- between two lines

pub record SessionState : Type 0 where
  -- an `open` was accepted
  pub opened : Bool
  -- a take line came after it
  pub taken : Bool
  -- the latest take line's shape
  pub shape : VersionShape
  -- the pool and the lent stores
  pub lent : Lent

abbrev pub state_of : Session → List ℕ → List ℕ → List ℕ → List ℕ → List ℕ → List ℕ → SessionState
state_of s textures retiring doomed spares newest stamps = record {
  opened = eqb s.opened 1;
  taken = eqb s.taken 1;
  shape = s.shape;
  lent = lent s.pool s.book textures retiring doomed spares newest stamps;
}

-- once opened, the stores form a pool
abbrev pub HoldsPool : SessionState → Type 0
HoldsPool s = s.opened ≡ true → is_pool s.lent ≡ true

-- ---- an event

-- a call's reply, and the state with the stores as the call left them
abbrev pub called : SessionState → LentCall → Option Reply × SessionState
called s c =
    (some (lent_call s.lent c).0, record { opened = s.opened; taken = s.taken; shape = s.shape; lent = (lent_call s.lent c).1 })

-- no call is made, and the outcome is "?"
abbrev pub not_called : SessionState → Option Reply × SessionState
not_called s = (none, s)

abbrev pub take_line : SessionState → VersionShape → SessionState
take_line s shape = record { opened = s.opened; taken = true; shape = shape; lent = s.lent }

abbrev pub opened_state : SessionState → ℕ → SessionState
opened_state s working =
    let l = s.lent in
    record {
      opened = true;
      taken = s.taken;
      shape = s.shape;
      lent = opened_lent working l.textures l.retiring l.doomed l.spares l.newest l.stamps;
    }

-- lent memory that is too small or too large for a pool is refused with 1
unfoldable pub opens : SessionState → ℕ → Option Reply × SessionState
opens s working = cond (sizes_fit s.lent) (some done, opened_state s working) (some (refusal 1), s)

-- a call before `open` is none
abbrev pub if_opened : SessionState → Option Reply × SessionState → Option Reply × SessionState
if_opened s r = cond s.opened r (not_called s)

-- `copies` and `views` are the lengths of the two answer buffers. What they hold before a call does not show in its reply (law `any_buffer`),
-- so they are all 0 here.
unfoldable pub line_step : ℕ → ℕ → SessionState → Event → Option Reply × SessionState
line_step copies views s (Event.Open working) = cond s.opened (not_called s) (opens s working)
line_step copies views s (Event.Take id shape records seq) = if_opened s (called (take_line s shape) (take_call id shape records seq))
line_step copies views s (Event.Plan id held slice level cover) =
    let upload : UploadFootprint = record { slice = slice; level = level; cover = cover } in
    if_opened s (cond s.taken (called s (plan_call id s.shape held upload (replicate copies 0))) (not_called s))
line_step copies views s (Event.Retire id view seq) = if_opened s (called s (retire_call id view seq))
line_step copies views s (Event.Write id slice level rect) = if_opened s (called s (between (write_call id slice level rect)))
line_step copies views s (Event.Regen id) = if_opened s (called s (between (regen_call id)))
line_step copies views s (Event.Pop settled) = if_opened s (called s (between (pop_call settled)))
line_step copies views s (Event.Park failed now) = if_opened s (called s (between (park_call failed now)))
line_step copies views s (Event.Note allocated) = if_opened s (called s (between (note_call allocated)))
line_step copies views s Event.Doomed = if_opened s (called s (between (doomed_call (replicate views 0))))
line_step copies views s Event.Drain = if_opened s (called s (between (drain_call (replicate views 0))))
line_step copies views s (Event.Trim now) = if_opened s (called s (between (trim_call now)))
line_step copies views s (Event.Forget id) = if_opened s (called s (between (forget_call id)))
line_step copies views s Event.Unread = not_called s
