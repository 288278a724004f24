-- Rule: A session before its first line, and what it notes of a line: that a take line came, and the latest one's shape.
use Rattle.grid_shapes.specs.declared.shape.VersionShape.{VersionShape}
use Rattle.pool_memory.specs.Calls.{opened_pool, opened_book}
use Rattle.event_lines.specs.declared.event.Event.{Event}
use Rattle.event_sessions.specs.declared.session.Session.{Session}

-- ---- before the first line

unfoldable pub no_shape : VersionShape
no_shape = record {
  format = 0;
  width = 0;
  height = 0;
  depth = 0;
  levels = 0;
  kind = 0;
  storage = 0;
  usage = 0;
  red = 0;
  green = 0;
  blue = 0;
  alpha = 0;
}

-- nothing opened
unfoldable pub fresh_session : Session
fresh_session = record { opened = 0; taken = 0; pool = opened_pool 0; book = opened_book; shape = no_shape }

-- ---- what is noted of a line

-- that a take line came, as true or as 1
abbrev pub taken_after : {A : Type 0} → A → A → Event → A
taken_after noted taken (Event.Take id shape records seq) = noted
taken_after noted taken (Event.Open working) = taken
taken_after noted taken (Event.Plan id held slice level cover) = taken
taken_after noted taken (Event.Retire id view seq) = taken
taken_after noted taken (Event.Write id slice level rect) = taken
taken_after noted taken (Event.Regen id) = taken
taken_after noted taken (Event.Pop settled) = taken
taken_after noted taken (Event.Park failed now) = taken
taken_after noted taken (Event.Note allocated) = taken
taken_after noted taken Event.Doomed = taken
taken_after noted taken Event.Drain = taken
taken_after noted taken (Event.Trim now) = taken
taken_after noted taken (Event.Forget id) = taken
taken_after noted taken Event.Unread = taken

-- the latest take line's shape, which plans go by
abbrev pub shape_after : VersionShape → Event → VersionShape
shape_after latest (Event.Take id shape records seq) = shape
shape_after latest (Event.Open working) = latest
shape_after latest (Event.Plan id held slice level cover) = latest
shape_after latest (Event.Retire id view seq) = latest
shape_after latest (Event.Write id slice level rect) = latest
shape_after latest (Event.Regen id) = latest
shape_after latest (Event.Pop settled) = latest
shape_after latest (Event.Park failed now) = latest
shape_after latest (Event.Note allocated) = latest
shape_after latest Event.Doomed = latest
shape_after latest Event.Drain = latest
shape_after latest (Event.Trim now) = latest
shape_after latest (Event.Forget id) = latest
shape_after latest Event.Unread = latest
