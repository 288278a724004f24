-- Helper: What `finish` leaves in the buffer: a stepping stone of the proof of `feed`.
use Rattle.std.specs.Prelude.{ℕ, ◌+◌, ◌-◌, ◌≤◌, ◌≡◌, List, length}
use Rattle.event_feed.specs.Feed.{turn_bytes}
use Rattle.event_feed.specs.Places.{part}

pub record Filled (from held end r : ℕ) (buf exit : List ℕ) : Type 0 where
  pub least : from + held ≤ r
  pub within : r ≤ length buf
  -- the line that is held is as it was
  pub line : part from held exit ≡ part from held buf
  -- and after it, up to r, stands what the turn feeds
  pub feeds : part (from + held) (r - (from + held)) exit ≡ turn_bytes (part from held buf) (part (from + held) (end - (from + held)) buf)
