-- Helper: What `rest_of` leaves in the buffer: a stepping stone of the proof of `feed`.
use Rattle.std.specs.Prelude.{ℕ, ◌+◌, ◌-◌, ◌≤◌, ◌<◌, ◌≡◌, List, length, take}
use Rattle.event_feed.specs.declared.rest_of.Place.{Place}
use Rattle.event_feed.specs.FeedConstants.{kept_bytes}
use Rattle.event_feed.specs.Places.{part}

pub record RestOf (from end ran : ℕ) (r : Place) (buf exit : List ℕ) : Type 0 where
  -- no line is whole: its first bytes are kept, and nothing waits
  pub none : ran ≡ 0 → (r.from ≡ 0) × (r.end ≡ r.held) × (take r.held exit ≡ take kept_bytes (part from (end - from) buf))
  -- lines were run: what is after them waits
  pub some : 0 < ran → from + ran < end → (r.from ≡ from + ran) × (r.held ≡ 0) × (r.end ≡ end) × (exit ≡ buf)
  -- all of it was run
  pub all : 0 < ran → end ≤ from + ran → (r.from ≡ 0) × (r.held ≡ 0) × (r.end ≡ 0)
  -- the places are the buffer's, and where nothing waits there is room to read more
  pub inside : r.from + r.held ≤ r.end
  pub within : r.end ≤ length buf
  pub space : r.end - (r.from + r.held) ≡ 0 → r.end ≤ kept_bytes
