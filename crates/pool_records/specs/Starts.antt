-- Helper: Where textures' grids and stamps begin, moved: those behind a texture whose history was renewed or dropped, or that was put in or taken out.
use Rattle.std.specs.Prelude.{ℕ, ◌+◌, ◌-◌, ◌^◌, ◌≤◌, ◌<◌, cond, List, ◌++◌, map, ltb, take, drop}
use Rattle.base_blocks.specs.Lists.{over}
use Rattle.base_tables.specs.Records.{flat}
use Rattle.pool_records.specs.declared.texture.TextureRecord.{TextureRecord}
use Rattle.pool_records.specs.declared.shift.Shift.{Shift}
use Rattle.pool_records.specs.Texture.{write_texture, texture_in, textures_in}

unfoldable pub shifted_by : Shift → ℕ → ℕ
shifted_by m n = n - m.less + m.more

-- down by so many, and up
abbrev pub less_by : ℕ → Shift
less_by n = record { less = n; more = 0 }

abbrev pub more_by : ℕ → Shift
more_by n = record { less = 0; more = n }

-- a record whose grids and stamps begin elsewhere
unfoldable pub moved_start : Shift → Shift → TextureRecord → TextureRecord
moved_start grids stamps t = record {
  id = t.id;
  shape = t.shape;
  epoch = t.epoch;
  history = t.history;
  birth = t.birth;
  rename = t.rename;
  due = t.due;
  spares = t.spares;
  bytes = t.bytes;
  grid = shifted_by grids t.grid;
  stamp = shifted_by stamps t.stamp;
}

-- n records, of which those from i on begin elsewhere
unfoldable pub starts_moved : Shift → Shift → ℕ → ℕ → List ℕ → List ℕ
starts_moved grids stamps i n s = over (flat write_texture (take i (textures_in n s) ++ map (moved_start grids stamps) (drop i (textures_in n s)))) s

-- a start that can be moved: it stands behind what went out, and is no number past 2^64 with what came in
pub record StartMoves (grids stamps : Shift) (t : TextureRecord) : Type 0 where
  pub grid_less : grids.less ≤ t.grid
  pub grid_more : t.grid + grids.more < 2 ^ 64
  pub stamp_less : stamps.less ≤ t.stamp
  pub stamp_more : t.stamp + stamps.more < 2 ^ 64

-- those of the records from i on, up to n
abbrev pub StartsMove : Shift → Shift → ℕ → ℕ → List ℕ → Type 0
StartsMove grids stamps i n s = (j : ℕ) → i ≤ j → j < n → StartMoves grids stamps (texture_in s j)

-- where the grids of texture i end, of n that have `used` in all: where the next one's begin, or past the last; and where its stamps do
unfoldable pub grid_end : List ℕ → ℕ → ℕ → ℕ → ℕ
grid_end s n used i = cond (ltb (i + 1) n) (texture_in s (i + 1)).grid used

unfoldable pub stamp_end : List ℕ → ℕ → ℕ → ℕ → ℕ
stamp_end s n used i = cond (ltb (i + 1) n) (texture_in s (i + 1)).stamp used

-- how many grids and stamps it has: from where they begin up to where they end
abbrev pub grids_held : List ℕ → ℕ → ℕ → ℕ → ℕ
grids_held s n used i = grid_end s n used i - (texture_in s i).grid

abbrev pub stamps_held : List ℕ → ℕ → ℕ → ℕ → ℕ
stamps_held s n used i = stamp_end s n used i - (texture_in s i).stamp
