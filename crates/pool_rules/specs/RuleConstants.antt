-- Rule: The most places, and the Rust's bounds on ages and batches, each with the Rust's reason.
use Rattle.std.specs.Prelude.{ℕ}

-- The most textures, versions and pages that the lent stores may have places for.
abbrev pub most_places : ℕ
most_places = 4096

-- The most grids of a texture: fifteen levels on each of a cube's six slices.
abbrev pub most_grids : ℕ
most_grids = 90

-- The numbers that `newest` has for each grid: the newest of its stamps, and its tiling.
abbrev pub grid_stride : ℕ
grid_stride = 2

-- Submissions that a spare may wait for a rename, counted from its parking. The Rust: this bound sizes the pool to the demand,
-- for a texture that is still renamed takes its newest spares first and leaves the oldest to age; eight gives a texture that
-- stopped being renamed its storage back within about 130 ms at 60 frames a second. Counted from retiring instead, the same
-- bound destroyed about 87 versions a frame.
abbrev pub spare_max_idle_submits : ℕ
spare_max_idle_submits = 8

-- Submissions that a texture's state is kept without a rename and without spares. The Rust: a state is far smaller than a
-- spare, so it is kept longer, about two seconds at 60 frames a second, which spares a texture renamed in bursts the rebuild.
abbrev pub state_max_idle_submits : ℕ
state_max_idle_submits = 120

-- The fewest versions handed back by a take, where that many wait. The Rust: 1,357 handles destroyed at once took 6.1 ms, about
-- 4.5 us each, so 64 versions of two views cost about 0.6 ms.
abbrev pub min_destroys_per_drain : ℕ
min_destroys_per_drain = 64

-- The takes over which arrivals in the destroy queue are averaged, and the queue's divisor. The Rust: a burst raises the
-- average for that many takes and is handed out over about five of them: 678 versions go as 170, 149, 130, 114, 100 and 15.
abbrev pub destroy_spread_drains : ℕ
destroy_spread_drains = 8
