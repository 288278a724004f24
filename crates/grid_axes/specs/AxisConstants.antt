-- Rule: The tile edge's least length and the most tiles along an axis, each with the Rust's reason.
use Rattle.std.specs.Prelude.{ℕ}

-- The smallest tile edge, in texels. The Rust: a write of a sprite's size covers a handful of tiles, so a copy is too large by
-- at most one tile on each side, while a small level keeps a grid of few tiles.
abbrev pub min_tile_texels : ℕ
min_tile_texels = 16

-- The most tiles along an axis. The Rust: this bounds a grid at 1,024 stamps, 8 KiB, whatever the texture's size, and so what a
-- rename reads; a level of 4,096 texels has tiles of 128.
abbrev pub max_tiles_per_axis : ℕ
max_tiles_per_axis = 32

-- The entries of a table of tile edges: one for each share that extents up to 16,384 have, which is 0 to 512.
abbrev pub edge_entries : ℕ
edge_entries = 513
