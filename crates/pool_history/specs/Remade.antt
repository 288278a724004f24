-- Helper: The grids of a history after a mip regeneration, read off the memory before it, and written back over it.
use Rattle.std.specs.Prelude.{ℕ, ◌+◌, ◌*◌, ◌%◌, cond, eqb, set}
use mathlib.Core.List.{List, [], ◌∷◌, flat_map}
use Rattle.std.proofs.lemmas.List.Edits.{sets}
use Rattle.base_blocks.specs.Lists.{listed}
use Rattle.grid_shapes.specs.declared.shape.VersionShape.{VersionShape}
use Rattle.grid_shapes.specs.Shapes.{level_width, level_height}
use Rattle.grid_rects.specs.Rects.{whole_level}
use Rattle.grid_stamps.specs.Grids.{StampGrid, tiling_of, stamped_by}
use Rattle.pool_rules.specs.HistorySizes.{grid_start}
use Rattle.pool_rules.specs.RuleConstants.{grid_stride}
use Rattle.pool_memory.specs.Reading.{grid_on}

abbrev pub newest_stamp : StampGrid → ℕ
newest_stamp g = g.newest

abbrev pub stamps_in : StampGrid → List ℕ
stamps_in g = g.stamps

-- the grids' newest stamps, each at its grid's place, the first at `grid`; the tilings beside them stay
unfoldable pub newest_written : List ℕ → ℕ → List StampGrid → List ℕ
newest_written newest grid [] = newest
newest_written newest grid (g ∷ gs) = newest_written (set newest grid g.newest) (grid + grid_stride) gs

-- the grids' stamps, one grid behind the other, from `stamp` on
unfoldable pub stamps_written : List ℕ → ℕ → List StampGrid → List ℕ
stamps_written stamps stamp gs = sets stamps stamp (flat_map stamps_in gs)

-- a grid after a regeneration: level 0 as it was, any other stamped whole
unfoldable pub remade_grid : VersionShape → ℕ → ℕ → StampGrid → StampGrid
remade_grid s n level g = cond (eqb level 0) g (stamped_by (tiling_of s level) (whole_level (level_width s level) (level_height s level)) n g)

-- the first k grids of a history whose numbers of `newest` begin at `grid` and whose stamps at `stamp`, after a regeneration
unfoldable pub remade_grids : VersionShape → ℕ → List ℕ → List ℕ → ℕ → ℕ → ℕ → List StampGrid
remade_grids s n newest stamps grid stamp k =
    listed (λ (j : ℕ). remade_grid s n (j % s.levels) (grid_on s (j % s.levels) newest stamps (grid + grid_stride * j) (stamp + grid_start s j))) 0 k
