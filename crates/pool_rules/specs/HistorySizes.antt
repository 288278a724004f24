-- Rule: How many stamps a grid and a history take, and where in its history a grid begins (02, W-201): a grid occupies just its columns times rows,
-- and the grids of a history stand one behind the other, slice by slice, level by level.
use Rattle.std.specs.Prelude.{ℕ, ◌*◌, ◌%◌, cond, List}
use Rattle.base_blocks.specs.Lists.{listed, total}
use Rattle.base_unequal.specs.Unequal.{start_of}
use Rattle.grid_shapes.specs.declared.shape.VersionShape.{VersionShape}
use Rattle.grid_stamps.specs.Grids.{tiling_of, stamp_count}
use Rattle.pool_rules.specs.Model.{VersionState, grid_count, has_history}
use Rattle.pool_rules.specs.RuleConstants.{grid_stride}

-- the stamps of a history's k-th grid
unfoldable pub grid_size : VersionShape → ℕ → ℕ
grid_size s k = stamp_count (tiling_of s (k % s.levels))

-- the places of a history's grids: 0, 1, 2 and so on
abbrev pub grid_places : VersionShape → List ℕ
grid_places s = listed (λ (k : ℕ). k) 0 (grid_count s)

-- the stamps of all of them
unfoldable pub history_size : VersionShape → ℕ
history_size s = total (grid_size s) (grid_places s)

-- the stamps before the k-th
unfoldable pub grid_start : VersionShape → ℕ → ℕ
grid_start s k = start_of (grid_size s) k (grid_places s)

-- the stamps of a slice's levels before this one
unfoldable pub level_start : VersionShape → ℕ → ℕ
level_start s level = total (λ (l : ℕ). stamp_count (tiling_of s l)) (listed (λ (l : ℕ). l) 0 level)

module _ {W : Type 0} where
  -- stamps in use: those of its history
  abbrev pub stamps_used : VersionState W → ℕ
  stamps_used t = cond (has_history t.history) (history_size t.shape) 0

  -- numbers of `newest` in use: two for each grid of its history
  abbrev pub newest_used : VersionState W → ℕ
  newest_used t = cond (has_history t.history) (grid_stride * grid_count t.shape) 0
