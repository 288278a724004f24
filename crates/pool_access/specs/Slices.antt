-- Helper: A slice of a new history: what stands beside its grids' newest stamps, and how many stamps they take.
use Rattle.std.specs.Prelude.{ℕ, ◌<◌, ◌≡◌, get_or}
use Rattle.grid_shapes.specs.declared.shape.VersionShape.{VersionShape}
use Rattle.pool_rules.specs.HistorySizes.{level_start}
use Rattle.pool_records.specs.Tilings.{tiling_number}
use Rattle.pool_access.specs.declared.slices.SliceTilings.{SliceTilings}

-- the tilings of the first slice's grids, level by level, and the stamps of one slice
pub record SliceOf (s : VersionShape) (t : SliceTilings) : Type 0 where
  pub levels : (k : ℕ) → k < s.levels → get_or t.levels k 0 ≡ tiling_number s k
  pub stamps : t.stamps ≡ level_start s s.levels
