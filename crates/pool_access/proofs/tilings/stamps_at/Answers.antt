-- `stamps_at` meets its contract: columns times rows of the level's tiling. Assumes nothing.
use mathlib.Core.Path.{ap, ◌∙◌}
use Rattle.grid_stamps.specs.Grids.{stamp_count}
use Rattle.pool_access.proofs.Levels.{tiling_known_ok}
use Rattle.pool_access.proofs.tilings.stamps_at.Goals as goal

pub stamp_count-requires : goal.stamp_count-requires
stamp_count-requires c = tiling_known_ok c.args.shape c.requires.0 c.args.level _ c.tiling_at.ensures

pub returns : goal.returns
returns c = c.stamp_count.ensures ∙ ap stamp_count c.tiling_at.ensures
