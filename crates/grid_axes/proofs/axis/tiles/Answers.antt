-- Tiles along an axis. Assumes nothing.
use Rattle.base_blocks.specs.Lists.{ceil_div}
use Rattle.grid_axes.specs.Axes.{tiles_of}
use Rattle.grid_axes.proofs.axis.tiles.Goals as goal

pub returns : goal.returns
unfolding tiles_of ceil_div
returns c = c.tile_of.ensures
