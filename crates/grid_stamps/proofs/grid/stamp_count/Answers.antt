-- How many stamps a grid has. Assumes nothing.
use Rattle.grid_stamps.specs.Grids.{columns_of, rows_of, stamp_count}
use Rattle.grid_stamps.proofs.grid.stamp_count.Goals as goal

pub returns : goal.returns
unfolding stamp_count columns_of rows_of
returns c = rw (c.tiles.ensures, c.tiles-2.ensures)
