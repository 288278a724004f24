-- The tiles of two spans. Assumes nothing.
use Rattle.grid_stamps.specs.Scans.{tiles_stamped}
use Rattle.grid_stamps.proofs.stamping.stamp_tiles.Goals as goal

pub returns : goal.returns
unfolding tiles_stamped
returns c = c.stamp_rows.ensures
