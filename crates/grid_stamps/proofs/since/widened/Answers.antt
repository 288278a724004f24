-- A span and a tile. Assumes nothing.
use Rattle.grid_axes.specs.Axes.{widened}
use Rattle.grid_stamps.proofs.since.widened.Goals as goal

pub returns : goal.returns
unfolding widened
returns c = rw (c.min.ensures, c.max.ensures)
