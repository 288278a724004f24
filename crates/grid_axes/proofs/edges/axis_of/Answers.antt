-- An axis with its tile edge. Assumes nothing.
use Rattle.grid_axes.specs.Axes.{axis_of}
use Rattle.grid_axes.proofs.edges.axis_of.Goals as goal

pub returns : goal.returns
unfolding axis_of
returns c = rw c.tile_edge.ensures
