-- An axis with its tile edge by a table. Assumes nothing.
use Rattle.grid_axes.specs.EdgeTables.{axis_in}
use Rattle.grid_axes.proofs.edges.axis_in.Goals as goal

pub returns : goal.returns
unfolding axis_in
returns c = rw (c.entry_of.ensures, c.edge_index.ensures.0)
