-- Where a table has the edge of an axis. Assumes nothing.
use mathlib.Core.Path.{refl}
use Rattle.base_blocks.specs.Lists.{ceil_div}
use Rattle.grid_axes.specs.EdgeTables.{edge_index}
use Rattle.grid_axes.proofs.EdgeTables.{index_below}
use Rattle.grid_axes.proofs.edges.edge_index.Goals as goal

pub returns : goal.returns
unfolding edge_index ceil_div
returns c = (refl, index_below c.args.extent c.requires)
