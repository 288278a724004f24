-- The tile edge of an axis, by the table of its block edge. Assumes nothing.
use mathlib.Core.Path.{ap, ◌∙◌}
use Rattle.grid_axes.specs.Axes.{tile_edge}
use Rattle.grid_axes.specs.EdgeTables.{edge_at, edge_index}
use Rattle.grid_axes.proofs.edges.tile_edge.Goals as goal

pub returns : goal.returns
unfolding tile_edge edge_at edge_index
returns c = c.table_edge.ensures ∙ ap (edge_at c.args.block) c.edge_index.ensures.0
