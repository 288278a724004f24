-- The tile edge of any axis: by the table, or worked out for a long one. Assumes nothing.
use Rattle.grid_axes.proofs.EdgeTables.{block_pos, block_most}
use Rattle.test_leaf.proofs.axis.edge_of.Goals as goal

pub long_edge-requires : goal.long_edge-requires
long_edge-requires c =
    let p = c.requires in
    (p.0, block_pos _ p.1, block_most _ p.1)
