-- The axis is a good one. Assumes nothing.
use Rattle.grid_axes.proofs.Axes.{axis_ok}
use Rattle.grid_axes.proofs.EdgeTables.{block_pos, block_most}
use Rattle.test_figures.proofs.extents.tile_count.Goals as goal

pub tiles-requires : goal.tiles-requires
tiles-requires c =
    let a = c.args in
    let p = c.requires in
    rw c.axis_of.ensures (axis_ok a.extent a.block (block_pos _ p.1) p.0 (block_most _ p.1))
