-- Both axes are good ones. Assumes nothing.
use Rattle.grid_axes.proofs.Axes.{axis_ok}
use Rattle.grid_axes.proofs.EdgeTables.{block_pos, block_most}
use Rattle.test_figures.proofs.extents.stamps.Goals as goal

pub stamp_count-requires : goal.stamp_count-requires
stamp_count-requires c =
    let a = c.args in
    let p = c.requires in
    let ok = axis_ok a.extent a.block (block_pos _ p.1) p.0 (block_most _ p.1) in
    rw c.axis_of-axis.ensures (record { across = ok; down = ok })
