-- Tiles along an axis: by the library, or for a long one by its edge, which is positive and fits. Assumes nothing.
use Prim.Native.Nat.{◌≤◌, ◌<◌}
use mathlib.Core.Path.{ap, ◌∙◌}
use native.Mathlib.Omega.{arith}
use Rattle.base_blocks.specs.Lists.{ceil_div}
use Rattle.base_blocks.proofs.Numbers.{ceil_least}
use Rattle.grid_axes.specs.Axes.{tile_edge, axis_of, tiles_of}
use Rattle.grid_axes.proofs.Axes.{axis_ok, edge_least, edge_bound}
use Rattle.grid_axes.proofs.EdgeTables.{block_pos, block_most}
use Rattle.test_leaf.proofs.axis.tiles_of.Goals as goal
use Rattle.test_leaf.proofs.axis.tiles_of.Goals.{After-long_edge-edge}

-- the edge of a long axis is positive and fits
least : (c : After-long_edge-edge) → 0 < tile_edge c.args.extent c.args.block
least c =
    let a = c.args in
    omega (arith, edge_least a.extent a.block (block_pos a.block c.requires.1))

most : (c : After-long_edge-edge) → tile_edge c.args.extent c.args.block ≤ 4294967296
most c =
    let a = c.args in
    omega (arith, edge_bound a.extent a.block (block_pos a.block c.requires.1), ceil_least a.extent 32 (omega arith), c.requires.0, block_most a.block c.requires.1)

pub axis_of-requires : goal.axis_of-requires
axis_of-requires c = (c.if-extent-le16384.true, c.requires.1)

pub tiles-requires : goal.tiles-requires
tiles-requires c =
    let a = c.args in
    let p = c.requires in
    rw c.axis_of.ensures (axis_ok a.extent a.block (block_pos _ p.1) c.if-extent-le16384.true (block_most _ p.1))

pub returns-then-extent-le16384 : goal.returns-then-extent-le16384
returns-then-extent-le16384 c = c.tiles.ensures ∙ ap tiles_of c.axis_of.ensures

pub long_edge-edge-requires : goal.long_edge-edge-requires
long_edge-edge-requires c =
    let p = c.requires in
    (p.0, block_pos _ p.1, block_most _ p.1)

pub overflow_sub-result : goal.overflow_sub-result
overflow_sub-result c = omega (arith, c.long_edge-edge.ensures, least (goal.at.overflow_sub-result c).After-long_edge-edge)

pub overflow_add-result : goal.overflow_add-result
overflow_add-result c = omega (arith, c.long_edge-edge.ensures, least (goal.at.overflow_add-result c).After-long_edge-edge, most (goal.at.overflow_add-result c).After-long_edge-edge)

pub nonzero_div-result : goal.nonzero_div-result
nonzero_div-result c = omega (arith, c.long_edge-edge.ensures, least (goal.at.nonzero_div-result c).After-long_edge-edge)

pub returns : goal.returns
unfolding tiles_of axis_of ceil_div
returns c = rw c.long_edge-edge.ensures
