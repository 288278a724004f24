-- `grid_rects::copies::level_copy_bytes` meets its contract. Each product is the definition's, which a shape keeps below 2^44.
use Prim.Native.Nat.{◌*◌}
use mathlib.Core.Path.{◌≡◌, ◌∙◌}
use native.Mathlib.Omega.{arith}
use lib.Dec.{lit≤}
use Rattle.grid_shapes.specs.Shapes.{level_width, level_height, level_depth}
use Rattle.grid_rects.specs.Copies.{region_blocks, copy_bytes}
use Rattle.grid_shapes.proofs.Formats.{block_edge_pos}
use Rattle.grid_shapes.proofs.Shapes.{shape_bounds, extent_bound}
use Rattle.grid_rects.proofs.CopyBytes.{blocks_in, all_depths_bound, bounds_copy}
use Rattle.grid_rects.proofs.copies.level_copy_bytes.Goals as goal
use Rattle.grid_rects.proofs.copies.level_copy_bytes.Goals.{After-level_depth, After-region_blocks-blocks}

-- the blocks so far, in the definition's terms
blocks : (c : After-region_blocks-blocks) →
    c.region_blocks-blocks.result
    ≡ blocks_in c.args.s c.args.level c.args.region
unfolding level_width level_height
blocks c =
    c.region_blocks-blocks.ensures
    ∙ λ i. region_blocks (c.block_edge.ensures i) (c.level_extent.ensures i) (c.level_extent-2.ensures i)
    c.args.region

all-depths : (c : After-level_depth) →
    c.region_blocks-blocks.result * c.level_depth.result
    ≡ blocks_in c.args.s c.args.level c.args.region
    * level_depth c.args.s c.args.level
all-depths c = λ i. blocks c.before i * c.level_depth.ensures i

pub region_blocks-blocks-requires : goal.region_blocks-blocks-requires
region_blocks-blocks-requires c =
    let a = c.args in
    let z = shape_bounds a.s c.requires in
    let width = extent_bound a.s.width 16384 a.level z.width (lit≤ tt) in
    let height = extent_bound a.s.height 16384 a.level z.height (lit≤ tt) in
    (omega (arith, c.block_edge.ensures, block_edge_pos a.s.format), omega (arith, width), omega (arith, height))

pub overflow_mul-result : goal.overflow_mul-result
overflow_mul-result c =
    let a = c.args in
    let z = shape_bounds a.s c.requires in
    omega (arith, all-depths (goal.at.overflow_mul-result c).After-level_depth, all_depths_bound a.s z a.level a.region)

pub returns : goal.returns
unfolding copy_bytes
returns c = λ i. all-depths (goal.at.returns c).After-level_depth i * c.block_bytes.ensures i

pub overflow_mul-result-2 : goal.overflow_mul-result-2
overflow_mul-result-2 c =
    let a = c.args in
    let z = shape_bounds a.s c.requires in
    omega (arith, returns c, bounds_copy a.s z a.level a.region)
