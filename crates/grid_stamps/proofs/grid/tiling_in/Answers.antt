-- A level's tiling, an axis at a time. Assumes nothing.
use Prim.Native.Nat.{◌≤◌}
use native.Mathlib.Omega.{arith}
use Rattle.grid_shapes.specs.Shapes.{level_extent, level_width, level_height}
use Rattle.grid_shapes.proofs.Shapes.{shape_bounds, width_bound, height_bound}
use Rattle.grid_axes.proofs.EdgeTables.{table_length, table_axis}
use Rattle.grid_stamps.specs.Grids.{tiling_of}
use Rattle.grid_stamps.proofs.grid.tiling_in.Goals as goal
use Rattle.grid_stamps.proofs.grid.tiling_in.Goals.{Start}

-- no extent is more than a table serves
wide : (c : Start) → level_extent c.args.s.width c.args.level ≤ 16384
unfolding level_width
wide c = width_bound c.args.s (shape_bounds c.args.s c.requires.0) c.args.level

high : (c : Start) → level_extent c.args.s.height c.args.level ≤ 16384
unfolding level_height
high c = height_bound c.args.s (shape_bounds c.args.s c.requires.0) c.args.level

pub axis_in-requires : goal.axis_in-requires
axis_in-requires c = (omega (arith, c.level_extent.ensures, wide (goal.at.axis_in-requires c).Start), table_length _ _ c.requires.1)

pub axis_in-requires-2 : goal.axis_in-requires-2
axis_in-requires-2 c = (omega (arith, c.level_extent-2.ensures, high (goal.at.axis_in-requires-2 c).Start), table_length _ _ c.requires.1)

pub returns : goal.returns
unfolding tiling_of level_width level_height
returns c =
    rw (
      c.axis_in.ensures,
      c.level_extent.ensures,
      c.axis_in-2.ensures,
      c.level_extent-2.ensures,
      table_axis _ _ c.requires.1 _ (wide (goal.at.returns c).Start),
      table_axis _ _ c.requires.1 _ (high (goal.at.returns c).Start),
    )
