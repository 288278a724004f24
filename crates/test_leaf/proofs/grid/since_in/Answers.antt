-- The axes of a level of a format: its block edge is 1 to 4, so both are good. Assumes nothing.
use Prim.Native.Nat.{◌≤◌, ◌<◌}
use mathlib.Core.Path.{ap, ◌∙◌}
use native.Mathlib.Omega.{arith}
use Rattle.grid_shapes.proofs.Formats.{block_edge_pos, block_edge_bound}
use Rattle.grid_axes.specs.EdgeTables.{has_table}
use Rattle.grid_axes.proofs.Axes.{axis_ok}
use Rattle.grid_stamps.proofs.Tilings.{format_table}
use Rattle.test_leaf.proofs.grid.since_in.Goals as goal

pub axis_of-requires : goal.axis_of-requires
axis_of-requires c =
    (c.requires.width_bound.0, ap has_table c.block_edge-block.ensures ∙ format_table c.args.format)

pub axis_of-requires-2 : goal.axis_of-requires-2
axis_of-requires-2 c =
    (c.requires.width_bound.1, ap has_table c.block_edge-block.ensures ∙ format_table c.args.format)

pub since-requires : goal.since-requires
since-requires c =
    let a = c.args in
    let p = c.requires in
    let b = c.block_edge-block in
    let pos : 0 < b.result = omega (arith, b.ensures, block_edge_pos a.format) in
    let most : b.result ≤ 16 = omega (arith, b.ensures, block_edge_bound a.format) in
    record {
      tiling_ok = record {
        across = rw c.axis_of.ensures (axis_ok a.width b.result pos p.width_bound.0 most);
        down = rw c.axis_of-2.ensures (axis_ok a.height b.result pos p.width_bound.1 most);
      };
      fields_len_bound = p.fields_len_bound;
    }
