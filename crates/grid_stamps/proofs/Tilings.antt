-- A shape's levels have tilings of at most 32 by 32 tiles. Assumes nothing.
use mathlib.Core.Path.{◌≡◌, refl, sym, ap, ◌∙◌}
use mathlib.Core.List.{List}
use mathlib.Core.Logic.{⊎_elim}
use mathlib.Core.Bool.{true}
use Prim.Native.Nat.{ℕ, ◌%◌, ◌≤◌, ◌<◌}
use native.Mathlib.Nat.{mul-le-mul}
use native.Mathlib.Omega.{arith}
use Rattle.base_blocks.specs.Lists.{all}
use Rattle.base_blocks.proofs.Lists.{entry}
use Rattle.base_blocks.proofs.Numbers.{ceil_pos}
use Rattle.grid_shapes.specs.declared.shape.VersionShape.{VersionShape}
use Rattle.grid_shapes.specs.Formats.{block_edges, block_edge}
use Rattle.grid_shapes.specs.Shapes.{is_shape, level_width, level_height}
use Rattle.grid_axes.specs.Axes.{tile_edge, axis_of, tiles_of}
use Rattle.grid_axes.specs.EdgeTables.{has_table, is_edge_table}
use Rattle.grid_stamps.specs.declared.grid.Tiling.{Tiling}
use Rattle.grid_stamps.specs.Grids.{tiling_of, TilingOk, columns_of, rows_of, stamp_count}
use Rattle.grid_shapes.proofs.Formats.{block_edge_pos, block_edge_bound}
use Rattle.grid_shapes.proofs.Shapes.{shape_bounds, width_pos, height_pos, width_bound, height_bound}
use Rattle.grid_axes.proofs.Axes.{axis_ok, edge_multiple}
use Rattle.grid_axes.proofs.EdgeTables.{block_cases}
use Rattle.grid_stamps.specs.StampConstants.{page_stamps}

-- every format's block edge has a table of tile edges
pub format_table : (format : ℕ) → has_table (block_edge format) ≡ true
unfolding block_edge all
format_table format = entry has_table block_edges format 1 refl refl

-- whether a format's block edge is 1 tells which table is its own
module _ (format edge : ℕ) (e : edge ≡ block_edge format) (table : List ℕ) where
  pub texels_table : edge ≡ 1 → is_edge_table 1 table ≡ true → is_edge_table (block_edge format) table ≡ true
  texels_table one tested = ap (λ (b : ℕ). is_edge_table b table) (sym e ∙ one) ∙ tested

  pub blocks_table : (edge ≡ 1 → ⊥) → is_edge_table 4 table ≡ true → is_edge_table (block_edge format) table ≡ true
  blocks_table other tested =
      let four = ⊎_elim (λ one. absurd (other (e ∙ one))) (λ four. four) (block_cases _ (format_table format)) in
      ap (λ (b : ℕ). is_edge_table b table) four ∙ tested

-- at most 1,024 stamps
pub count_bound : (g : Tiling) → TilingOk g → stamp_count g ≤ page_stamps
unfolding stamp_count columns_of rows_of
count_bound g ok = omega (arith, mul-le-mul ok.across.tiles ok.down.tiles)

module _ (s : VersionShape) (shaped : is_shape s ≡ true) (level : ℕ) where
  pub tiling_ok : TilingOk (tiling_of s level)
  unfolding tiling_of
  tiling_ok = record {
    across = axis_ok (level_width s level) (block_edge s.format) (block_edge_pos s.format) (width_bound s (shape_bounds s shaped) level)
        (omega (arith, block_edge_bound s.format));
    down = axis_ok (level_height s level) (block_edge s.format) (block_edge_pos s.format) (height_bound s (shape_bounds s shaped) level)
        (omega (arith, block_edge_bound s.format));
  }

  -- some tile lies along each axis
  pub columns_pos : 0 < columns_of (tiling_of s level)
  unfolding columns_of tiles_of tiling_of axis_of
  columns_pos = ceil_pos (level_width s level) (tile_edge (level_width s level) (block_edge s.format)) tiling_ok.across.wide (width_pos s level)

  pub rows_pos : 0 < rows_of (tiling_of s level)
  unfolding rows_of tiles_of tiling_of axis_of
  rows_pos = ceil_pos (level_height s level) (tile_edge (level_height s level) (block_edge s.format)) tiling_ok.down.wide (height_pos s level)

  pub count_pos : 0 < stamp_count (tiling_of s level)
  unfolding stamp_count
  count_pos = omega (arith, mul-le-mul columns_pos rows_pos)

  -- tile edges are whole numbers of blocks
  pub across_blocks : (tiling_of s level).across.edge % block_edge s.format ≡ 0
  unfolding tiling_of axis_of
  across_blocks = edge_multiple (level_width s level) (block_edge s.format) (block_edge_pos s.format)

  pub down_blocks : (tiling_of s level).down.edge % block_edge s.format ≡ 0
  unfolding tiling_of axis_of
  down_blocks = edge_multiple (level_height s level) (block_edge s.format) (block_edge_pos s.format)
