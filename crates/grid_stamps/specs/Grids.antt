-- Rule: One subresource's stamp grid (01, "The stamp grid"): a stamp for each tile, row by row, and the newest of them.
use Rattle.std.specs.Prelude.{ℕ, ◌+◌, ◌*◌, ◌<◌, ◌≤◌, ◌≡◌, Bool, true, ◌&&◌, cond, leb, ltb, get_or, take, replicate, Option, Some, None}
use mathlib.Core.List.{List, [], ◌∷◌, map, flat_map}
use Rattle.base_blocks.specs.Lists.{listed, keep}
use Rattle.grid_axes.specs.declared.axis.Axis.{Axis}
use Rattle.grid_axes.specs.declared.axis.Span.{Span}
use Rattle.grid_shapes.specs.declared.shape.VersionShape.{VersionShape}
use Rattle.grid_rects.specs.declared.rect.TexelRect.{TexelRect}
use Rattle.grid_stamps.specs.declared.grid.Tiling.{Tiling}
use Rattle.grid_stamps.specs.declared.grid.Tile.{Tile}
use Rattle.grid_shapes.specs.Formats.{block_edge}
use Rattle.grid_shapes.specs.Shapes.{level_width, level_height}
use Rattle.grid_axes.specs.Axes.{axis_of, AxisOk, tiles_of, is_cut, touched, one_tile, span_around, span_start, span_size}
use Rattle.grid_axes.specs.EdgeTables.{is_edge_table}
use Rattle.base_blocks.specs.Blocks.{largest}

-- a level cut into tiles along two axes
abbrev pub tiled : Axis → Axis → Tiling
tiled across down = record { across = across; down = down }

-- how a level of a shape is cut into tiles
unfoldable pub tiling_of : VersionShape → ℕ → Tiling
tiling_of s level = tiled (axis_of (level_width s level) (block_edge s.format)) (axis_of (level_height s level) (block_edge s.format))

-- the table of tile edges of the shape's block edge
abbrev pub TableOf : VersionShape → List ℕ → Type 0
TableOf s table = is_edge_table (block_edge s.format) table ≡ true

unfoldable pub columns_of : Tiling → ℕ
columns_of g = tiles_of g.across

unfoldable pub rows_of : Tiling → ℕ
rows_of g = tiles_of g.down

-- how many stamps a grid has
unfoldable pub stamp_count : Tiling → ℕ
stamp_count g = columns_of g * rows_of g

-- a tiling of a level that a shape can have
pub record TilingOk (g : Tiling) : Type 0 where
  pub across : AxisOk g.across
  pub down : AxisOk g.down

-- a grid: its stamps, and the newest of them
pub record StampGrid : Type 0 where
  pub newest : ℕ
  pub stamps : List ℕ

-- the grid of a new history: nothing written
unfoldable pub new_grid : Tiling → StampGrid
new_grid g = record { newest = 0; stamps = replicate (stamp_count g) 0 }

-- the grid that a page holds; what stands past its stamps does not count
unfoldable pub grid_in : Tiling → ℕ → List ℕ → StampGrid
grid_in g newest page = record { newest = newest; stamps = take (stamp_count g) page }

-- one value for each tile, row by row
unfoldable pub row_by_row {ℓ} : {A : Type ℓ} → ℕ → ℕ → (ℕ → ℕ → A) → List A
row_by_row columns rows f = flat_map (λ (row : ℕ). listed (λ (column : ℕ). f column row) 0 columns) (listed (λ (row : ℕ). row) 0 rows)

-- the stamp of a tile, in a grid of that many columns
unfoldable pub stamp_of : ℕ → List ℕ → ℕ → ℕ → ℕ
stamp_of columns stamps column row = get_or stamps (row * columns + column) 0

-- the rectangle, cut to the level, touches the tile
unfoldable pub touches : Tiling → TexelRect → ℕ → ℕ → Bool
touches g r column row = touched g.across r.x r.width column && touched g.down r.y r.height row

-- the rectangle, cut to the level, is not empty
unfoldable pub is_cut_rect : Tiling → TexelRect → Bool
is_cut_rect g r = is_cut g.across r.x r.width && is_cut g.down r.y r.height

-- a write with the number n: each touched tile is stamped. An empty cut touches no tile and leaves `newest`.
unfoldable pub stamped_by : Tiling → TexelRect → ℕ → StampGrid → StampGrid
stamped_by g r n grid = record {
  newest = cond (is_cut_rect g r) n grid.newest;
  stamps = row_by_row (columns_of g) (rows_of g) (λ (column row : ℕ). cond (touches g r column row) n (stamp_of (columns_of g) grid.stamps column row));
}

-- the tiles stamped above held, in row order
unfoldable pub dirty_tiles : ℕ → ℕ → ℕ → List ℕ → List Tile
dirty_tiles columns rows held stamps =
    keep (λ (t : Tile). ltb held (stamp_of columns stamps t.column t.row))
    (row_by_row columns rows (λ (column row : ℕ). record { column = column; row = row }))

-- whole tiles in texels, cut to the level
unfoldable pub box_of : Tiling → Span → Span → TexelRect
box_of g columns rows = record {
  x = span_start g.across columns;
  y = span_start g.down rows;
  width = span_size g.across columns;
  height = span_size g.down rows;
}

-- the smallest box of whole tiles around these, cut to the level
unfoldable pub box_around : Tiling → List Tile → Option TexelRect
box_around g [] = None
box_around g (t ∷ ts) =
    Some (box_of g (span_around (one_tile t.column) (map (λ (u : Tile). u.column) ts)) (span_around (one_tile t.row) (map (λ (u : Tile). u.row) ts)))

-- the box since `held`; none if `newest` is at most `held`
unfoldable pub box_since : Tiling → ℕ → StampGrid → Option TexelRect
box_since g held grid = cond (leb grid.newest held) None (box_around g (dirty_tiles (columns_of g) (rows_of g) held grid.stamps))

-- the answer that names a tile
abbrev pub some_tile : ℕ → ℕ → Option Tile
some_tile column row = Some (record { column = column; row = row })

-- the dirty tile stays open under its condition: the tile named is stamped above held; none only where none is
pub record Stamped (g : Tiling) (held : ℕ) (stamps : List ℕ) (column row : ℕ) : Type 0 where
  pub inside : (column < columns_of g) × (row < rows_of g)
  pub above : held < stamp_of (columns_of g) stamps column row

unfoldable pub IsDirtyTile : Tiling → ℕ → List ℕ → Option Tile → Type 0
IsDirtyTile g held stamps (Some t) = Stamped g held stamps t.column t.row
IsDirtyTile g held stamps None = (column row : ℕ) → column < columns_of g → row < rows_of g → stamp_of (columns_of g) stamps column row ≤ held

-- the largest of a grid's stamps, which its `newest` has to be
unfoldable pub largest_stamp : Tiling → List ℕ → ℕ
largest_stamp g page = largest (take (stamp_count g) page)
