-- Laws of the box since a count: every tile stamped later lies in it, and it is a legal rectangle. Assumes nothing.
use mathlib.Core.Path.{◌≡◌}
use mathlib.Core.List.{List, [], ◌∷◌, map}
use Prim.Native.Nat.{ℕ, ◌+◌, ◌*◌, ◌/◌, ◌%◌, ◌≤◌, ◌<◌}
use native.Mathlib.Omega.{arith}
use lib.Dec.{ltb}
use lib.ListN.{length, get_or}
use borrow.Author.Tests.{ltb-true, lt-ltb, lt-leb}
use Rattle.base_blocks.specs.All.{All, nil, cons}
use Rattle.base_blocks.proofs.All.{all_head, all_tail, all_kept, all_keep, all_flat_map, all_listed, kept_at}
use Rattle.std.specs.Prelude.{Option, Some, None}
use Rattle.grid_rects.specs.declared.rect.TexelRect.{TexelRect}
use Rattle.grid_axes.specs.Axes.{one_tile, span_around}
use Rattle.grid_stamps.specs.declared.grid.Tiling.{Tiling}
use Rattle.grid_stamps.specs.declared.grid.Tile.{Tile}
use Rattle.grid_stamps.specs.Grids.{TilingOk, columns_of, rows_of, stamp_count, StampGrid, row_by_row, stamp_of, dirty_tiles, box_of, box_around, box_since, some_tile, IsDirtyTile}
use Rattle.grid_axes.proofs.Axes.{span_holds}
use Rattle.grid_stamps.proofs.RowByRow.{tile_place, tile_at, length_rows, value_at}
use Rattle.grid_axes.proofs.Spans.{InSpan, around_base, around_each, one_holds}
use Rattle.grid_stamps.proofs.Stamps.{InLevel, InRect, stamp_at, texel_column, texel_row}

-- ---- dirty tiles

-- a tile of the grid
pub record TileIn (columns rows : ℕ) (t : Tile) : Type 0 where
  pub across : t.column < columns
  pub down : t.row < rows

module _ (columns rows held : ℕ) (stamps : List ℕ) where
  -- each is a tile of the grid
  pub dirty_in : All (TileIn columns rows) (dirty_tiles columns rows held stamps)
  unfolding dirty_tiles row_by_row
  dirty_in =
      all_keep _
      (all_flat_map {P = λ (row : ℕ). row < rows} _
      (λ row h. all_listed _ 0 columns (λ j q. record { across = omega arith; down = h }))
      (all_listed (λ (row : ℕ). row) 0 rows (λ j q. omega arith)))

  -- each is stamped above held
  pub dirty_above : All (λ (t : Tile). held < stamp_of columns stamps t.column t.row) (dirty_tiles columns rows held stamps)
  unfolding dirty_tiles
  dirty_above = all_kept _ _ (λ t e. ltb-true held (stamp_of columns stamps t.column t.row) e)

  -- and each tile stamped above held is one of them
  pub dirty_each : (P : Tile → Type 0) → All P (dirty_tiles columns rows held stamps) → (column row : ℕ) → column < columns → row < rows
      → held < stamp_of columns stamps column row → P (record { column = column; row = row })
  unfolding dirty_tiles
  dirty_each P all column row h k above =
      let tile : Tile = record { column = column; row = row } in
      let f : ℕ → ℕ → Tile = λ c r. record { column = c; row = r } in
      let v : get_or (row_by_row columns rows f) (row * columns + column) tile ≡ tile = value_at columns rows f column row tile h k in
      let i : row * columns + column < length (row_by_row columns rows f) = rw (length_rows columns rows f) (tile_place columns rows column row h k) in
      rw v at (kept_at (λ (t : Tile). ltb held (stamp_of columns stamps t.column t.row)) (row_by_row columns rows f) (row * columns + column) tile i
      (rw v (lt-ltb held (stamp_of columns stamps column row) above)) all)

-- ---- the box around tiles

-- a texel of the box, if there is one
abbrev pub InDirty : Option TexelRect → ℕ → ℕ → Type 0
InDirty None x y = ⊥
InDirty (Some r) x y = InRect r x y

module _ (g : Tiling) (ok : TilingOk g) where
  -- a box that holds a texel's tile holds the texel
  pub box_holds : (x y : ℕ) → InLevel g x y → (ts : List Tile)
      → ((P : Tile → Type 0) → All P ts → P (record { column = x / g.across.edge; row = y / g.down.edge })) → InDirty (box_around g ts) x y
  unfolding box_around box_of
  box_holds x y h [] each = each (λ t. ⊥) nil
  box_holds x y h (t ∷ ts) each =
      let cs = span_around (one_tile t.column) (map (λ (u : Tile). u.column) ts) in
      let rs = span_around (one_tile t.row) (map (λ (u : Tile). u.row) ts) in
      let c : InSpan cs (x / g.across.edge) =
      each (λ u. InSpan cs u.column)
      (cons {x = t} (around_base _ _ _ (one_holds t.column)) (unmap (λ (u : Tile). u.column) (InSpan cs) ts (around_each (one_tile t.column) _))) in
      let r : InSpan rs (y / g.down.edge) =
      each (λ u. InSpan rs u.row)
      (cons {x = t} (around_base _ _ _ (one_holds t.row)) (unmap (λ (u : Tile). u.row) (InSpan rs) ts (around_each (one_tile t.row) _))) in
      let p = span_holds g.across cs ok.across.wide x h.across c.from c.to in
      let q = span_holds g.down rs ok.down.wide y h.down r.from r.to in
      record { left = p.0; right = p.1; top = q.0; bottom = q.1 }
    where
      unmap : (f : Tile → ℕ) (P : ℕ → Type 0) (us : List Tile) → All P (map f us) → All (λ (u : Tile). P (f u)) us
      unmap f P [] all = nil
      unmap f P (u ∷ us) all = cons {x = u} (all_head all) (unmap f P us (all_tail all))

  -- the box since held has each texel whose tile is stamped above held, if no stamp passes `newest`
  pub box_since_lem : (grid : StampGrid) (held x y : ℕ) → InLevel g x y → stamp_at g grid.stamps x y ≤ grid.newest
      → held < stamp_at g grid.stamps x y → InDirty (box_since g held grid) x y
  unfolding box_since stamp_at
  box_since_lem grid held x y h top above =
      rw (lt-leb grid.newest held (omega arith))
      (box_holds x y h (dirty_tiles (columns_of g) (rows_of g) held grid.stamps)
      (λ P all. dirty_each (columns_of g) (rows_of g) held grid.stamps P all (x / g.across.edge) (y / g.down.edge) (texel_column g ok x y h) (texel_row g ok x y h) above))

-- ---- the dirty tile

module _ (g : Tiling) (held : ℕ) (page : List ℕ) (columns count : ℕ) (wide : columns ≡ columns_of g) (many : count ≡ stamp_count g) where
  pub dirty_found : (k : ℕ) → k < count → held < get_or page k 0 → IsDirtyTile g held page (some_tile (k % columns) (k / columns))
  unfolding IsDirtyTile stamp_of stamp_count
  dirty_found k h above =
      let t = tile_at (columns_of g) (rows_of g) k (rw many at h) in
      rw wide (record { inside = (t.column, t.row); above = rw t.place at above })

  pub dirty_none : ((i : ℕ) → i < count → get_or page i 0 ≤ held) → IsDirtyTile g held page None
  unfolding IsDirtyTile stamp_of stamp_count
  dirty_none all column row h k =
      all (row * columns_of g + column) (rw many (tile_place (columns_of g) (rows_of g) column row h k))
