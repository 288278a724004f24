-- Laws of stamping: what a write stamps, tile by tile and texel by texel. Assumes nothing.
use mathlib.Core.Path.{◌≡◌, refl, sym, ◌∙◌}
use mathlib.Core.Bool.{Bool, true, false, cond}
use mathlib.Core.List.{List}
use Prim.Native.Nat.{ℕ, ◌+◌, ◌*◌, ◌/◌, ◌≤◌, ◌<◌}
use native.Mathlib.Omega.{arith}
use lib.ListN.{length, length-replicate}
use lib.Seq.{get_or-take}
use Rattle.base_blocks.proofs.Lists.{and_both}
use Rattle.grid_rects.specs.declared.rect.TexelRect.{TexelRect}
use Rattle.grid_axes.specs.Axes.{touched}
use Rattle.grid_stamps.specs.declared.grid.Tiling.{Tiling}
use Rattle.grid_stamps.specs.Grids.{TilingOk, columns_of, rows_of, stamp_count, StampGrid, new_grid, grid_in, stamp_of, touches, is_cut_rect, stamped_by}
use Rattle.grid_axes.proofs.Axes.{touched_texel, touched_has, cut_texel, tile_in}
use Rattle.grid_stamps.proofs.RowByRow.{tile_place, length_rows, value_at}

pub clash : {A : Type 0} → true ≡ false → A
clash q = absurd (let z : ◌≡◌ {A = ℕ} 0 1 = cc in let y : ⊥ = omega arith in y)

-- a texel of the level
pub record InLevel (g : Tiling) (x y : ℕ) : Type 0 where
  pub across : x < g.across.extent
  pub down : y < g.down.extent

-- a texel of the rectangle
pub record InRect (r : TexelRect) (x y : ℕ) : Type 0 where
  pub left : r.x ≤ x
  pub right : x < r.x + r.width
  pub top : r.y ≤ y
  pub bottom : y < r.y + r.height

-- the stamp of the tile that a texel lies in
unfoldable pub stamp_at : Tiling → List ℕ → ℕ → ℕ → ℕ
stamp_at g stamps x y = stamp_of (columns_of g) stamps (x / g.across.edge) (y / g.down.edge)

module _ (g : Tiling) (ok : TilingOk g) where
  -- a texel's tile is a tile of the grid
  pub texel_column : (x y : ℕ) → InLevel g x y → x / g.across.edge < columns_of g
  unfolding columns_of
  texel_column x y h = tile_in g.across ok.across.wide x h.across

  pub texel_row : (x y : ℕ) → InLevel g x y → y / g.down.edge < rows_of g
  unfolding rows_of
  texel_row x y h = tile_in g.down ok.down.wide y h.down

  module _ (r : TexelRect) where
    -- the tile of a texel of the rectangle is touched, and the cut is not empty
    pub touches_texel : (x y : ℕ) → InLevel g x y → InRect r x y → touches g r (x / g.across.edge) (y / g.down.edge) ≡ true
    unfolding touches
    touches_texel x y h k =
        rw (
          touched_texel g.across r.x r.width ok.across.wide x h.across k.left k.right,
          touched_texel g.down r.y r.height ok.down.wide y h.down k.top k.bottom,
        )

    pub cut_rect_texel : (x y : ℕ) → InLevel g x y → InRect r x y → is_cut_rect g r ≡ true
    unfolding is_cut_rect
    cut_rect_texel x y h k =
        rw (
          cut_texel g.across r.x r.width x h.across k.left k.right,
          cut_texel g.down r.y r.height y h.down k.top k.bottom,
        )

    -- a touched tile has a texel of the rectangle in the level
    pub record TouchedTexel (column row : ℕ) : Type 0 where
      pub x : ℕ
      pub y : ℕ
      pub inside : InLevel g x y
      pub within : InRect r x y
      pub across : x / g.across.edge ≡ column
      pub down : y / g.down.edge ≡ row

    pub touches_has : (column row : ℕ) → touches g r column row ≡ true → TouchedTexel column row
    unfolding touches
    touches_has column row e =
        let b = and_both (touched g.across r.x r.width column) (touched g.down r.y r.height row) e in
        let p = touched_has g.across r.x r.width ok.across.wide column b.0 in
        let q = touched_has g.down r.y r.height ok.down.wide row b.1 in
        record {
          x = p.0;
          y = q.0;
          inside = record { across = p.3; down = q.3 };
          within = record { left = p.1; right = p.2; top = q.1; bottom = q.2 };
          across = p.4;
          down = q.4;
        }

    -- so an empty cut touches nothing
    pub touches_cut : (column row : ℕ) → touches g r column row ≡ true → is_cut_rect g r ≡ true
    touches_cut column row e = let t = touches_has column row e in cut_rect_texel t.x t.y t.inside t.within

  -- ---- a grid after a write

  module _ (r : TexelRect) (n : ℕ) (grid : StampGrid) where
    pub length_stamped : length (stamped_by g r n grid).stamps ≡ stamp_count g
    unfolding stamped_by stamp_count
    length_stamped = length_rows (columns_of g) (rows_of g) _

    -- a touched tile has the write's number, any other what it had
    pub stamped_tile : (column row : ℕ) → column < columns_of g → row < rows_of g
        → stamp_of (columns_of g) (stamped_by g r n grid).stamps column row ≡ cond (touches g r column row) n (stamp_of (columns_of g) grid.stamps column row)
    unfolding stamped_by stamp_of
    stamped_tile column row h k = value_at (columns_of g) (rows_of g) _ column row 0 h k

    pub stamped_texel : (x y : ℕ) → InLevel g x y
        → stamp_at g (stamped_by g r n grid).stamps x y ≡ cond (touches g r (x / g.across.edge) (y / g.down.edge)) n (stamp_at g grid.stamps x y)
    unfolding stamp_at
    stamped_texel x y h = stamped_tile (x / g.across.edge) (y / g.down.edge) (texel_column x y h) (texel_row x y h)

    -- a texel whose tile is not stamped above held was not written, and its tile was not above held before
    pub stamp_below : (x y held : ℕ) → InLevel g x y → held < n → stamp_at g (stamped_by g r n grid).stamps x y ≤ held
        → (stamp_at g grid.stamps x y ≤ held) × (InRect r x y → ⊥)
    stamp_below x y held h lt le = go (touches g r (x / g.across.edge) (y / g.down.edge)) refl
      where
        go : (b : Bool) → touches g r (x / g.across.edge) (y / g.down.edge) ≡ b → (stamp_at g grid.stamps x y ≤ held) × (InRect r x y → ⊥)
        go true e = let m : n ≤ held = rw (stamped_texel x y h, e) at le in absurd (omega arith)
        go false e = (rw (stamped_texel x y h, e) at le, λ k. clash (sym (touches_texel r x y h k) ∙ e))

-- ---- the grid of a new history, and the grid that a page holds

pub new_length : (g : Tiling) → length (new_grid g).stamps ≡ stamp_count g
unfolding new_grid
new_length g = length-replicate (stamp_count g) 0

pub stamp_in_lem : (g : Tiling) (newest : ℕ) (page : List ℕ) (column row : ℕ) → column < columns_of g → row < rows_of g
    → stamp_of (columns_of g) (grid_in g newest page).stamps column row ≡ stamp_of (columns_of g) page column row
unfolding grid_in stamp_of stamp_count
stamp_in_lem g newest page column row h k = get_or-take (columns_of g * rows_of g) page (row * columns_of g + column) 0 (tile_place (columns_of g) (rows_of g) column row h k)
