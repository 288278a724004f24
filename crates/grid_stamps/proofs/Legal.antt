-- A box is a legal rectangle: some texels of the level, on the block grid of every format whose block edge divides the tile edges.
-- Assumes nothing.
use mathlib.Core.Path.{◌≡◌, refl, sym, ap, subst, ◌∙◌}
use mathlib.Core.Bool.{Bool, true, false}
use mathlib.Core.List.{List, [], ◌∷◌, map}
use Prim.Native.Nat.{ℕ, suc, ◌+◌, ◌-◌, ◌*◌, ◌/◌, ◌%◌, ◌≤◌, ◌<◌, min}
use native.Mathlib.Nat.{mul-mod_left, mul_assoc, add-mul, div-add-mod', add-zero}
use native.Mathlib.Decide.{dec_le}
use native.Mathlib.Omega.{arith}
use lib.Dec.{leb}
use Rattle.base_blocks.specs.All.{All}
use Rattle.base_blocks.proofs.All.{all_head, all_tail, all_map}
use Rattle.grid_axes.specs.declared.axis.Axis.{Axis}
use Rattle.grid_axes.specs.declared.axis.Span.{Span}
use Rattle.grid_rects.specs.declared.rect.TexelRect.{TexelRect}
use Rattle.std.specs.Prelude.{Some}
use Rattle.grid_axes.specs.Axes.{SpanIn, one_tile, span_around, span_start, span_size}
use Rattle.grid_rects.specs.Rects.{side_on_grid, rect_on_grid}
use Rattle.grid_stamps.specs.declared.grid.Tiling.{Tiling}
use Rattle.grid_stamps.specs.declared.grid.Tile.{Tile}
use Rattle.grid_stamps.specs.Grids.{TilingOk, columns_of, rows_of, StampGrid, dirty_tiles, box_of, box_around, box_since}
use Rattle.grid_axes.proofs.Axes.{span_size_pos, span_inside, span_end}
use Rattle.grid_axes.proofs.Spans.{around_in, one_in}
use Rattle.grid_rects.proofs.Rects.{mod_multiple, side_of_blocks, side_at_edge}
use Rattle.grid_stamps.proofs.Boxes.{TileIn, dirty_in}

-- some texels of the level
pub record LegalRect (g : Tiling) (r : TexelRect) : Type 0 where
  pub wide : 0 < r.width
  pub high : 0 < r.height
  pub across : r.x + r.width ≤ g.across.extent
  pub down : r.y + r.height ≤ g.down.extent

-- ---- a span of whole tiles on the block grid

multiple : (block n k : ℕ) → n % block ≡ 0 → k * n % block ≡ 0
multiple block n k e =
    let q : n / block * block ≡ n = sym (add-zero (n / block * block)) ∙ ap (λ (m : ℕ). n / block * block + m) (sym e) ∙ div-add-mod' n block in
    ap (λ (m : ℕ). k * m % block) (sym q) ∙ ap (λ (m : ℕ). m % block) (sym (mul_assoc k (n / block) block)) ∙ mul-mod_left (k * (n / block)) block

module _ (a : Axis) (s : Span) (block : ℕ) (wide : 0 < a.edge) (h : SpanIn a s) (whole : a.edge % block ≡ 0) where
  -- it starts a whole number of blocks in
  starts : span_start a s % block ≡ 0
  unfolding span_start
  starts = multiple block a.edge s.first whole

  -- where the level does not cut it, it is a whole number of blocks long
  sizes : suc s.last * a.edge ≤ a.extent → span_size a s % block ≡ 0
  unfolding span_size span_start
  sizes q =
      let n = suc s.last - s.first in
      let m : n + s.first ≡ suc s.last = omega (arith, h.order) in
      let e : suc s.last * a.edge ≡ n * a.edge + s.first * a.edge = ap (λ (k : ℕ). k * a.edge) (sym m) ∙ add-mul n s.first a.edge in
      let f : min (suc s.last * a.edge) a.extent - s.first * a.edge ≡ n * a.edge = omega (arith, e, q) in
      ap (λ (k : ℕ). k % block) f ∙ multiple block a.edge n whole

  pub span_on_grid : side_on_grid block (span_start a s) (span_size a s) a.extent ≡ true
  span_on_grid = go (dec_le (suc s.last * a.edge) a.extent)
    where
      go : Dec (suc s.last * a.edge ≤ a.extent) → side_on_grid block (span_start a s) (span_size a s) a.extent ≡ true
      go (yes q) = side_of_blocks block (span_start a s) (span_size a s) a.extent (mod_multiple (span_start a s) block starts) (mod_multiple (span_size a s) block (sizes q))
      go (no q) =
          let e : span_start a s + span_size a s ≡ a.extent = omega (arith, span_end a s wide h) in
          side_at_edge block (span_start a s) (span_size a s) a.extent (mod_multiple (span_start a s) block starts) e

-- ---- the box

module _ (g : Tiling) (ok : TilingOk g) where
  -- the spans of tiles of the grid
  pub columns_in : (t : Tile) (ts : List Tile) → All (TileIn (columns_of g) (rows_of g)) (t ∷ ts)
      → SpanIn g.across (span_around (one_tile t.column) (map (λ (u : Tile). u.column) ts))
  unfolding columns_of
  columns_in t ts all =
      around_in g.across (one_tile t.column) _ (one_in g.across t.column (all_head all).across) (all_map (λ (u : Tile). u.column) (λ u h. h.across) (all_tail all))

  pub rows_in : (t : Tile) (ts : List Tile) → All (TileIn (columns_of g) (rows_of g)) (t ∷ ts)
      → SpanIn g.down (span_around (one_tile t.row) (map (λ (u : Tile). u.row) ts))
  unfolding rows_of
  rows_in t ts all =
      around_in g.down (one_tile t.row) _ (one_in g.down t.row (all_head all).down) (all_map (λ (u : Tile). u.row) (λ u h. h.down) (all_tail all))

  -- what holds of the box around tiles of the grid, of both spans
  box_of_lem : (P : TexelRect → Type 0) → ((columns rows : Span) → SpanIn g.across columns → SpanIn g.down rows → P (box_of g columns rows))
      → (ts : List Tile) → All (TileIn (columns_of g) (rows_of g)) ts → (r : TexelRect) → box_around g ts ≡ Some r → P r
  unfolding box_around
  box_of_lem P f [] all r e = absurd (let z : ◌≡◌ {A = ℕ} 0 1 = cc in let y : ⊥ = omega arith in y)
  box_of_lem P f (t ∷ ts) all r e =
      let q : box_of g (span_around (one_tile t.column) (map (λ (u : Tile). u.column) ts)) (span_around (one_tile t.row) (map (λ (u : Tile). u.row) ts)) ≡ r = cc in
      subst P q (f _ _ (columns_in t ts all) (rows_in t ts all))

  module _ (grid : StampGrid) (held : ℕ) (r : TexelRect) (found : box_since g held grid ≡ Some r) where
    around : box_around g (dirty_tiles (columns_of g) (rows_of g) held grid.stamps) ≡ Some r
    unfolding box_since
    around = go (leb grid.newest held) refl
      where
        go : (b : Bool) → leb grid.newest held ≡ b → box_around g (dirty_tiles (columns_of g) (rows_of g) held grid.stamps) ≡ Some r
        go true e = absurd (let f = rw e at found in let z : ◌≡◌ {A = ℕ} 0 1 = cc in let y : ⊥ = omega arith in y)
        go false e = rw e at found

    pub box_legal : LegalRect g r
    unfolding box_of
    box_legal =
        box_of_lem (LegalRect g)
        (λ columns rows c w. record {
          wide = span_size_pos g.across columns ok.across.wide c;
          high = span_size_pos g.down rows ok.down.wide w;
          across = span_inside g.across columns ok.across.wide c;
          down = span_inside g.down rows ok.down.wide w;
        })
        _ (dirty_in (columns_of g) (rows_of g) held grid.stamps) r around

    pub box_on_grid : (block : ℕ) → g.across.edge % block ≡ 0 → g.down.edge % block ≡ 0
        → rect_on_grid block r g.across.extent g.down.extent ≡ true
    unfolding rect_on_grid box_of
    box_on_grid block ea ed =
        box_of_lem (λ b. rect_on_grid block b g.across.extent g.down.extent ≡ true)
        (λ columns rows c w. rw (span_on_grid g.across columns block ok.across.wide c ea) (span_on_grid g.down rows block ok.down.wide w ed))
        _ (dirty_in (columns_of g) (rows_of g) held grid.stamps) r around
