-- A page after a write, and the page that a write leaves alone. Assumes nothing.
use mathlib.Core.Path.{◌≡◌, refl, sym, ap, ◌∙◌}
use mathlib.Core.Bool.{Bool, true, false, cond}
use mathlib.Core.List.{List}
use Prim.Native.Nat.{ℕ, suc, ◌+◌, ◌-◌, ◌*◌, ◌/◌, ◌%◌, ◌≤◌, ◌<◌}
use native.Mathlib.Nat.{mul-le-mul_right, mul_comm}
use native.Mathlib.Numerals.{add-one}
use native.Mathlib.Decide.{dec_lt}
use native.Mathlib.Omega.{arith}
use lib.ListN.{length, take, drop, get_or, take-append-drop}
use lib.Seq.{ext_get_or, length-take-le, get_or-take}
use Rattle.base_blocks.specs.Lists.{over}
use Rattle.base_blocks.proofs.Lists.{and_both, length_over, get_or_over_in, get_or_over_past, over_self}
use Rattle.grid_rects.specs.declared.rect.TexelRect.{TexelRect}
use Rattle.grid_axes.specs.declared.axis.Span.{Span}
use Rattle.std.specs.Prelude.{Some}
use Rattle.grid_axes.specs.Axes.{is_cut, cut_end, touched, touched_tiles, tiles_of}
use Rattle.grid_stamps.specs.declared.grid.Tiling.{Tiling}
use Rattle.grid_stamps.specs.Grids.{TilingOk, columns_of, rows_of, stamp_count, grid_in, stamp_of, touches, is_cut_rect, stamped_by}
use Rattle.grid_stamps.specs.Scans.{rows_stamped, tiles_stamped, StampRoom}
use Rattle.grid_axes.proofs.Axes.{touched_between, touched_from, touched_to, last_tile_in, first_last, Found, tiles_found}
use Rattle.grid_stamps.proofs.RowByRow.{tile_place, tile_at, same_tiles}
use Rattle.grid_stamps.proofs.Stamps.{clash, length_stamped, stamped_tile, stamp_in_lem, touches_cut}
use Rattle.grid_stamps.proofs.Rows.{length_rows_stamped, rows_out, rows_in, rows_past}

module _ (g : Tiling) (ok : TilingOk g) (r : TexelRect) (n newest : ℕ) (page : List ℕ) (room : stamp_count g ≤ length page) where
  -- the stamps of the page's grid after the write
  abbrev stamps : List ℕ
  stamps = (stamped_by g r n (grid_in g newest page)).stamps

  -- tile by tile
  stamps_at : (column row : ℕ) → column < columns_of g → row < rows_of g
      → get_or stamps (row * columns_of g + column) 0 ≡ cond (touches g r column row) n (get_or page (row * columns_of g + column) 0)
  unfolding stamp_of
  stamps_at column row h k =
      stamped_tile g ok r n (grid_in g newest page) column row h k ∙ ap (cond (touches g r column row) n) (stamp_in_lem g newest page column row h k)

  -- an empty cut leaves the page as it is
  pub page_kept : is_cut_rect g r ≡ false → over stamps page ≡ page
  unfolding stamp_count
  page_kept e =
      ap (λ (l : List ℕ). over l page)
      (same_tiles (columns_of g) (rows_of g) stamps (take (columns_of g * rows_of g) page) (length_stamped g ok r n (grid_in g newest page)) (length-take-le _ page room)
      (λ column row h k. stamps_at column row h k ∙ ap (λ (b : Bool). cond b n (get_or page (row * columns_of g + column) 0)) (none column row (touches g r column row) refl)
      ∙ sym (get_or-take (columns_of g * rows_of g) page (row * columns_of g + column) 0 (place column row h k))))
      ∙ over_self (take (columns_of g * rows_of g) page) page (drop (columns_of g * rows_of g) page) (sym (take-append-drop (columns_of g * rows_of g) page))
    where
      place : (column row : ℕ) → column < columns_of g → row < rows_of g → row * columns_of g + column < columns_of g * rows_of g
      place = tile_place (columns_of g) (rows_of g)

      none : (column row : ℕ) (b : Bool) → touches g r column row ≡ b → touches g r column row ≡ false
      none column row true q = clash (sym (touches_cut g ok r column row q) ∙ e)
      none column row false q = q

  module _ (cx : is_cut g.across r.x r.width ≡ true) (cy : is_cut g.down r.y r.height ≡ true) where
    -- the first and the last touched column and row
    abbrev left : ℕ
    left = r.x / g.across.edge

    abbrev right : ℕ
    right = (cut_end g.across r.x r.width - 1) / g.across.edge

    abbrev top : ℕ
    top = r.y / g.down.edge

    abbrev bottom : ℕ
    bottom = (cut_end g.down r.y r.height - 1) / g.down.edge

    pub columns_fit : left + (suc right - left) ≤ columns_of g
    unfolding columns_of
    columns_fit = omega (arith, first_last g.across r.x r.width ok.across.wide cx, last_tile_in g.across r.x r.width ok.across.wide cx)

    pub rows_fit : suc bottom ≤ rows_of g
    unfolding rows_of
    rows_fit = last_tile_in g.down r.y r.height ok.down.wide cy

    pub rows_order : top ≤ bottom
    rows_order = first_last g.down r.y r.height ok.down.wide cy

    rows_end : top + (suc bottom - top) ≡ suc bottom
    rows_end = omega (arith, rows_order)

    -- the rows lie in the grid's stamps
    pub rows_room : suc bottom * columns_of g ≤ stamp_count g
    unfolding stamp_count
    rows_room = omega (arith, mul-le-mul_right (columns_of g) rows_fit, mul_comm (columns_of g) (rows_of g))

    room_rows : (top + (suc bottom - top)) * columns_of g ≤ length page
    room_rows = rw rows_end (omega (arith, rows_room))

    -- a tile is touched if and only if it lies in those columns and rows
    in_touched : (column row : ℕ) → top ≤ row → row < suc bottom → left ≤ column → column < left + (suc right - left) → touches g r column row ≡ true
    unfolding touches
    in_touched column row a b c d =
        rw (
          touched_between g.across r.x r.width ok.across.wide column cx c (omega (arith, first_last g.across r.x r.width ok.across.wide cx)),
          touched_between g.down r.y r.height ok.down.wide row cy a (omega arith),
        )

    record Among (column row : ℕ) : Type 0 where
      from_row : top ≤ row
      to_row : row < suc bottom
      from_column : left ≤ column
      to_column : column < left + (suc right - left)

    touched_in : (column row : ℕ) → touches g r column row ≡ true → Among column row
    unfolding touches
    touched_in column row e =
        let b = and_both (touched g.across r.x r.width column) (touched g.down r.y r.height row) e in
        let p = touched_from g.across r.x r.width ok.across.wide column b.0 in
        let q = touched_to g.across r.x r.width ok.across.wide column b.0 in
        let s = touched_from g.down r.y r.height ok.down.wide row b.1 in
        let t = touched_to g.down r.y r.height ok.down.wide row b.1 in
        record { from_row = s; to_row = omega arith; from_column = p; to_column = omega arith }

    abbrev rowed : List ℕ
    rowed = rows_stamped (columns_of g) left (suc right - left) n top (suc bottom - top) page

    rowed_at : (column row : ℕ) → column < columns_of g → (b : Bool) → touches g r column row ≡ b
        → cond b n (get_or page (row * columns_of g + column) 0) ≡ get_or rowed (row * columns_of g + column) 0
    rowed_at column row h true e =
        let t = touched_in column row e in
        sym (rows_in (columns_of g) left (suc right - left) n columns_fit top (suc bottom - top) page room_rows column row h
        t.from_row (rw rows_end t.to_row) t.from_column t.to_column)
    rowed_at column row h false e =
        sym (rows_out (columns_of g) left (suc right - left) n columns_fit top (suc bottom - top) page room_rows column row h
        (λ a b c d. clash (sym (in_touched column row a (rw rows_end at b) c d) ∙ e)))

    grid_at_lem : (i : ℕ) → i < stamp_count g → get_or stamps i 0 ≡ get_or rowed i 0
    unfolding stamp_count
    grid_at_lem i q =
        let t = tile_at (columns_of g) (rows_of g) i q in
        let c = i % columns_of g in
        let w = i / columns_of g in
        ap (λ (k : ℕ). get_or stamps k 0) t.place ∙ stamps_at c w t.column t.row ∙ rowed_at c w t.column (touches g r c w) refl
        ∙ ap (λ (k : ℕ). get_or rowed k 0) (sym t.place)

    -- the rows of touched tiles, stamped one after the other, are the page after the write
    pub page_stamped : over stamps page ≡ rowed
    page_stamped =
        ext_get_or 0 (over stamps page) rowed (longer ∙ sym (length_rows_stamped (columns_of g) left (suc right - left) n columns_fit top (suc bottom - top) page))
        (λ i h. go i (dec_lt i (stamp_count g)))
      where
        count : length stamps ≡ stamp_count g
        count = length_stamped g ok r n (grid_in g newest page)

        longer : length (over stamps page) ≡ length page
        longer = length_over stamps page (rw count room)

        go : (i : ℕ) → Dec (i < stamp_count g) → get_or (over stamps page) i 0 ≡ get_or rowed i 0
        go i (yes q) = get_or_over_in stamps page i 0 (rw count q) ∙ grid_at_lem i q
        go i (no q) =
            get_or_over_past stamps page i 0 (rw count (omega arith))
            ∙ sym (rows_past (columns_of g) left (suc right - left) n columns_fit top (suc bottom - top) page room_rows i (rw rows_end (omega (arith, rows_room))))

  -- ---- the same for spans that were found

  module _ (cs rs : Span) (fc : touched_tiles g.across r.x r.width ≡ Some cs) (fr : touched_tiles g.down r.y r.height ≡ Some rs) where
    column_span : Found g.across r.x r.width cs
    column_span = tiles_found g.across r.x r.width cs fc

    row_span : Found g.down r.y r.height rs
    row_span = tiles_found g.down r.y r.height rs fr

    pub stamp_room : StampRoom (columns_of g) cs rs (length page)
    unfolding columns_of
    stamp_room =
        let c = column_span in
        let w = row_span in
        let last : rs.last < tiles_of g.down = rw w.last (last_tile_in g.down r.y r.height ok.down.wide w.cut) in
        let most : (rs.last + 1) * tiles_of g.across ≤ stamp_count g = rw (w.last, add-one) (rows_room c.cut w.cut) in
        record {
          wide = rw (c.first, c.last) (first_last g.across r.x r.width ok.across.wide c.cut);
          right = rw c.last (last_tile_in g.across r.x r.width ok.across.wide c.cut);
          narrow = ok.across.tiles;
          high = rw (w.first, w.last) (first_last g.down r.y r.height ok.down.wide w.cut);
          low = omega (arith, last, ok.down.tiles);
          room = omega (arith, most, room);
        }

    pub page_spans : over stamps page ≡ tiles_stamped (columns_of g) cs rs n page
    unfolding tiles_stamped
    page_spans =
        let c = column_span in
        let w = row_span in
        page_stamped c.cut w.cut
        ∙ sym (rw (c.first, c.last, w.first, w.last, add-one ((cut_end g.across r.x r.width - 1) / g.across.edge), add-one ((cut_end g.down r.y r.height - 1) / g.down.edge)))

    pub newest_stamped : (stamped_by g r n (grid_in g newest page)).newest ≡ n
    unfolding stamped_by is_cut_rect
    newest_stamped = rw (column_span.cut, row_span.cut)

  -- and where the cut is empty
  pub newest_kept : is_cut_rect g r ≡ false → (stamped_by g r n (grid_in g newest page)).newest ≡ newest
  unfolding stamped_by grid_in
  newest_kept e = rw e
