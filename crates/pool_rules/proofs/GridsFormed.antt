-- Grids and histories stay formed: new, after a write and after a regeneration. Above all the largest stamp of a stamped grid is its newest.
-- Assumes nothing.
use Prim.Native.Nat.{ℕ, zero, suc, ◌+◌, ◌*◌, ◌/◌, ◌%◌, ◌≤◌, ◌<◌}
use mathlib.Core.Path.{◌≡◌, refl, sym, ◌∙◌, ap}
use mathlib.Core.Bool.{Bool, true, false, cond, ◌&&◌, true≢false}
use mathlib.Core.Option.{Option, none, some}
use mathlib.Core.List.{List, [], ◌∷◌}
use native.Mathlib.Omega.{arith}
use lib.ListN.{length, get_or, replicate}
use lib.Dec.{ltb}
use borrow.Author.Tests.{ltb-true, leb-false}
use Rattle.base_blocks.specs.Blocks.{largest}
use Rattle.base_blocks.proofs.Lists.{either, and_both}
use Rattle.base_blocks.proofs.Scans.{largest_bound}
use Rattle.grid_shapes.specs.declared.shape.VersionShape.{VersionShape}
use Rattle.grid_shapes.specs.Shapes.{is_shape, slices_of}
use Rattle.grid_rects.specs.declared.rect.TexelRect.{TexelRect}
use Rattle.grid_axes.specs.declared.axis.Axis.{Axis}
use Rattle.grid_axes.specs.Axes.{is_cut, cut_end}
use Rattle.grid_axes.proofs.Axes.{cut_some}
use Rattle.grid_stamps.specs.declared.grid.Tiling.{Tiling}
use Rattle.grid_stamps.specs.Grids.{TilingOk, tiling_of, columns_of, rows_of, stamp_count, stamp_of, StampGrid, new_grid, touches, is_cut_rect, stamped_by}
use Rattle.grid_stamps.proofs.Tilings.{tiling_ok}
use Rattle.grid_stamps.proofs.RowByRow.{tile_at, same_tiles}
use Rattle.grid_stamps.proofs.Stamps.{InLevel, InRect, texel_column, texel_row, touches_texel, touches_cut, length_stamped, stamped_tile, new_length}
use Rattle.pool_rules.specs.Model.{WriteHistory, limit, has_history}
use Rattle.pool_rules.specs.HistorySizes.{history_size}
use Rattle.pool_rules.specs.Histories.{in_shape, grid_at, new_history, stamp_write, stamp_regeneration, written, regenerated, spent}
use Rattle.pool_rules.specs.Formed.{Given, GridFormed, HistoryFormed}
use Rattle.pool_rules.proofs.GridPlaces.{new_size, new_grid_lem, write_size, write_each, regenerated_size, regenerate_each}

-- ---- grids

largest_zeros : (n : ℕ) → largest (replicate n 0) ≡ 0
unfolding largest
largest_zeros zero = refl
largest_zeros (suc n) = let e = largest_zeros n in omega arith

largest_within : (b : ℕ) (s : List ℕ) → ((i : ℕ) → i < length s → get_or s i 0 ≤ b) → largest s ≤ b
unfolding largest
largest_within b [] f = omega arith
largest_within b (x ∷ xs) f = let h = f 0 (omega arith) in let k = largest_within b xs (λ i l. f (suc i) (omega arith)) in omega arith

pub new_grid_formed : (g : Tiling) → GridFormed g 0 (new_grid g)
unfolding new_grid
new_grid_formed g = record { size = new_length g; newest = largest_zeros (stamp_count g); below = omega arith }

-- a cut that is not empty starts in the level
cut_start : (a : Axis) (start size : ℕ) → is_cut a start size ≡ true → (start < a.extent) × (start < start + size)
unfolding cut_end
cut_start a start size e = let h = cut_some a start size e in (omega arith, omega arith)

module _ (g : Tiling) (ok : TilingOk g) (r : TexelRect) (w n : ℕ) (lt : w < n) (grid : StampGrid) (f : GridFormed g w grid) where
  old_stamp : (i : ℕ) → get_or grid.stamps i 0 < n
  old_stamp i = omega (arith, largest_bound grid.stamps i, f.newest, f.below)

  tile_most : (column row : ℕ) → column < columns_of g → row < rows_of g → stamp_of (columns_of g) (stamped_by g r n grid).stamps column row ≤ n
  unfolding stamp_of
  tile_most column row h k =
      rw (stamped_tile g ok r n grid column row h k)
      (either (λ (m : ℕ). m ≤ n) (touches g r column row) n (get_or grid.stamps (row * columns_of g + column) 0) (λ e. omega arith)
      (λ e. let l = old_stamp (row * columns_of g + column) in omega arith))

  -- no stamp passes the write's number
  stamps_most : largest (stamped_by g r n grid).stamps ≤ n
  unfolding stamp_count stamp_of
  stamps_most =
      largest_within n (stamped_by g r n grid).stamps
      (λ i h. let t = tile_at (columns_of g) (rows_of g) i (rw (length_stamped g ok r n grid) at h) in
      rw t.place (tile_most (i % columns_of g) (i / columns_of g) t.column t.row))

  -- the tile of the cut's first texel has it
  stamps_reach : is_cut_rect g r ≡ true → n ≤ largest (stamped_by g r n grid).stamps
  unfolding is_cut_rect stamp_of
  stamps_reach e =
      let c = and_both (is_cut g.across r.x r.width) (is_cut g.down r.y r.height) e in
      let p = cut_start g.across r.x r.width c.0 in
      let q = cut_start g.down r.y r.height c.1 in
      let inside : InLevel g r.x r.y = record { across = p.0; down = q.0 } in
      let within : InRect r r.x r.y = record { left = omega arith; right = p.1; top = omega arith; bottom = q.1 } in
      let column : ℕ = r.x / g.across.edge in
      let row : ℕ = r.y / g.down.edge in
      let here : get_or (stamped_by g r n grid).stamps (row * columns_of g + column) 0 ≡ n =
      stamped_tile g ok r n grid column row (texel_column g ok r.x r.y inside) (texel_row g ok r.x r.y inside)
      ∙ ap (λ (b : Bool). cond b n (get_or grid.stamps (row * columns_of g + column) 0)) (touches_texel g ok r r.x r.y inside within) in
      let top = largest_bound (stamped_by g r n grid).stamps (row * columns_of g + column) in
      omega arith

  -- an empty cut leaves every stamp
  stamps_kept : is_cut_rect g r ≡ false → (stamped_by g r n grid).stamps ≡ grid.stamps
  unfolding stamp_count stamp_of
  stamps_kept e =
      same_tiles (columns_of g) (rows_of g) (stamped_by g r n grid).stamps grid.stamps (length_stamped g ok r n grid) f.size
      (λ column row h k. stamped_tile g ok r n grid column row h k
      ∙ ap (λ (b : Bool). cond b n (get_or grid.stamps (row * columns_of g + column) 0)) (untouched column row (touches g r column row) refl))
    where
      untouched : (column row : ℕ) (b : Bool) → touches g r column row ≡ b → touches g r column row ≡ false
      untouched column row true q = absurd (true≢false (sym (touches_cut g ok r column row q) ∙ e))
      untouched column row false q = q

  newest_stamped : (b : Bool) → is_cut_rect g r ≡ b → (stamped_by g r n grid).newest ≡ cond b n grid.newest
  unfolding stamped_by
  newest_stamped b e = rw e

  pub stamped_formed : GridFormed g n (stamped_by g r n grid)
  stamped_formed = go (is_cut_rect g r) refl
    where
      go : (b : Bool) → is_cut_rect g r ≡ b → GridFormed g n (stamped_by g r n grid)
      go true e =
          let q = newest_stamped true e in
          record { size = length_stamped g ok r n grid; newest = omega (arith, stamps_most, stamps_reach e); below = omega arith }
      go false e =
          let q = newest_stamped false e in
          record {
            size = length_stamped g ok r n grid;
            newest = ap largest (stamps_kept e) ∙ f.newest ∙ sym q;
            below = omega (arith, f.below);
          }

-- a grid whose count was raised by a write elsewhere
pub still_formed : {g : Tiling} {w : ℕ} {grid : StampGrid} → GridFormed g w grid → GridFormed g (suc w) grid
still_formed f = record { size = f.size; newest = f.newest; below = omega (arith, f.below) }

-- ---- histories

pub new_formed : (s : VersionShape) → HistoryFormed s (new_history s)
unfolding new_history
new_formed s = record {
  writes = omega arith;
  size = new_size s;
  grids = λ slice level p q. rw (new_grid_lem s slice level p q) (new_grid_formed (tiling_of s level));
}

module _ (s : VersionShape) (shaped : is_shape s ≡ true) (h : WriteHistory) (f : HistoryFormed s h) (free : h.writes < limit) where
  module _ (slice level : ℕ) (inSlice : slice < slices_of s) (inLevel : level < s.levels) (r : TexelRect) where
    pub write_formed : HistoryFormed s (stamp_write s slice level r h)
    unfolding stamp_write
    write_formed = record {
      writes = free;
      size = write_size s h f.size slice level inSlice inLevel r;
      grids = write_each s h f.size slice level inSlice inLevel r (λ b. GridFormed (tiling_of s b) (suc h.writes)) (λ a b p q. still_formed (f.grids a b p q))
          (stamped_formed (tiling_of s level) (tiling_ok s shaped level) r h.writes (suc h.writes) (omega arith) (grid_at s h slice level) (f.grids slice level inSlice inLevel));
    }

  pub regeneration_formed : HistoryFormed s (stamp_regeneration s h)
  unfolding stamp_regeneration
  regeneration_formed = record {
    writes = free;
    size = regenerated_size s h f.size;
    grids = λ a b p q. regenerate_each s h f.size (λ b. GridFormed (tiling_of s b) (suc h.writes)) a b p q (still_formed (f.grids a b p q))
        (stamped_formed (tiling_of s b) (tiling_ok s shaped b) _ h.writes (suc h.writes) (omega arith) (grid_at s h a b) (f.grids a b p q));
  }

-- ---- what a call makes of a state's history, and the stamps that it keeps

module _ (s : VersionShape) (shaped : is_shape s ≡ true) where
  pub written_formed : (slice level : ℕ) (r : TexelRect) (o : Option WriteHistory) → (in_shape s slice level && spent o) ≡ false
      → Given (HistoryFormed s) o → Given (HistoryFormed s) (written slice level r s o)
  written_formed slice level r none e f = tt
  written_formed slice level r (some h) e f =
      either (Given (HistoryFormed s)) (in_shape s slice level) (some (stamp_write s slice level r h)) none
      (λ q. let k = and_both (ltb slice (slices_of s)) (ltb level s.levels) q in
      write_formed s shaped h f (leb-false _ _ (rw q at e)) slice level (ltb-true _ _ k.0) (ltb-true _ _ k.1) r)
      (λ q. tt)

  pub regenerated_formed : (o : Option WriteHistory) → spent o ≡ false → Given (HistoryFormed s) o → Given (HistoryFormed s) (regenerated s o)
  regenerated_formed none e f = tt
  regenerated_formed (some h) e f = regeneration_formed s shaped h f (leb-false _ _ e)

module _ (s : VersionShape) where
  pub written_stamps : (slice level : ℕ) (r : TexelRect) (o : Option WriteHistory)
      → cond (has_history (written slice level r s o)) (history_size s) 0 ≤ cond (has_history o) (history_size s) 0
  written_stamps slice level r none = omega arith
  written_stamps slice level r (some h) =
      either (λ (o : Option WriteHistory). cond (has_history o) (history_size s) 0 ≤ history_size s) (in_shape s slice level) (some (stamp_write s slice level r h)) none
      (λ q. omega arith) (λ q. omega arith)

  pub regenerated_stamps : (o : Option WriteHistory) → cond (has_history (regenerated s o)) (history_size s) 0 ≤ cond (has_history o) (history_size s) 0
  regenerated_stamps none = omega arith
  regenerated_stamps (some h) = omega arith
