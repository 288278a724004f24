-- What a write and a regeneration do to the stamp of a texel's tile. The rules of plans rest on these laws.
use Prim.Native.Nat.{ℕ, zero, suc, ◌*◌, ◌/◌, ◌≤◌, ◌<◌}
use mathlib.Core.Path.{◌≡◌, refl}
use mathlib.Core.Bool.{Bool, true, false, cond}
use native.Mathlib.Omega.{arith}
use native.Mathlib.Decide.{ℕ_discrete}
use lib.Dec.{eqb}
use borrow.Author.Tests.{eqb-true}
use lib.ListN.{length, get_or}
use Rattle.base_blocks.proofs.Lists.{either}
use Rattle.grid_shapes.specs.declared.shape.VersionShape.{VersionShape}
use Rattle.grid_shapes.specs.Shapes.{is_shape, slices_of, level_width, level_height}
use Rattle.grid_rects.specs.declared.rect.TexelRect.{TexelRect}
use Rattle.grid_rects.specs.Rects.{whole_level}
use Rattle.grid_axes.specs.Axes.{axis_of}
use Rattle.grid_stamps.specs.declared.grid.Tiling.{Tiling}
use Rattle.grid_stamps.specs.Grids.{TilingOk, StampGrid, tiling_of, stamp_count, stamp_of, new_grid, touches, is_cut_rect, stamped_by}
use Rattle.grid_stamps.proofs.Tilings.{tiling_ok}
use Rattle.grid_stamps.proofs.Stamps.{InLevel, InRect, stamp_at, touches_cut, length_stamped, stamped_texel, stamp_below, new_length}
use Rattle.pool_rules.specs.Model.{WriteHistory}
use Rattle.pool_rules.proofs.GridPlaces.{new_size, new_grid_lem, write_size, written_grid, unwritten_grid, write_each, regenerated_size, regenerated_grid, regenerate_each}
use Rattle.pool_rules.specs.Histories.{grid_at, new_history, stamp_write, stamp_regeneration}

-- the stamp of the tile that a texel lies in
unfoldable pub stamp_in : VersionShape → WriteHistory → ℕ → ℕ → ℕ → ℕ → ℕ
stamp_in s h slice level x y = stamp_at (tiling_of s level) (grid_at s h slice level).stamps x y

-- a stamp for each tile; stamps at most `newest`, and that at most the texture's write count
pub record GridOk (g : Tiling) (writes : ℕ) (grid : StampGrid) : Type 0 where
  pub size : length grid.stamps ≡ stamp_count g
  pub below : (x y : ℕ) → InLevel g x y → stamp_at g grid.stamps x y ≤ grid.newest
  pub newest : grid.newest ≤ writes

pub record HistoryOk (s : VersionShape) (h : WriteHistory) : Type 0 where
  pub shape : is_shape s ≡ true
  pub size : length h.grids ≡ slices_of s * s.levels
  pub grids : (slice level : ℕ) → slice < slices_of s → level < s.levels → GridOk (tiling_of s level) h.writes (grid_at s h slice level)

-- a texel of a level lies in the level's tiling
pub in_level : (s : VersionShape) (level x y : ℕ) → x < level_width s level → y < level_height s level → InLevel (tiling_of s level) x y
unfolding tiling_of axis_of
in_level s level x y h k = record { across = h; down = k }

-- ---- one grid

pub stamped_ok : (g : Tiling) → TilingOk g → (r : TexelRect) (m n : ℕ) (grid : StampGrid) → m ≤ n → GridOk g m grid → GridOk g n (stamped_by g r n grid)
unfolding stamped_by
stamped_ok g ok r m n grid le k = record {
  size = length_stamped g ok r n grid;
  below = λ x y i. rw (stamped_texel g ok r n grid x y i) (under x y i (touches g r (x / g.across.edge) (y / g.down.edge)) refl);
  newest = either (λ z. z ≤ n) (is_cut_rect g r) n grid.newest (λ e. omega arith) (λ e. omega (arith, k.newest));
}
  where
    under : (x y : ℕ) → InLevel g x y → (b : Bool) → touches g r (x / g.across.edge) (y / g.down.edge) ≡ b
        → cond b n (stamp_at g grid.stamps x y) ≤ cond (is_cut_rect g r) n grid.newest
    under x y i true e = rw (touches_cut g ok r (x / g.across.edge) (y / g.down.edge) e) (omega arith)
    under x y i false e =
        either (λ z. stamp_at g grid.stamps x y ≤ z) (is_cut_rect g r) n grid.newest (λ q. omega (arith, k.below x y i, k.newest)) (λ q. k.below x y i)

pub new_grid_ok : (g : Tiling) → GridOk g 0 (new_grid g)
unfolding new_grid stamp_at stamp_of
new_grid_ok g = record { size = new_length g; below = λ x y i. zeros (stamp_count g) _; newest = omega arith }
  where
    zeros : (n i : ℕ) → get_or (lib.ListN.replicate n 0) i 0 ≤ 0
    zeros zero i = omega arith
    zeros (suc n) zero = omega arith
    zeros (suc n) (suc i) = zeros n i

-- a grid whose texture's count was raised by a write elsewhere
still : {g : Tiling} {w : ℕ} {grid : StampGrid} → GridOk g w grid → GridOk g (suc w) grid
still k = record { size = k.size; below = k.below; newest = omega (arith, k.newest) }

module _ (s : VersionShape) (h : WriteHistory) (ok : HistoryOk s h) where
  -- ---- a write

  module _ (slice level : ℕ) (p : slice < slices_of s) (q : level < s.levels) (r : TexelRect) where
    pub write_ok : HistoryOk s (stamp_write s slice level r h)
    unfolding stamp_write
    write_ok = record {
      shape = ok.shape;
      size = write_size s h ok.size slice level p q r;
      grids = write_each s h ok.size slice level p q r (λ b. GridOk (tiling_of s b) (suc h.writes)) (λ a b c d. still (ok.grids a b c d))
          (stamped_ok (tiling_of s level) (tiling_ok s ok.shape level) r h.writes (suc h.writes) (grid_at s h slice level) (omega arith) (ok.grids slice level p q));
    }

    -- a texel whose tile is not stamped above held was not written, and its tile was not above held before
    pub write_below : (a b x y held : ℕ) → b < s.levels → x < level_width s b → y < level_height s b → held ≤ h.writes → stamp_in s (stamp_write s slice level r h) a b x y ≤ held
        → (stamp_in s h a b x y ≤ held) × (a ≡ slice → b ≡ level → InRect r x y → ⊥)
    unfolding stamp_in
    write_below a b x y held l i j m le = go (ℕ_discrete a slice) (ℕ_discrete b level)
      where
        other : (a ≡ slice → b ≡ level → ⊥) → (stamp_in s h a b x y ≤ held) × (a ≡ slice → b ≡ level → InRect r x y → ⊥)
        other ne = (rw (unwritten_grid s h ok.size slice level p q r a b l ne) at le, λ e f k. ne e f)

        go : Dec (a ≡ slice) → Dec (b ≡ level) → (stamp_in s h a b x y ≤ held) × (a ≡ slice → b ≡ level → InRect r x y → ⊥)
        go (no e) d = other (λ y z. e y)
        go (yes e) (no f) = other (λ y z. f z)
        go (yes e) (yes f) =
            let st : stamp_at (tiling_of s level) (stamped_by (tiling_of s level) r (suc h.writes) (grid_at s h slice level)).stamps x y ≤ held = rw (e, f, written_grid s h ok.size slice level p q r) at le in
            let within : InLevel (tiling_of s level) x y = rw f at (in_level s b x y i j) in
            let sb = stamp_below (tiling_of s level) (tiling_ok s ok.shape level) r (suc h.writes) (grid_at s h slice level) x y held within (omega arith) st in
            (rw (e, f) sb.0, λ e' f' k. sb.1 k)

  -- ---- a regeneration

  pub regenerate_ok : HistoryOk s (stamp_regeneration s h)
  unfolding stamp_regeneration
  regenerate_ok = record {
    shape = ok.shape;
    size = regenerated_size s h ok.size;
    grids = λ a b p q. regenerate_each s h ok.size (λ b. GridOk (tiling_of s b) (suc h.writes)) a b p q (still (ok.grids a b p q))
        (stamped_ok (tiling_of s b) (tiling_ok s ok.shape b) _ h.writes (suc h.writes) (grid_at s h a b) (omega arith) (ok.grids a b p q));
  }

  -- a texel whose tile is not stamped above held lies in level 0, and its tile was not above held before
  pub regenerate_below : (a b x y held : ℕ) → a < slices_of s → b < s.levels → x < level_width s b → y < level_height s b → held ≤ h.writes
      → stamp_in s (stamp_regeneration s h) a b x y ≤ held → (stamp_in s h a b x y ≤ held) × (b ≡ 0)
  unfolding stamp_in whole_level
  regenerate_below a b x y held p q i j m le = go (eqb b 0) refl (rw (regenerated_grid s h ok.size a b p q) at le)
    where
      go : (c : Bool) → eqb b 0 ≡ c
          → stamp_at (tiling_of s b) (cond (eqb b 0) (grid_at s h a b) (stamped_by (tiling_of s b) (whole_level (level_width s b) (level_height s b)) (suc h.writes) (grid_at s h a b))).stamps x y ≤ held
          → (stamp_in s h a b x y ≤ held) × (b ≡ 0)
      go true e st = (rw e at st, eqb-true _ _ e)
      go false e st =
          let sb = stamp_below (tiling_of s b) (tiling_ok s ok.shape b) (whole_level (level_width s b) (level_height s b)) (suc h.writes) (grid_at s h a b) x y held (in_level s b x y i j) (omega arith)
          (rw e at st) in
          absurd (sb.1 (record { left = omega arith; right = omega arith; top = omega arith; bottom = omega arith }))

-- ---- a new history

pub new_ok : (s : VersionShape) → is_shape s ≡ true → HistoryOk s (new_history s)
unfolding new_history
new_ok s shaped = record { shape = shaped; size = new_size s; grids = λ a b p q. rw (new_grid_lem s a b p q) (new_grid_ok (tiling_of s b)) }
