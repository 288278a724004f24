-- The stamps of a level's grid, and those of a slice's levels and of whole slices, added up: bounds and what the sums are. Assumes nothing.
use mathlib.Core.Path.{◌≡◌, sym, ap, ap₂, ◌∙◌, subst}
use mathlib.Core.Bool.{true}
use Prim.Native.Nat.{ℕ, zero, suc, ◌+◌, ◌*◌, ◌≤◌, ◌<◌}
use native.Mathlib.Numerals.{add-one}
use native.Mathlib.Omega.{arith}
use Rattle.grid_shapes.specs.declared.shape.VersionShape.{VersionShape}
use Rattle.grid_shapes.specs.Shapes.{is_shape, slices_of}
use Rattle.grid_shapes.proofs.Shapes.{shape_bounds}
use Rattle.grid_stamps.specs.declared.grid.Tiling.{Tiling}
use Rattle.grid_stamps.specs.Grids.{TilingOk, tiling_of, stamp_count, tiled}
use Rattle.grid_stamps.specs.StampConstants.{page_stamps}
use Rattle.grid_stamps.proofs.Tilings.{tiling_ok, count_bound}
use Rattle.pool_rules.specs.Model.{grid_count}
use Rattle.pool_rules.specs.HistorySizes.{history_size, level_start}
use Rattle.pool_rules.specs.RuleConstants.{most_grids}
use Rattle.pool_rules.proofs.HistorySizes.{history_size_lem, history_most, level_none, level_next}
use Rattle.grid_axes.specs.declared.axis.Axis.{Axis}
use Rattle.grid_axes.specs.Axes.{AxisOk}

-- a history has a grid for each slice and level
pub grids_by_slices : (s : VersionShape) (n : ℕ) → n ≡ slices_of s → n * s.levels ≡ grid_count s
unfolding grid_count
grids_by_slices s n e = ap (λ (k : ℕ). k * s.levels) e

-- ---- one level

pub tiling_known_ok : (s : VersionShape) → is_shape s ≡ true → (level : ℕ) (g : Tiling) → g ≡ tiling_of s level → TilingOk g
tiling_known_ok s shaped level g e = subst TilingOk (sym e) (tiling_ok s shaped level)

-- the two axes apart: both fit, and what they count together is what the level counts
module _ (s : VersionShape) (shaped : is_shape s ≡ true) (level : ℕ) (across down : Axis) (f : across ≡ (tiling_of s level).across)
    (g : down ≡ (tiling_of s level).down) where
  pub axes_ok : AxisOk across × AxisOk down
  axes_ok = let ok = tiling_ok s shaped level in (subst AxisOk (sym f) ok.across, subst AxisOk (sym g) ok.down)

  pub count_known : (r : ℕ) → r ≡ stamp_count (tiled across down) → r ≡ stamp_count (tiling_of s level)
  count_known r e = e ∙ ap stamp_count (ap₂ tiled f g)

-- ---- levels in a row

module _ (s : VersionShape) where
  pub level_more : (k : ℕ) → level_start s (k + 1) ≡ level_start s k + stamp_count (tiling_of s k)
  level_more k = ap (level_start s) (add-one k) ∙ level_next s k

  module _ (shaped : is_shape s ≡ true) where
    level_bound : (k : ℕ) → level_start s k ≤ page_stamps * k
    level_bound zero = omega (arith, level_none s)
    level_bound (suc k) = omega (arith, level_next s k, level_bound k, count_bound (tiling_of s k) (tiling_ok s shaped k))

    -- up to any level of the shape: fifteen pages at most
    level_most : (k : ℕ) → k ≤ s.levels → level_start s k ≤ page_stamps * 15
    level_most k h = omega (arith, level_bound k, (shape_bounds s shaped).levels_bound)

    -- one level more
    pub level_fits : (k : ℕ) → k < s.levels → level_start s k + stamp_count (tiling_of s k) ≤ page_stamps * 15
    level_fits k h = omega (arith, level_more k, level_most (k + 1) (omega arith))

    -- ---- whole slices

    pub slices_stamps : (n one : ℕ) → n ≡ slices_of s → one ≡ level_start s s.levels → n * one ≡ history_size s
    slices_stamps n one e f = ap₂ (λ (a b : ℕ). a * b) e f ∙ sym (history_size_lem s)

    pub slices_most : (n one : ℕ) → n ≡ slices_of s → one ≡ level_start s s.levels → n * one ≤ page_stamps * most_grids
    slices_most n one e f = omega (arith, slices_stamps n one e f, history_most s shaped)
