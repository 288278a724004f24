-- A level's tiling from its extents and from the edges that stand beside a grid's newest stamp. Assumes nothing.
use mathlib.Core.Path.{◌≡◌}
use Prim.Native.Nat.{ℕ}
use Rattle.grid_shapes.specs.declared.shape.VersionShape.{VersionShape}
use Rattle.grid_shapes.specs.Shapes.{level_extent, level_width, level_height}
use Rattle.grid_axes.specs.Axes.{axis_of}
use Rattle.grid_stamps.specs.declared.grid.Tiling.{Tiling}
use Rattle.grid_stamps.specs.Grids.{tiling_of}
use Rattle.pool_records.specs.declared.tiling.GridTiling.{GridTiling}

-- each axis by itself
module _ (s : VersionShape) (level extent edge : ℕ) where
  pub across_known : extent ≡ level_extent s.width level → edge ≡ (tiling_of s level).across.edge
      → record { extent = extent; edge = edge } ≡ (tiling_of s level).across
  unfolding tiling_of axis_of level_width
  across_known e f = λ i. record { extent = e i; edge = f i }

  pub down_known : extent ≡ level_extent s.height level → edge ≡ (tiling_of s level).down.edge
      → record { extent = extent; edge = edge } ≡ (tiling_of s level).down
  unfolding tiling_of axis_of level_height
  down_known e f = λ i. record { extent = e i; edge = f i }

-- both
module _ (s : VersionShape) (level width height : ℕ) (t : GridTiling) where
  pub tiling_known : width ≡ level_extent s.width level → height ≡ level_extent s.height level → t.across ≡ (tiling_of s level).across.edge
      → t.down ≡ (tiling_of s level).down.edge
      → ◌≡◌ {A = Tiling} (record { across = record { extent = width; edge = t.across }; down = record { extent = height; edge = t.down } }) (tiling_of s level)
  unfolding tiling_of axis_of level_width level_height
  tiling_known w h f g = λ i. record { across = record { extent = w i; edge = f i }; down = record { extent = h i; edge = g i } }
