-- Rule: A texture's write history: new, after a write, after a mip regeneration (01, "Tracking and plans" and "The stamp grid").
use Rattle.std.specs.Prelude.{ℕ, suc, ◌+◌, ◌*◌, ◌%◌, Bool, false, cond, ◌&&◌, ltb, leb, eqb, get_or, set}
use Rattle.std.proofs.Math.Option.{Option, none, some}
use mathlib.Core.List.{List, [], ◌∷◌, flat_map}
use Rattle.base_blocks.specs.Lists.{listed}
use Rattle.grid_shapes.specs.declared.shape.VersionShape.{VersionShape}
use Rattle.grid_shapes.specs.Shapes.{slices_of, level_width, level_height}
use Rattle.grid_rects.specs.declared.rect.TexelRect.{TexelRect}
use Rattle.grid_rects.specs.Rects.{whole_level}
use Rattle.grid_stamps.specs.Grids.{StampGrid, tiling_of, new_grid, stamped_by}
use Rattle.pool_rules.specs.Model.{WriteHistory, limit}

-- a subresource of the shape
abbrev pub in_shape : VersionShape → ℕ → ℕ → Bool
in_shape s slice level = ltb slice (slices_of s) && ltb level s.levels

-- the place of a subresource's grid: slice by slice, level by level
abbrev pub grid_place : VersionShape → ℕ → ℕ → ℕ
grid_place s slice level = slice * s.levels + level

-- a subresource's grid; an empty one where there is none
unfoldable pub grid_at : VersionShape → WriteHistory → ℕ → ℕ → StampGrid
grid_at s h slice level = get_or h.grids (grid_place s slice level) (record { newest = 0; stamps = [] })

-- nothing written
unfoldable pub new_history : VersionShape → WriteHistory
new_history s = record {
  writes = 0;
  grids =
      flat_map (λ (slice : ℕ). listed (λ (level : ℕ). new_grid (tiling_of s level)) 0 s.levels) (listed (λ (slice : ℕ). slice) 0 (slices_of s));
}

-- a write inside the shape raises the count by one, even when its cut is empty, and stamps the tiles that it touches
unfoldable pub stamp_write : VersionShape → ℕ → ℕ → TexelRect → WriteHistory → WriteHistory
stamp_write s slice level r h = record {
  writes = suc h.writes;
  grids = set h.grids (grid_place s slice level) (stamped_by (tiling_of s level) r (suc h.writes) (grid_at s h slice level));
}

-- the grids from place k on, each of a level but the first stamped whole
unfoldable pub regenerate_from : VersionShape → ℕ → ℕ → List StampGrid → List StampGrid
regenerate_from s n k [] = []
regenerate_from s n k (g ∷ gs) =
    cond (eqb (k % s.levels) 0) g
    (stamped_by (tiling_of s (k % s.levels)) (whole_level (level_width s (k % s.levels)) (level_height s (k % s.levels))) n g)
    ∷ regenerate_from s n (suc k) gs

-- a regeneration raises the count by one and stamps every level but the first, on every slice
unfoldable pub stamp_regeneration : VersionShape → WriteHistory → WriteHistory
stamp_regeneration s h = record { writes = suc h.writes; grids = regenerate_from s (suc h.writes) 0 h.grids }

-- a history after a write: outside slices or levels it is dropped
abbrev pub written : ℕ → ℕ → TexelRect → VersionShape → Option WriteHistory → Option WriteHistory
written slice level r s none = none
written slice level r s (some h) = cond (in_shape s slice level) (some (stamp_write s slice level r h)) none

abbrev pub regenerated : VersionShape → Option WriteHistory → Option WriteHistory
regenerated s none = none
regenerated s (some h) = some (stamp_regeneration s h)

-- a history whose write count is spent
abbrev pub spent : Option WriteHistory → Bool
spent none = false
spent (some h) = leb limit h.writes
