-- Which grids of a history a write and a regeneration change. Assumes nothing.
use mathlib.Core.Path.{◌≡◌, refl, sym, ap, ◌∙◌}
use mathlib.Core.Bool.{cond}
use mathlib.Core.List.{List, [], ◌∷◌}
use Prim.Native.Nat.{ℕ, zero, suc, ◌+◌, ◌*◌, ◌/◌, ◌%◌, ◌<◌}
use native.Mathlib.Nat.{add-zero, zero-add, add-suc, suc-add, mul_comm, mul-add-div_right, div-eq_of_lt, mul-add-mod_self_right, mod-eq_of_lt, not-suc-le-zero, le_of_suc-le-suc}
use native.Mathlib.Decide.{ℕ_discrete}
use native.Mathlib.Omega.{arith}
use lib.Dec.{eqb}
use lib.ListN.{length, get_or, length-set}
use lib.Seq.{get_or-set_same, get_or-set_other}
use Rattle.base_blocks.proofs.Lists.{either}
use Rattle.grid_shapes.specs.declared.shape.VersionShape.{VersionShape}
use Rattle.grid_shapes.specs.Shapes.{slices_of, level_width, level_height}
use Rattle.grid_rects.specs.declared.rect.TexelRect.{TexelRect}
use Rattle.grid_rects.specs.Rects.{whole_level}
use Rattle.grid_stamps.specs.Grids.{StampGrid, tiling_of, new_grid, row_by_row, stamped_by}
use Rattle.grid_stamps.proofs.RowByRow.{tile_place, length_rows, value_at}
use Rattle.pool_rules.specs.Model.{WriteHistory}
use Rattle.pool_rules.specs.Histories.{grid_at, grid_place, new_history, stamp_write, regenerate_from, stamp_regeneration}

-- ---- places: slice by slice, level by level

place_slice : (slice level n : ℕ) → level < n → (slice * n + level) / n ≡ slice
place_slice slice level n h = mul-add-div_right (omega arith) slice level ∙ ap (λ (q : ℕ). slice + q) (div-eq_of_lt h) ∙ add-zero slice

pub place_level : (slice level n : ℕ) → level < n → (slice * n + level) % n ≡ level
place_level slice level n h = mul-add-mod_self_right slice n level ∙ mod-eq_of_lt h

abbrev no_grid : StampGrid
no_grid = record { newest = 0; stamps = [] }

-- ---- a new history

module _ (s : VersionShape) where
  pub new_size : length (new_history s).grids ≡ slices_of s * s.levels
  unfolding new_history row_by_row
  new_size = length_rows s.levels (slices_of s) (λ (level slice : ℕ). new_grid (tiling_of s level)) ∙ mul_comm s.levels (slices_of s)

  pub new_grid_lem : (slice level : ℕ) → slice < slices_of s → level < s.levels → grid_at s (new_history s) slice level ≡ new_grid (tiling_of s level)
  unfolding new_history grid_at row_by_row
  new_grid_lem slice level p q = value_at s.levels (slices_of s) (λ (level slice : ℕ). new_grid (tiling_of s level)) level slice no_grid q p

-- ---- the grids after a regeneration, by place

regenerated_at : (s : VersionShape) (n k : ℕ) (gs : List StampGrid) (i : ℕ) → i < length gs
    → get_or (regenerate_from s n k gs) i no_grid
    ≡ cond (eqb ((k + i) % s.levels) 0) (get_or gs i no_grid)
    (stamped_by (tiling_of s ((k + i) % s.levels)) (whole_level (level_width s ((k + i) % s.levels)) (level_height s ((k + i) % s.levels))) n (get_or gs i no_grid))
unfolding regenerate_from
regenerated_at s n k [] i h = absurd (not-suc-le-zero h)
regenerated_at s n k (g ∷ gs) zero h = rw (add-zero k)
regenerated_at s n k (g ∷ gs) (suc i) h = regenerated_at s n (suc k) gs i (le_of_suc-le-suc h) ∙ rw (suc-add k i, add-suc k i)

regenerated_length : (s : VersionShape) (n k : ℕ) (gs : List StampGrid) → length (regenerate_from s n k gs) ≡ length gs
unfolding regenerate_from
regenerated_length s n k [] = refl
regenerated_length s n k (g ∷ gs) = ap suc (regenerated_length s n (suc k) gs)

module _ (s : VersionShape) (h : WriteHistory) (size : length h.grids ≡ slices_of s * s.levels) where
  place_in : (slice level : ℕ) → slice < slices_of s → level < s.levels → grid_place s slice level < length h.grids
  place_in slice level p q = omega (arith, size, tile_place s.levels (slices_of s) level slice q p, mul_comm s.levels (slices_of s))

  -- ---- a write

  module _ (slice level : ℕ) (p : slice < slices_of s) (q : level < s.levels) (r : TexelRect) where
    abbrev stamped : StampGrid
    stamped = stamped_by (tiling_of s level) r (suc h.writes) (grid_at s h slice level)

    pub write_size : length (stamp_write s slice level r h).grids ≡ slices_of s * s.levels
    unfolding stamp_write
    write_size = length-set h.grids (grid_place s slice level) _ ∙ size

    pub written_grid : grid_at s (stamp_write s slice level r h) slice level ≡ stamped
    unfolding grid_at stamp_write
    written_grid = get_or-set_same h.grids (grid_place s slice level) _ no_grid (place_in slice level p q)

    pub unwritten_grid : (a b : ℕ) → b < s.levels → (a ≡ slice → b ≡ level → ⊥) → grid_at s (stamp_write s slice level r h) a b ≡ grid_at s h a b
    unfolding grid_at stamp_write
    unwritten_grid a b l ne =
        get_or-set_other h.grids (grid_place s slice level) (grid_place s a b) _ no_grid
        (λ e. ne (sym (place_slice a b s.levels l) ∙ ap (λ (z : ℕ). z / s.levels) e ∙ place_slice slice level s.levels q)
        (sym (place_level a b s.levels l) ∙ ap (λ (z : ℕ). z % s.levels) e ∙ place_level slice level s.levels q))

    -- what holds of every grid before, and of the stamped one, holds of every grid after
    pub write_each : (P : ℕ → StampGrid → Type 0) → ((a b : ℕ) → a < slices_of s → b < s.levels → P b (grid_at s h a b)) → P level stamped
        → (a b : ℕ) → a < slices_of s → b < s.levels → P b (grid_at s (stamp_write s slice level r h) a b)
    write_each P every new a b c d = go (ℕ_discrete a slice) (ℕ_discrete b level)
      where
        other : (a ≡ slice → b ≡ level → ⊥) → P b (grid_at s (stamp_write s slice level r h) a b)
        other ne = rw (unwritten_grid a b d ne) (every a b c d)

        go : Dec (a ≡ slice) → Dec (b ≡ level) → P b (grid_at s (stamp_write s slice level r h) a b)
        go (yes e) (yes f) = rw (e, f, written_grid) new
        go (no e) x = other (λ y z. e y)
        go (yes e) (no f) = other (λ y z. f z)

  -- ---- a regeneration

  -- a level's grid stamped whole
  abbrev pub remade : ℕ → ℕ → StampGrid
  remade slice level = stamped_by (tiling_of s level) (whole_level (level_width s level) (level_height s level)) (suc h.writes) (grid_at s h slice level)

  pub regenerated_size : length (stamp_regeneration s h).grids ≡ slices_of s * s.levels
  unfolding stamp_regeneration
  regenerated_size = regenerated_length s (suc h.writes) 0 h.grids ∙ size

  pub regenerated_grid : (slice level : ℕ) → slice < slices_of s → level < s.levels
      → grid_at s (stamp_regeneration s h) slice level ≡ cond (eqb level 0) (grid_at s h slice level) (remade slice level)
  unfolding grid_at stamp_regeneration
  regenerated_grid slice level p q =
      regenerated_at s (suc h.writes) 0 h.grids (grid_place s slice level) (place_in slice level p q)
      ∙ rw (zero-add (grid_place s slice level), place_level slice level s.levels q)

  -- what holds of a grid before and stamped whole holds of it after
  pub regenerate_each : (P : ℕ → StampGrid → Type 0) (a b : ℕ) → a < slices_of s → b < s.levels → P b (grid_at s h a b) → P b (remade a b)
      → P b (grid_at s (stamp_regeneration s h) a b)
  regenerate_each P a b p q old new = rw (regenerated_grid a b p q) (either (P b) (eqb b 0) (grid_at s h a b) (remade a b) (λ e. old) (λ e. new))
