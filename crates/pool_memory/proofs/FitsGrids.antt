-- The grids of a formed history, by place. Assumes nothing.
use mathlib.Core.Path.{sym, subst}
use mathlib.Core.List.{[]}
use Prim.Native.Nat.{ℕ, ◌/◌, ◌%◌, ◌<◌}
use native.Mathlib.Nat.{mul_comm}
use native.Mathlib.Omega.{arith}
use lib.ListN.{length, get_or}
use Rattle.grid_shapes.specs.declared.shape.VersionShape.{VersionShape}
use Rattle.grid_shapes.specs.Shapes.{slices_of}
use Rattle.grid_stamps.specs.Grids.{tiling_of, StampGrid}
use Rattle.grid_stamps.proofs.RowByRow.{tile_at}
use Rattle.pool_rules.specs.Model.{WriteHistory}
use Rattle.pool_rules.specs.Histories.{grid_at}
use Rattle.pool_rules.specs.Formed.{GridFormed, HistoryFormed}

-- what stands for a grid where there is none
abbrev pub no_grid : StampGrid
no_grid = record { newest = 0; stamps = [] }

-- each grid is that of its slice and level
pub grid_of : (s : VersionShape) (h : WriteHistory) → HistoryFormed s h → (i : ℕ) → i < length h.grids
    → GridFormed (tiling_of s (i % s.levels)) h.writes (get_or h.grids i no_grid)
unfolding grid_at
grid_of s h f i k =
    let a = tile_at s.levels (slices_of s) i (omega (arith, f.size, mul_comm s.levels (slices_of s))) in
    subst (λ (j : ℕ). GridFormed (tiling_of s (i % s.levels)) h.writes (get_or h.grids j no_grid)) (sym a.place)
    (f.grids (i / s.levels) (i % s.levels) a.row a.column)
