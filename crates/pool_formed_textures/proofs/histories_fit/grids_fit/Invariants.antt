-- `grids_fit` meets its contract. Assumes nothing.
use mathlib.Core.Path.{◌≡◌}
use Prim.Native.Nat.{◌≤◌}
use lib.ListN.{length}
use Rattle.base_blocks.specs.Lists.{all, listed}
use Rattle.base_blocks.proofs.Listed.{left}
use Rattle.pool_rules.specs.HistorySizes.{grid_start}
use Rattle.pool_memory.specs.IsPool.{is_grid}
use Rattle.pool_formed_textures.specs.Textures.{own_grid, own_tiling}
use Rattle.pool_formed_textures.proofs.GridTests.{place}
use Rattle.pool_formed_textures.proofs.histories_fit.grids_fit.Given as goal

abbrev pub invariant-loop-k : goal.invariant-loop-k
invariant-loop-k l =
    (l.at ≤ length l.stamps) × (l.at ≡ grid_start l.s l.k)
    × (all (is_grid l.writes) (left (own_grid l.s l.newest l.stamps) l.n l.k) ≡ all (is_grid l.writes) (listed (own_grid l.s l.newest l.stamps) 0 l.n))
    × (all (own_tiling l.s l.newest) (left place l.n l.k) ≡ all (own_tiling l.s l.newest) (listed place 0 l.n))
