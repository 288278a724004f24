-- `regenerate_grids` meets its contract: grid by grid, each beginning where the one before it ends. Assumes nothing.
use mathlib.Core.Path.{◌≡◌}
use Prim.Native.Nat.{◌+◌, ◌%◌, ◌<◌}
use lib.ListN.{length}
use Rattle.pool_rules.specs.HistorySizes.{grid_start}
use Rattle.pool_history.specs.Remade.{newest_written, stamps_written, remade_grids}
use Rattle.pool_history.proofs.grids.regenerate_grids.Given as goal

abbrev pub invariant-loop-k : goal.invariant-loop-k
invariant-loop-k l =
    (l.level < l.shape.levels) × (l.level ≡ l.k % l.shape.levels)
    × (l.at ≡ l.stamp + grid_start l.shape l.k)
    × (length l.newest ≡ length l.initial.newest) × (length l.stamps ≡ length l.initial.stamps)
    × (l.newest ≡ newest_written l.initial.newest l.grid (remade_grids l.shape l.n l.initial.newest l.initial.stamps l.grid l.stamp l.k))
    × (l.stamps ≡ stamps_written l.initial.stamps l.stamp (remade_grids l.shape l.n l.initial.newest l.initial.stamps l.grid l.stamp l.k))
