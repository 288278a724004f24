-- `tilings_in` meets its contract: level by level, each grid beginning where the one before it ends. Assumes nothing.
use mathlib.Core.Path.{◌≡◌}
use Prim.Native.Nat.{ℕ, ◌<◌}
use lib.ListN.{length, get_or}
use Rattle.pool_rules.specs.HistorySizes.{level_start}
use Rattle.pool_records.specs.Tilings.{tiling_number}
use Rattle.pool_access.proofs.slices.tilings_in.Given as goal

abbrev pub invariant-loop-level : goal.invariant-loop-level
invariant-loop-level l =
    (l.start ≡ level_start l.shape l.level) × (length l.levels ≡ 15)
    × ((k : ℕ) → k < l.level → get_or l.levels k 0 ≡ tiling_number l.shape k)
