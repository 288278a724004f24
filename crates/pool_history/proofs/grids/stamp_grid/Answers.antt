-- `stamp_grid` meets its contract: the grid is lent on as a part and put back. Assumes nothing.
use mathlib.Core.Path.{◌≡◌, ap, ◌∙◌}
use Prim.Native.Nat.{ℕ, ◌+◌, ◌-◌}
use native.Mathlib.Omega.{arith}
use Rattle.grid_stamps.specs.Grids.{tiling_of, stamp_count}
use Rattle.pool_memory.proofs.GridParts.{part_fits}
use Rattle.pool_access.proofs.Levels.{tiling_known_ok}
use Rattle.pool_history.proofs.StampedParts.{newest_back, part_back}
use Rattle.pool_history.proofs.grids.stamp_grid.Goals as goal
use Rattle.pool_history.proofs.grids.stamp_grid.Goals.{After-stamp_count-count}

-- the count is the grid's
counted : (c : After-stamp_count-count) → c.stamp_count-count.result ≡ stamp_count (tiling_of c.args.shape c.args.level)
counted c = c.stamp_count-count.ensures ∙ ap stamp_count c.tiling_at-tiling.ensures

pub stamp_count-count-requires : goal.stamp_count-count-requires
stamp_count-count-requires c = tiling_known_ok c.args.shape c.requires.0 c.args.level c.tiling_at-tiling.result c.tiling_at-tiling.ensures

pub stamp-latest-requires : goal.stamp-latest-requires
stamp-latest-requires c =
    let a = c.args in
    part_fits a.shape c.requires.0 a.level a.newest.now a.stamps.now a.p a.at c.requires.3 (a.at + c.stamp_count-count.result - a.at)
    c.tiling_at-tiling.result (omega (arith, counted (goal.at.stamp-latest-requires c).After-stamp_count-count)) c.tiling_at-tiling.ensures

pub returns : goal.returns
returns c =
    let a = c.args in
    let k = counted (goal.at.returns c).After-stamp_count-count in
    let t = c.tiling_at-tiling.ensures in
    let m : a.at + c.stamp_count-count.result - a.at ≡ stamp_count (tiling_of a.shape a.level) = omega (arith, k) in (
      ap (λ (i : ℕ). a.at + i) k,
      newest_back a.shape c.requires.0 a.level a.newest.now a.stamps.now a.p a.at c.requires.3 a.rect a.n _ _ _ m t c.stamp-latest.ensures.0,
      part_back a.shape c.requires.0 a.level a.newest.now a.stamps.now a.p a.at c.requires.3 a.rect a.n _ _ _ m t c.stamp-latest.ensures.1,
    )
