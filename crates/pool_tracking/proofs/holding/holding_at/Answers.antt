-- `holding_at` meets its contract: each number is read by itself. Assumes nothing.
use Prim.Native.Nat.{◌-◌}
use Rattle.pool_tracking.specs.Holdings.{holding_at}
use Rattle.pool_tracking.proofs.holding.holding_at.Goals as goal

pub returns : goal.returns
unfolding holding_at
returns c =
    let t = c.texture_at-t.ensures in
    λ j. record {
      first = c.spares_before-first.ensures j;
      spares = (t j).spares;
      bytes = (t j).bytes;
      grid = (t j).grid;
      grids = c.grid_end-grids_end.ensures j - (t j).grid;
      stamp = (t j).stamp;
      stamps = c.stamp_end-stamps_end.ensures j - (t j).stamp;
    }
