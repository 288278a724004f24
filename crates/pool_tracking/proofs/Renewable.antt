-- What the code that renews a tracking asks of a pool, and its record as the code writes it. Assumes nothing.
use mathlib.Core.Path.{◌≡◌}
use mathlib.Core.Bool.{true}
use Prim.Native.Nat.{ℕ, ◌+◌, ◌*◌, ◌^◌, ◌/◌, ◌≤◌, ◌<◌}
use lib.ListN.{length}
use Rattle.grid_shapes.specs.Shapes.{is_shape}
use Rattle.pool_rules.specs.Model.{limit, grid_count}
use Rattle.pool_rules.specs.RuleConstants.{most_places}
use Rattle.pool_records.specs.RecordConstants.{doomed_stride, retiring_stride, spare_stride, texture_stride}
use Rattle.pool_records.specs.Starts.{StartsMove}
use Rattle.pool_memory.specs.Lent.{Lent}
use Rattle.pool_tracking.specs.declared.begun.NewTracking.{NewTracking}
use Rattle.pool_tracking.specs.declared.holding.Holding.{Holding}
use Rattle.pool_tracking.specs.Begun.{fresh_grids}
use Rattle.pool_tracking.specs.Refusal.{most_newest, most_stamps}
use Rattle.pool_tracking.specs.Holdings.{grid_shift, stamp_shift, record_renewed}

-- what the code asks of a pool in which a texture's tracking is renewed
pub record Renewable (l : Lent) (new : NewTracking) (hold : Holding) : Type 0 where
  pub counter : l.pool.trackings < limit
  pub shaped : is_shape new.shape ≡ true
  pub few : grid_count new.shape ≤ most_places
  pub textures : texture_stride * l.pool.tracked ≤ length l.textures
  pub ring : doomed_stride * (length l.retiring / retiring_stride) ≤ length l.doomed
  pub head : l.pool.first < length l.retiring / retiring_stride
  pub doomed : l.pool.doomed + hold.spares ≤ length l.retiring / retiring_stride
  pub within : hold.first + hold.spares ≤ l.pool.kept
  pub spares : spare_stride * l.pool.kept ≤ length l.spares
  pub parked : hold.bytes * hold.spares ≤ l.pool.parked
  pub dooming : l.pool.dooming + hold.bytes * hold.spares < 2 ^ 64
  pub since : l.pool.since + hold.spares < 2 ^ 64
  pub grids : hold.grid + hold.grids ≤ l.pool.grids
  pub grids_used_lem : l.pool.grids ≤ length l.newest
  pub grids_room : l.pool.grids + fresh_grids new.shape new.records ≤ length l.newest + hold.grids
  pub stamps : hold.stamp + hold.stamps ≤ l.pool.stamps
  pub stamps_used_lem : l.pool.stamps ≤ length l.stamps
  pub stamps_room : l.pool.stamps + new.stamps ≤ length l.stamps + hold.stamps
  pub newest_most : length l.newest ≤ most_newest
  pub stamps_most : length l.stamps ≤ most_stamps
  pub moves : (fresh : ℕ) → fresh ≡ fresh_grids new.shape new.records
      → StartsMove (grid_shift hold fresh) (stamp_shift hold new) (new.place + 1) l.pool.tracked (record_renewed l.textures new (l.pool.trackings + 1) hold)
