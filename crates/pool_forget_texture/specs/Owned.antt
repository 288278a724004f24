-- Helper: What one texture owns, as the records say, and the pool without it: its counts, and the records of the others.
use Rattle.std.specs.Prelude.{ℕ, ◌+◌, ◌-◌, ◌*◌, List}
use Rattle.base_blocks.specs.Blocks.{moved}
use Rattle.pool_records.specs.RecordConstants.{texture_stride}
use Rattle.pool_records.specs.Starts.{less_by, starts_moved, grids_held, stamps_held}
use Rattle.pool_records.specs.Texture.{texture_in, spares_to}
use Rattle.pool_memory.specs.declared.pool.Pool.{Pool as Counts}
use Rattle.pool_forget_texture.specs.declared.owned.Owned.{Owned}

unfoldable pub owned_at : Counts → List ℕ → ℕ → Owned
owned_at c textures i = record {
  first = spares_to textures i;
  spares = (texture_in textures i).spares;
  grid = (texture_in textures i).grid;
  grids = grids_held textures c.tracked c.grids i;
  stamp = (texture_in textures i).stamp;
  stamps = stamps_held textures c.tracked c.stamps i;
  bytes = (texture_in textures i).bytes;
}

-- the n records without record i
unfoldable pub without_record : List ℕ → ℕ → ℕ → Owned → List ℕ
without_record textures n i own =
    starts_moved (less_by own.grids) (less_by own.stamps) i (n - 1)
    (moved textures (texture_stride * i) (texture_stride * i + texture_stride * 1) (texture_stride * (n - (i + 1))))

unfoldable pub without : Counts → Owned → Counts
without c own = record c {
  tracked = c.tracked - 1;
  kept = c.kept - own.spares;
  grids = c.grids - own.grids;
  stamps = c.stamps - own.stamps;
  doomed = c.doomed + own.spares;
  since = c.since + own.spares;
  parked = c.parked - own.bytes * own.spares;
  dooming = c.dooming + own.bytes * own.spares;
}
