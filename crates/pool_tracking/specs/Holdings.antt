-- Helper: What a tracked texture holds in the lent slices, the counts once its spares are given up, and its record renewed.
use Rattle.std.specs.Prelude.{ℕ, ◌+◌, ◌*◌, ◌-◌, ◌≤◌, ◌<◌, List, length}
use Rattle.std.proofs.lemmas.List.Edits.{sets}
use Rattle.base_blocks.specs.Lists.{total}
use Rattle.pool_rules.specs.RuleConstants.{most_places}
use Rattle.pool_records.specs.RecordConstants.{texture_stride}
use Rattle.pool_records.specs.declared.shift.Shift.{Shift}
use Rattle.pool_records.specs.declared.texture.TextureRecord.{TextureRecord}
use Rattle.pool_records.specs.Texture.{write_texture, texture_in, textures_in}
use Rattle.pool_records.specs.Starts.{grid_end, grids_held, stamp_end, stamps_held}
use Rattle.pool_memory.specs.declared.pool.Pool.{Pool}
use Rattle.pool_tracking.specs.declared.begun.NewTracking.{NewTracking}
use Rattle.pool_tracking.specs.declared.holding.Holding.{Holding}
use Rattle.pool_tracking.specs.Begun.{new_record}

unfoldable pub holding_at : Pool → List ℕ → ℕ → Holding
holding_at pool textures i = record {
  first = total (λ (t : TextureRecord). t.spares) (textures_in i textures);
  spares = (texture_in textures i).spares;
  bytes = (texture_in textures i).bytes;
  grid = (texture_in textures i).grid;
  grids = grids_held textures pool.tracked pool.grids i;
  stamp = (texture_in textures i).stamp;
  stamps = stamps_held textures pool.tracked pool.stamps i;
}

-- what is asked to read it: texture i is there, its grids and stamps end behind where they begin, and there are no more spares than can be
pub record HoldingReads (pool : Pool) (textures : List ℕ) (i : ℕ) : Type 0 where
  pub there : texture_stride * pool.tracked ≤ length textures
  pub place : i < pool.tracked
  pub spares : total (λ (t : TextureRecord). t.spares) (textures_in i textures) ≤ most_places
  pub grids : (texture_in textures i).grid ≤ grid_end textures pool.tracked pool.grids i
  pub stamps : (texture_in textures i).stamp ≤ stamp_end textures pool.tracked pool.stamps i

-- k spares of those bytes are queued for destruction
abbrev pub given_up : Pool → ℕ → ℕ → Pool
given_up c k bytes = record c { kept = c.kept - k; doomed = c.doomed + k; since = c.since + k; parked = c.parked - bytes * k; dooming = c.dooming + bytes * k }

-- how far the grids and the stamps behind it move
abbrev pub grid_shift : Holding → ℕ → Shift
grid_shift old fresh = record { less = old.grids; more = fresh }

abbrev pub stamp_shift : Holding → NewTracking → Shift
stamp_shift old new = record { less = old.stamps; more = new.stamps }

-- its record written over: its own grids and stamps begin where they began
abbrev pub record_renewed : List ℕ → NewTracking → ℕ → Holding → List ℕ
record_renewed textures new epoch old = sets textures (texture_stride * new.place) (write_texture (new_record new epoch old.grid old.stamp))
