-- Helper: A texture tracked for the first time: what is asked of the slices that it takes a part in, and what they hold then.
use Rattle.std.specs.Prelude.{ℕ, ◌+◌, ◌*◌, ◌-◌, ◌/◌, ◌≤◌, ◌<◌, ◌≡◌, true, cond, List, ltb, length, replicate}
use Rattle.std.proofs.lemmas.List.Edits.{sets}
use Rattle.base_blocks.specs.Blocks.{moved}
use Rattle.grid_shapes.specs.declared.shape.VersionShape.{VersionShape}
use Rattle.grid_shapes.specs.Shapes.{is_shape}
use Rattle.pool_rules.specs.Model.{limit}
use Rattle.pool_rules.specs.RuleConstants.{grid_stride, most_places}
use Rattle.pool_records.specs.RecordConstants.{texture_stride}
use Rattle.pool_records.specs.Texture.{write_texture, texture_in}
use Rattle.pool_records.specs.Starts.{starts_moved, StartsMove, more_by}
use Rattle.pool_records.specs.Tilings.{fresh_from}
use Rattle.pool_memory.specs.declared.pool.Pool.{Pool}
use Rattle.pool_tracking.specs.declared.begun.NewTracking.{NewTracking}
use Rattle.pool_tracking.specs.declared.start.First.{First}
use Rattle.pool_tracking.specs.Begun.{fresh_grids, new_record}
use Rattle.pool_tracking.specs.Refusal.{most_newest, most_stamps}

abbrev pub first_of : ℕ → ℕ → First
first_of grid stamp = record { grid = grid; stamp = stamp }

-- where the grids and the stamps of a texture begin that is put in at place i: where those of the one that stands there do, or behind all of them
unfoldable pub first_at : Pool → List ℕ → ℕ → First
first_at pool textures i =
    cond (ltb i pool.tracked) (first_of (texture_in textures i).grid (texture_in textures i).stamp) (first_of pool.grids pool.stamps)

-- n records and one more, the texture's
abbrev pub record_started : List ℕ → ℕ → NewTracking → ℕ → First → List ℕ
record_started textures n new epoch first =
    let i = new.place in
    sets (moved textures (texture_stride * i + texture_stride) (texture_stride * i) (texture_stride * (n - i))) (texture_stride * i)
    (write_texture (new_record new epoch first.grid first.stamp))

-- a part of a packed slice with n times 0 put in at a place of the `used` numbers
abbrev pub zeros_put : List ℕ → (used at n : ℕ) → List ℕ
zeros_put s used at n = sets (moved s (at + n) (at + 0) (used - at)) at (replicate n 0)

-- with the n numbers of a new history's grids
abbrev pub fresh_put : List ℕ → (used at n : ℕ) → VersionShape → List ℕ
fresh_put s used at n shape = sets (moved s (at + n) (at + 0) (used - at)) at (fresh_from shape 0 (n / grid_stride))

-- the counts with a texture more, and its grids and stamps
abbrev pub one_tracked : Pool → (grids stamps : ℕ) → Pool
one_tracked c grids stamps = record c { tracked = c.tracked + 1; grids = c.grids + grids; stamps = c.stamps + stamps; trackings = c.trackings + 1 }

module _ (pool : Pool) (textures newest stamps : List ℕ) (new : NewTracking) where
  abbrev first : First
  first = first_at pool textures new.place

  abbrev grids : ℕ
  grids = fresh_grids new.shape new.records

  -- a place for the record, for the numbers of the grids and for the stamps, and counts that may grow
  pub record StartFits : Type 0 where
    pub shaped : is_shape new.shape ≡ true
    pub place : new.place ≤ pool.tracked
    pub room : texture_stride * pool.tracked + texture_stride ≤ length textures
    pub tracked : pool.tracked < most_places
    pub counter : pool.trackings < limit
    pub grid : first.grid ≤ pool.grids
    pub stamp : first.stamp ≤ pool.stamps
    pub grids_room : pool.grids + grids ≤ length newest
    pub stamps_room : pool.stamps + new.stamps ≤ length stamps
    pub newest_most : length newest ≤ most_newest
    pub stamps_most : length stamps ≤ most_stamps
    pub moves : StartsMove (more_by grids) (more_by new.stamps) (new.place + 1) (pool.tracked + 1)
        (record_started textures pool.tracked new (pool.trackings + 1) first)

  -- the counts, the textures, the newest stamps and the stamps after it
  unfoldable pub tracking_started : Pool × (List ℕ × (List ℕ × List ℕ))
  tracking_started = (
    one_tracked pool grids new.stamps,
    (
      starts_moved (more_by grids) (more_by new.stamps) (new.place + 1) (pool.tracked + 1)
          (record_started textures pool.tracked new (pool.trackings + 1) first),
      (fresh_put newest pool.grids first.grid grids new.shape, zeros_put stamps pool.stamps first.stamp new.stamps),
    ),
  )
