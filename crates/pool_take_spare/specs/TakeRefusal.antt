-- Helper: The number that take_spare is refused by, as it is read off the textures' slice.
use Rattle.std.specs.Prelude.{ℕ, ◌*◌, ◌/◌, ◌≤◌, ◌<◌, ◌≡◌, Bool, true, false, cond, not, List, leb, ltb, length, Result, IfOk}
use Rattle.base_blocks.specs.Lists.{ascending}
use Rattle.grid_shapes.specs.declared.refusal.Refusal.{Refusal}
use Rattle.grid_shapes.specs.declared.shape.VersionShape.{VersionShape}
use Rattle.grid_shapes.specs.Outcomes.{outcome_number}
use Rattle.grid_shapes.specs.Shapes.{is_shape, same_shape}
use Rattle.pool_rules.specs.Model.{limit}
use Rattle.pool_records.specs.RecordConstants.{texture_stride}
use Rattle.pool_records.specs.Texture.{texture_in, textures_in}
use Rattle.pool_records.specs.Starts.{stamp_end, stamps_held}
use Rattle.pool_records.specs.Find.{id_of, has_id}
use Rattle.pool_memory.specs.declared.pool.Pool.{Pool}
use Rattle.pool_tracking.specs.Begun.{fresh_stamps}
use Rattle.pool_tracking.specs.Refusal.{most_stamps, tracking_refusal}

-- what is asked of the textures and of the stamps that are lent and in use: a texture's stamps end behind where they begin, within those in use
pub record Readable (pool : Pool) (textures : List ℕ) (lent : ℕ) : Type 0 where
  pub there : texture_stride * pool.tracked ≤ length textures
  pub ids : ascending id_of (textures_in pool.tracked textures) ≡ true
  pub begins : (i : ℕ) → i < pool.tracked → (texture_in textures i).stamp ≤ stamp_end textures pool.tracked pool.stamps i
  pub ends : (i : ℕ) → i < pool.tracked → stamp_end textures pool.tracked pool.stamps i ≤ pool.stamps
  pub most : lent ≤ most_stamps
  pub used : pool.stamps ≤ most_stamps

-- the number of the first refusal, or 0; record i is where the search for the id ended
unfoldable pub refusal_at : Pool → List ℕ → (lent i id : ℕ) → VersionShape → Bool → ℕ → ℕ
refusal_at pool textures lent i id shape records seq =
    cond (not (is_shape shape)) 2
    (cond (ltb limit seq) 3
    (cond (has_id textures pool.tracked i id)
    (cond (same_shape (texture_in textures i).shape shape) 0
    (tracking_refusal lent (stamps_held textures pool.tracked pool.stamps i) pool.stamps pool.trackings shape records))
    (cond (leb (length textures / texture_stride) pool.tracked) 5 (tracking_refusal lent 0 pool.stamps pool.trackings shape records))))

-- what is said of it; where a tracking begins, also how many stamps its history takes
pub record IsRefusal (pool : Pool) (textures : List ℕ) (lent i id : ℕ) (shape : VersionShape) (records : Bool) (seq : ℕ) (r : Result ℕ Refusal) : Type 0 where
  pub outcome : outcome_number r ≡ refusal_at pool textures lent i id shape records seq
  pub fresh : IfOk r (λ (stamps : ℕ). (has_id textures pool.tracked i id ≡ true → same_shape (texture_in textures i).shape shape ≡ false)
      → stamps ≡ fresh_stamps shape records)
