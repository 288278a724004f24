-- Helper: The cases of take_spare on a pool: the id is not tracked, is tracked with the same shape, or with another one.
use Rattle.std.specs.Prelude.{ℕ, ◌<◌, ◌≡◌, Bool, true}
use Rattle.grid_shapes.specs.declared.shape.VersionShape.{VersionShape}
use Rattle.pool_records.specs.declared.texture.TextureRecord.{TextureRecord}
use Rattle.pool_records.specs.Texture.{texture_in}
use Rattle.pool_records.specs.Find.{below}
use Rattle.pool_memory.specs.Lent.{Lent}
use Rattle.pool_memory.specs.Reading.{tracked_records, model_of}
use Rattle.pool_memory.specs.IsPool.{is_pool}
use Rattle.pool_tracking.specs.declared.begun.NewTracking.{NewTracking}
use Rattle.pool_tracking.specs.Begun.{fresh_stamps}
use Rattle.pool_tracking.specs.Refusal.{take_refusal}

-- a pool, the place i of the id among its textures, and nothing to refuse
abbrev pub Accepted : Lent → ℕ → ℕ → VersionShape → Bool → ℕ → Type 0
Accepted l i id shape records seq = (is_pool l ≡ true) × ((i ≡ below id (tracked_records l)) × (take_refusal (model_of l) id shape records seq ≡ 0))

-- a tracking that begins so, and its history's stamps are added up
abbrev pub Begins : Lent → NewTracking → Type 0
Begins l new = Accepted l new.place new.id new.shape new.records new.seq × (new.stamps ≡ fresh_stamps new.shape new.records)

-- record i
abbrev pub record_of : Lent → ℕ → TextureRecord
record_of l i = texture_in l.textures i

-- it is the texture's
abbrev pub TrackedAt : Lent → ℕ → ℕ → Type 0
TrackedAt l i id = (i < l.pool.tracked) × ((record_of l i).id ≡ id)
