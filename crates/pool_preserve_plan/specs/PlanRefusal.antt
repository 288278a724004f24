-- Helper: What a plan finds of its texture in the lent slices, and what it refuses by.
use Rattle.std.specs.Prelude.{ℕ, Bool, true, false, cond, ◌&&◌, not, List, leb, ltb, Option, Some, None}
use Rattle.grid_shapes.specs.declared.shape.VersionShape.{VersionShape}
use Rattle.grid_shapes.specs.Shapes.{is_shape, same_shape}
use Rattle.pool_rules.specs.declared.held.Held.{Held}
use Rattle.pool_rules.specs.declared.held.Held.TheVariants.{Known, Unknown}
use Rattle.pool_rules.specs.Model.{UploadFootprint, limit}
use Rattle.pool_rules.specs.Histories.{in_shape}
use Rattle.pool_records.specs.Recorded.{Recorded}
use Rattle.pool_records.specs.declared.texture.TextureRecord.{TextureRecord}
use Rattle.pool_records.specs.Texture.{texture_in, textures_in}
use Rattle.pool_records.specs.Find.{below, has_id}
use Rattle.pool_preserve_plan.specs.declared.since.After.{After}
use Rattle.pool_preserve_plan.specs.declared.history.Found.{Found}
use Rattle.pool_preserve_plan.specs.declared.history.Found.TheVariants.{OtherShape, NothingRecorded, History}

-- ---- the texture

abbrev pub recorded_found : ℕ → ℕ → Recorded → Found
recorded_found grid stamp None = NothingRecorded
recorded_found grid stamp (Some n) = History grid stamp n

-- what the record of a texture says
unfoldable pub found_of : VersionShape → TextureRecord → Found
found_of shape t = cond (same_shape t.shape shape) (recorded_found t.grid t.stamp t.history) OtherShape

-- record i, if it is there and has the id
unfoldable pub found_at : List ℕ → ℕ → ℕ → VersionShape → ℕ → Found
found_at textures tracked id shape i = cond (has_id textures tracked i id) (found_of shape (texture_in textures i)) NothingRecorded

unfoldable pub history_found : List ℕ → ℕ → ℕ → VersionShape → Found
history_found textures tracked id shape = found_at textures tracked id shape (below id (textures_in tracked textures))

-- the copies are bounded where both are known
abbrev pub since_held : ℕ → ℕ → Held → Option After
since_held grid stamp (Known n) = Some (record { grid = grid; stamp = stamp; held = n })
since_held grid stamp Unknown = None

abbrev pub since_of : Found → Held → Option After
since_of (History grid stamp n) held = since_held grid stamp held
since_of NothingRecorded held = None
since_of OtherShape held = None

-- ---- refusals, the lowest number first

abbrev pub is_other : Found → Bool
is_other OtherShape = true
is_other NothingRecorded = false
is_other (History grid stamp n) = false

abbrev pub is_spent : Found → Bool
is_spent (History grid stamp n) = leb limit n
is_spent NothingRecorded = false
is_spent OtherShape = false

-- a plan would skip a covered level of a history at 2^48
abbrev pub skips_spent : VersionShape → Found → UploadFootprint → Bool
skips_spent shape found u = u.cover && in_shape shape u.slice u.level && is_spent found

-- 0 for none; `count` is how many copies the plan has, `room` how many the buffer has room for
unfoldable pub plan_refusal : VersionShape → Found → UploadFootprint → ℕ → ℕ → ℕ
plan_refusal shape found u count room =
    cond (not (is_shape shape)) 2
    (cond (is_other found) 4
    (cond (ltb room count) 11
    (cond (skips_spent shape found u) 12 0)))
