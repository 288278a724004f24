-- Helper: What take_spare looks up before anything changes.
use Rattle.std.specs.Prelude.{ℕ, ◌≡◌, Bool, cond, List, Result, IfOk}
use Rattle.grid_shapes.specs.declared.refusal.Refusal.{Refusal}
use Rattle.grid_shapes.specs.declared.shape.VersionShape.{VersionShape}
use Rattle.grid_shapes.specs.Outcomes.{outcome_number}
use Rattle.grid_shapes.specs.Shapes.{same_shape}
use Rattle.pool_records.specs.Texture.{texture_in, textures_in}
use Rattle.pool_records.specs.Find.{below, has_id}
use Rattle.pool_memory.specs.declared.pool.Pool.{Pool}
use Rattle.pool_tracking.specs.Begun.{fresh_stamps}
use Rattle.pool_take_spare.specs.declared.look_up.Before.{Before}
use Rattle.pool_take_spare.specs.declared.look_up.Before.TheVariants.{Untracked, SameShape, OtherShape}
use Rattle.pool_take_spare.specs.declared.look_up.Look.{Look}
use Rattle.pool_take_spare.specs.TakeRefusal.{refusal_at}

-- by whether the texture is tracked, and with the call's shape
abbrev pub before_of : Bool → Bool → Before
before_of tracked same = cond tracked (cond same SameShape OtherShape) Untracked

-- what is said of an accepted call's texture
pub record Found (pool : Pool) (textures : List ℕ) (id : ℕ) (shape : VersionShape) (records : Bool) (r : Look) : Type 0 where
  pub place : r.place ≡ below id (textures_in pool.tracked textures)
  pub before : r.before ≡ before_of (has_id textures pool.tracked r.place id) (same_shape (texture_in textures r.place).shape shape)
  pub fresh : (r.before ≡ SameShape → ⊥) → r.stamps ≡ fresh_stamps shape records

pub record Looked (pool : Pool) (textures : List ℕ) (lent id : ℕ) (shape : VersionShape) (records : Bool) (seq : ℕ) (r : Result Look Refusal) : Type 0 where
  pub outcome : outcome_number r ≡ refusal_at pool textures lent (below id (textures_in pool.tracked textures)) id shape records seq
  pub found : IfOk r (Found pool textures id shape records)
