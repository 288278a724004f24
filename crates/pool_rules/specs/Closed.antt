-- Rule: Every accepted call leaves a formed pool, and a pool just opened is formed (01, "Outcomes": so no call on a formed pool can find stores that
-- form none).
use Rattle.std.specs.Prelude.{ℕ, ◌≡◌, Bool, true}
use Rattle.grid_shapes.specs.declared.shape.VersionShape.{VersionShape}
use Rattle.grid_rects.specs.declared.rect.TexelRect.{TexelRect}
use Rattle.pool_rules.specs.declared.held.Held.{Held}
use Rattle.pool_rules.specs.Model.{Places, PoolModel, Out, refused, accepted, UploadFootprint}
use Rattle.pool_rules.specs.Formed.{Formed}
use Rattle.pool_rules.specs.Open.{are_places, opened}
use Rattle.pool_rules.specs.TakeSpare.{take_spare}
use Rattle.pool_rules.specs.PreservePlan.{preserve_plan}
use Rattle.pool_rules.specs.Retire.{retire}
use Rattle.pool_rules.specs.NoteWrite.{note_write, note_mip_regeneration}
use Rattle.pool_rules.specs.PopRetired.{pop_retired}
use Rattle.pool_rules.specs.Park.{park}
use Rattle.pool_rules.specs.NoteAllocated.{note_allocated}
use Rattle.pool_rules.specs.TakeDoomed.{take_doomed}
use Rattle.pool_rules.specs.DrainVersions.{drain_versions}
use Rattle.pool_rules.specs.Trim.{trim}
use Rattle.pool_rules.specs.ForgetTexture.{forget_texture}

-- a refusal leaves the pool as it was; of what is accepted the pool after it is formed
pub data OutFormed {W A : Type 0} : Out W A → Type 0 where
  refusal_formed : {n : ℕ} → OutFormed (refused n)
  formed : {a : A} {p : PoolModel W} → Formed p → OutFormed (accepted a p)

-- of one pool, whatever is asked of it
pub record CallsKeepFormed {W : Type 0} (p : PoolModel W) : Type 0 where
  pub take_spare_lem : (id : ℕ) (shape : VersionShape) (records : Bool) (seq : ℕ) → OutFormed (take_spare p id shape records seq)
  pub preserve_plan_lem : (id : ℕ) (shape : VersionShape) (held : Held) (upload : UploadFootprint) (buffer : ℕ)
      → OutFormed (preserve_plan p id shape held upload buffer)
  pub retires : (id : ℕ) (view : W) (seq : ℕ) → OutFormed (retire p id view seq)
  pub note_write_lem : (id slice level : ℕ) (rect : TexelRect) → OutFormed (note_write p id slice level rect)
  pub note_mip_regeneration_lem : (id : ℕ) → OutFormed (note_mip_regeneration p id)
  pub pop_retired_lem : (settled : ℕ) → OutFormed (pop_retired p settled)
  pub parks : (failed now : ℕ) → OutFormed (park p failed now)
  pub note_allocated_lem : (allocated : ℕ) → OutFormed (note_allocated p allocated)
  pub take_doomed_lem : (buffer : ℕ) → OutFormed (take_doomed p buffer)
  pub drain_versions_lem : (buffer : ℕ) → OutFormed (drain_versions p buffer)
  pub trims : (now : ℕ) → OutFormed (trim p now)
  pub forget_texture_lem : (id : ℕ) → OutFormed (forget_texture p id)

abbrev pub EveryCallKeepsFormed : Type 0 → Type 0
EveryCallKeepsFormed W = (p : PoolModel W) → Formed p → CallsKeepFormed p

abbrev pub OpenedIsFormed : Type 0 → Type 0
OpenedIsFormed W = (places : Places) → are_places places ≡ true → (working : ℕ) → Formed (opened {W = W} places working)
