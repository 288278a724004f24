-- Memory that forms no pool: every call says 1 and leaves it as it is. Assumes nothing.
use mathlib.Core.Path.{◌≡◌, sym, ap}
use mathlib.Core.Bool.{Bool, false}
use mathlib.Core.List.{List}
use Prim.Native.Nat.{ℕ, ◌/◌}
use lib.ListN.{length}
use Rattle.grid_shapes.specs.declared.shape.VersionShape.{VersionShape}
use Rattle.grid_rects.specs.declared.rect.TexelRect.{TexelRect}
use Rattle.pool_rules.specs.declared.held.Held.{Held}
use Rattle.pool_rules.specs.Model.{PoolModel, UploadFootprint}
use Rattle.pool_rules.specs.TakeSpare.{take_spare}
use Rattle.pool_rules.specs.PreservePlan.{preserve_plan}
use Rattle.pool_rules.specs.Retire.{retire}
use Rattle.pool_rules.specs.NoteWrite.{note_write, note_mip_regeneration}
use Rattle.pool_rules.specs.PopRetired.{pop_retired}
use Rattle.pool_rules.specs.Park.{park}
use Rattle.pool_rules.specs.NoteAllocated.{note_allocated}
use Rattle.pool_rules.specs.TakeDoomed.{take_doomed}
use Rattle.pool_rules.specs.DrainVersions.{drain_versions}
use Rattle.pool_rules.specs.Trim.{trim}
use Rattle.pool_rules.specs.ForgetTexture.{forget_texture}
use Rattle.pool_memory.specs.Lent.{Lent}
use Rattle.pool_memory.specs.IsPool.{is_pool}
use Rattle.pool_memory.specs.Calls.{refused_with, taken_of, popped_of, in_buffer, copy_numbers, view_numbers, take_spare_on, preserve_plan_on, retire_on, note_write_on, note_mip_regeneration_on, pop_retired_on, park_on, note_allocated_on, take_doomed_on, drain_versions_on, trim_on, forget_texture_on}
use Rattle.pool_memory.proofs.Asked.{asked_no_pool}
use Rattle.pool_memory.specs.MemoryConstants.{copy_stride}

module _ (l : Lent) (e : is_pool l ≡ false) where
  pub no_take : (id : ℕ) (shape : VersionShape) (records : Bool) (seq : ℕ) → (refused_with 1, l) ≡ take_spare_on l id shape records seq
  unfolding take_spare_on
  no_take id shape records seq = sym (asked_no_pool taken_of l (λ (p : PoolModel ℕ). take_spare p id shape records seq) e)

  pub no_retire : (id view seq : ℕ) → (refused_with 1, l) ≡ retire_on l id view seq
  unfolding retire_on
  no_retire id view seq = sym (asked_no_pool (λ a. a) l (λ (p : PoolModel ℕ). retire p id view seq) e)

  pub no_write : (id slice level : ℕ) (rect : TexelRect) → (refused_with 1, l) ≡ note_write_on l id slice level rect
  unfolding note_write_on
  no_write id slice level rect = sym (asked_no_pool (λ a. a) l (λ (p : PoolModel ℕ). note_write p id slice level rect) e)

  pub no_regeneration : (id : ℕ) → (refused_with 1, l) ≡ note_mip_regeneration_on l id
  unfolding note_mip_regeneration_on
  no_regeneration id = sym (asked_no_pool (λ a. a) l (λ (p : PoolModel ℕ). note_mip_regeneration p id) e)

  pub no_pop : (settled : ℕ) → (refused_with 1, l) ≡ pop_retired_on l settled
  unfolding pop_retired_on
  no_pop settled = sym (asked_no_pool popped_of l (λ (p : PoolModel ℕ). pop_retired p settled) e)

  pub no_park : (failed now : ℕ) → (refused_with 1, l) ≡ park_on l failed now
  unfolding park_on
  no_park failed now = sym (asked_no_pool (λ a. a) l (λ (p : PoolModel ℕ). park p failed now) e)

  pub no_note : (allocated : ℕ) → (refused_with 1, l) ≡ note_allocated_on l allocated
  unfolding note_allocated_on
  no_note allocated = sym (asked_no_pool (λ a. a) l (λ (p : PoolModel ℕ). note_allocated p allocated) e)

  pub no_trim : (now : ℕ) → (refused_with 1, l) ≡ trim_on l now
  unfolding trim_on
  no_trim now = sym (asked_no_pool (λ a. a) l (λ (p : PoolModel ℕ). trim p now) e)

  pub no_forget : (id : ℕ) → (refused_with 1, l) ≡ forget_texture_on l id
  unfolding forget_texture_on
  no_forget id = sym (asked_no_pool (λ a. a) l (λ (p : PoolModel ℕ). forget_texture p id) e)

  module _ (buffer : List ℕ) where
    pub no_plan : (id : ℕ) (shape : VersionShape) (held : Held) (u : UploadFootprint) → (refused_with 1, (buffer, l)) ≡ preserve_plan_on l buffer id shape held u
    unfolding preserve_plan_on
    no_plan id shape held u =
        sym (ap (in_buffer copy_numbers buffer) (asked_no_pool (λ a. a) l (λ (p : PoolModel ℕ). preserve_plan p id shape held u (length buffer / copy_stride)) e))

    pub no_doomed : (refused_with 1, (buffer, l)) ≡ take_doomed_on l buffer
    unfolding take_doomed_on
    no_doomed = sym (ap (in_buffer view_numbers buffer) (asked_no_pool (λ a. a) l (λ (p : PoolModel ℕ). take_doomed p (length buffer)) e))

    pub no_drain : (refused_with 1, (buffer, l)) ≡ drain_versions_on l buffer
    unfolding drain_versions_on
    no_drain = sym (ap (in_buffer view_numbers buffer) (asked_no_pool (λ a. a) l (λ (p : PoolModel ℕ). drain_versions p (length buffer)) e))
