-- Rule: What each call says and leaves, as 01 has it: stores that form no pool are refused with 1; otherwise it is the model's rule on the pool that the
-- stores stand for, written back. Every contract of a call cites one of these.
use Rattle.std.specs.Prelude.{ℕ, ◌/◌, Bool, cond, List, [], ◌∷◌, eqb, length, replicate}
use Rattle.std.proofs.Math.Option.{Option, none, some}
use Rattle.base_blocks.specs.Lists.{over}
use Rattle.base_tables.specs.Records.{flat}
use Rattle.grid_shapes.specs.declared.shape.VersionShape.{VersionShape}
use Rattle.grid_rects.specs.declared.rect.TexelRect.{TexelRect}
use Rattle.grid_rects.specs.declared.rect.Region.{Region}
use Rattle.grid_rects.specs.declared.rect.Region.TheVariants.{Whole, Part}
use Rattle.pool_rules.specs.declared.held.Held.{Held}
use Rattle.pool_rules.specs.Budget.{budget_of}
use Rattle.pool_rules.specs.Model.{Spare, Retiring, PoolModel, Out, refused, accepted, PreserveCopy, UploadFootprint}
use Rattle.pool_rules.specs.TakeSpare.{take_spare}
use Rattle.pool_rules.specs.PreservePlan.{preserve_plan}
use Rattle.pool_rules.specs.Retire.{retire}
use Rattle.pool_rules.specs.NoteWrite.{note_write, note_mip_regeneration}
use Rattle.pool_rules.specs.PopRetired.{pop_retired}
use Rattle.pool_rules.specs.Park.{park}
use Rattle.pool_rules.specs.NoteAllocated.{note_allocated}
use Rattle.pool_rules.specs.TakeDoomed.{take_doomed}
use Rattle.pool_rules.specs.DrainVersions.{drain_versions}
use Rattle.pool_rules.specs.Trim.{trim}
use Rattle.pool_rules.specs.ForgetTexture.{forget_texture}
use Rattle.pool_memory.specs.declared.pool.Pool.{Pool as Counts}
use Rattle.pool_memory.specs.declared.book.PacingBook.{PacingBook}
use Rattle.pool_memory.specs.declared.answer.TakenVersion.{TakenVersion}
use Rattle.pool_memory.specs.declared.answer.PoppedVersion.{PoppedVersion}
use Rattle.pool_memory.specs.Lent.{Lent}
use Rattle.pool_memory.specs.Reading.{model_of}
use Rattle.pool_memory.specs.Writing.{lent_after}
use Rattle.pool_memory.specs.IsPool.{is_pool, sizes_fit}
use Rattle.pool_memory.specs.MemoryConstants.{copy_stride}
use Rattle.pool_rules.specs.RuleConstants.{destroy_spread_drains}

-- ---- opening

-- nothing tracked, nothing queued; the budget is that of the working set
unfoldable pub opened_pool : ℕ → Counts
opened_pool working = record {
  tracked = 0;
  kept = 0;
  grids = 0;
  stamps = 0;
  head = 0;
  popped = 0;
  queued = 0;
  first = 0;
  doomed = 0;
  since = 0;
  trackings = 0;
  parked = 0;
  dooming = 0;
  cap = (budget_of working).cap;
  line = (budget_of working).line;
}

unfoldable pub opened_book : PacingBook
opened_book = record { arrivals = replicate destroy_spread_drains 0; slot = 0; pressed = 0; excess = 0 }

-- 1 to 4,096 texture places, 1 to 4,096 version places, 0 to 4,096 pages of stamps; the slices keep what they hold
unfoldable pub open_number : Lent → ℕ
open_number l = cond (sizes_fit l) 0 1

-- ---- what a call says

-- 01's number of a refusal, or outcome 0 with the answer's values
pub data Told (A : Type 0) : Type 0 where
  refused_with : ℕ → Told A
  answer : A → Told A

-- a call that answers nothing but its outcome, by 01's number of it
abbrev pub told_number : ℕ → Told (Unit {0})
told_number n = cond (eqb n 0) (answer tt) (refused_with n)

-- a refusal leaves everything as it was
abbrev pub written_back : {A B : Type 0} → (A → B) → Lent → Out ℕ A → Told B × Lent
written_back f l (refused n) = (refused_with n, l)
written_back f l (accepted a p) = (answer (f a), lent_after p l)

unfoldable pub asked : {A B : Type 0} → (A → B) → Lent → (PoolModel ℕ → Out ℕ A) → Told B × Lent
asked f l rule = cond (is_pool l) (written_back f l (rule (model_of l))) (refused_with 1, l)

-- ---- the calls that answer numbers

-- a spare's view number and held writes
abbrev pub taken_of : Option (Spare ℕ) → Option TakenVersion
taken_of none = none
taken_of (some s) = some (record { view = s.view; held = s.held })

unfoldable pub take_spare_on : Lent → ℕ → VersionShape → Bool → ℕ → Told (Option TakenVersion) × Lent
take_spare_on l id shape records seq = asked taken_of l (λ (p : PoolModel ℕ). take_spare p id shape records seq)

unfoldable pub retire_on : Lent → ℕ → ℕ → ℕ → Told (Unit {0}) × Lent
retire_on l id view seq = asked (λ a. a) l (λ (p : PoolModel ℕ). retire p id view seq)

unfoldable pub note_write_on : Lent → ℕ → ℕ → ℕ → TexelRect → Told (Unit {0}) × Lent
note_write_on l id slice level r = asked (λ a. a) l (λ (p : PoolModel ℕ). note_write p id slice level r)

unfoldable pub note_mip_regeneration_on : Lent → ℕ → Told (Unit {0}) × Lent
note_mip_regeneration_on l id = asked (λ a. a) l (λ (p : PoolModel ℕ). note_mip_regeneration p id)

-- the popped version's id and view number
abbrev pub popped_of : Option (Retiring ℕ) → Option PoppedVersion
popped_of none = none
popped_of (some v) = some (record { id = v.id; view = v.view })

unfoldable pub pop_retired_on : Lent → ℕ → Told (Option PoppedVersion) × Lent
pop_retired_on l settled = asked popped_of l (λ (p : PoolModel ℕ). pop_retired p settled)

unfoldable pub park_on : Lent → ℕ → ℕ → Told (Unit {0}) × Lent
park_on l failed now = asked (λ a. a) l (λ (p : PoolModel ℕ). park p failed now)

unfoldable pub note_allocated_on : Lent → ℕ → Told (Unit {0}) × Lent
note_allocated_on l allocated = asked (λ a. a) l (λ (p : PoolModel ℕ). note_allocated p allocated)

unfoldable pub trim_on : Lent → ℕ → Told (Unit {0}) × Lent
trim_on l now = asked (λ a. a) l (λ (p : PoolModel ℕ). trim p now)

unfoldable pub forget_texture_on : Lent → ℕ → Told (Unit {0}) × Lent
forget_texture_on l id = asked (λ a. a) l (λ (p : PoolModel ℕ). forget_texture p id)

-- ---- the calls that fill an answer buffer

-- how many entries the answer has, and the buffer: entries past an accepted answer keep what they held
abbrev pub in_buffer : {A : Type 0} → (A → List ℕ) → List ℕ → Told (List A) × Lent → Told ℕ × (List ℕ × Lent)
in_buffer wr buffer (refused_with n, l) = (refused_with n, (buffer, l))
in_buffer wr buffer (answer xs, l) = (answer (length xs), (over (flat wr xs) buffer, l))

-- seven numbers a copy: slice, level, whole or not, left, top, width, height
abbrev pub region_numbers : Region → List ℕ
region_numbers Whole = 1 ∷ 0 ∷ 0 ∷ 0 ∷ 0 ∷ []
region_numbers (Part r) = 0 ∷ r.x ∷ r.y ∷ r.width ∷ r.height ∷ []

unfoldable pub copy_numbers : PreserveCopy → List ℕ
copy_numbers c = c.slice ∷ c.level ∷ region_numbers c.region

unfoldable pub preserve_plan_on : Lent → List ℕ → ℕ → VersionShape → Held → UploadFootprint → Told ℕ × (List ℕ × Lent)
preserve_plan_on l buffer id shape held u =
    in_buffer copy_numbers buffer (asked (λ a. a) l (λ (p : PoolModel ℕ). preserve_plan p id shape held u (length buffer / copy_stride)))

-- one view number an entry
abbrev pub view_numbers : ℕ → List ℕ
view_numbers n = n ∷ []

unfoldable pub take_doomed_on : Lent → List ℕ → Told ℕ × (List ℕ × Lent)
take_doomed_on l buffer = in_buffer view_numbers buffer (asked (λ a. a) l (λ (p : PoolModel ℕ). take_doomed p (length buffer)))

unfoldable pub drain_versions_on : Lent → List ℕ → Told ℕ × (List ℕ × Lent)
drain_versions_on l buffer = in_buffer view_numbers buffer (asked (λ a. a) l (λ (p : PoolModel ℕ). drain_versions p (length buffer)))
