-- What a plan finds of its texture is what the model has. Assumes nothing.
use mathlib.Core.Path.{◌≡◌, refl, sym, ap, ap₂, subst, ◌∙◌}
use mathlib.Core.Bool.{Bool, true, false, cond, not}
use mathlib.Core.Option.{Option, none, some}
use mathlib.Core.List.{List, []}
use Prim.Native.Nat.{ℕ, ◌+◌, ◌≤◌, ◌<◌}
use native.Mathlib.Omega.{arith}
use lib.ListN.{length, get_or}
use Rattle.base_tables.proofs.Records.{get_or_table}
use Rattle.std.specs.Prelude.{Some, None}
use Rattle.grid_shapes.specs.declared.shape.VersionShape.{VersionShape}
use Rattle.grid_shapes.specs.Shapes.{same_shape}
use Rattle.grid_shapes.proofs.Shapes.{same_shape_lem}
use Rattle.pool_rules.specs.declared.held.Held.{Held}
use Rattle.pool_rules.specs.declared.held.Held.TheVariants.{Known, Unknown}
use Rattle.pool_rules.specs.Model.{WriteHistory, Out, PreserveCopy, UploadFootprint, guard, find}
use Rattle.pool_rules.specs.Histories.{spent}
use Rattle.pool_rules.specs.PreservePlan.{plan_with, plan_found}
use Rattle.pool_records.specs.Recorded.{Recorded}
use Rattle.pool_records.specs.declared.texture.TextureRecord.{TextureRecord}
use Rattle.pool_records.specs.Texture.{read_texture, texture_in, textures_in, recorded_grids, recorded_stamps}
use Rattle.pool_records.specs.Find.{id_of, below, has_id}
use Rattle.pool_memory.specs.Lent.{Lent}
use Rattle.pool_memory.specs.Reading.{tracked_records, history_read, state_read, model_of}
use Rattle.pool_memory.specs.IsPool.{tilings_read, tilings_hold}
use Rattle.pool_memory.proofs.Fits.{Fits}
use Rattle.pool_memory.proofs.Runs.{first_spare, state_of, tiling_there, tilings_held_at, grid_held_at, stamp_held_at}
use Rattle.pool_memory.proofs.HistoryRuns.{grids_in, stamps_in_lem}
use Rattle.pool_memory.proofs.Places.{IsTracked}
use Rattle.pool_memory.proofs.Places as places
use Rattle.pool_memory.proofs.Stays.{ids_ascend}
use Rattle.pool_access.proofs.Ids as ids
use Rattle.pool_preserve_plan.specs.declared.history.Found.{Found}
use Rattle.pool_preserve_plan.specs.declared.history.Found.TheVariants.{OtherShape, NothingRecorded, History}
use Rattle.pool_preserve_plan.specs.Copies.{SinceFits}
use Rattle.pool_records.specs.RecordConstants.{texture_stride}
use Rattle.pool_preserve_plan.specs.PlanRefusal.{recorded_found, found_of, found_at, history_found, since_of, is_other, is_spent}

-- ---- as the code finds it

module _ (textures : List ℕ) (tracked id : ℕ) (shape : VersionShape) (i : ℕ) where
  pub found_none : has_id textures tracked i id ≡ false → found_at textures tracked id shape i ≡ NothingRecorded
  unfolding found_at
  found_none e = ap (λ (b : Bool). cond b (found_of shape (texture_in textures i)) NothingRecorded) e

  module _ (t : TextureRecord) (r : t ≡ texture_in textures i) (h : has_id textures tracked i id ≡ true) where
    found_there : found_at textures tracked id shape i ≡ found_of shape t
    unfolding found_at
    found_there = ap (λ (b : Bool). cond b (found_of shape (texture_in textures i)) NothingRecorded) h ∙ ap (found_of shape) (sym r)

    pub found_other : same_shape t.shape shape ≡ false → found_at textures tracked id shape i ≡ OtherShape
    unfolding found_of
    found_other e = found_there ∙ ap (λ (b : Bool). cond b (recorded_found t.grid t.stamp t.history) OtherShape) e

    pub found_recorded : (history : Recorded) → same_shape t.shape shape ≡ true → t.history ≡ history
        → found_at textures tracked id shape i ≡ recorded_found t.grid t.stamp history
    unfolding found_of
    found_recorded history e f =
        found_there ∙ ap (λ (b : Bool). cond b (recorded_found t.grid t.stamp t.history) OtherShape) e
        ∙ ap (recorded_found t.grid t.stamp) f

-- the search answers the place
pub found_place : (textures : List ℕ) (tracked id : ℕ) (shape : VersionShape) (i : ℕ) → i ≡ below id (textures_in tracked textures)
    → found_at textures tracked id shape i ≡ history_found textures tracked id shape
unfolding history_found
found_place textures tracked id shape i e = ap (found_at textures tracked id shape) e

-- ---- as the model has it

-- the history that was found
abbrev pub history_in : Lent → VersionShape → Found → Option WriteHistory
history_in l s (History grid stamp n) = history_read l s grid stamp (Some n)
history_in l s NothingRecorded = none
history_in l s OtherShape = none

pub spent_found : (l : Lent) (s : VersionShape) (f : Found) → spent (history_in l s f) ≡ is_spent f
spent_found l s (History grid stamp n) = refl
spent_found l s NothingRecorded = refl
spent_found l s OtherShape = refl

recorded_in : (l : Lent) (s : VersionShape) (grid stamp : ℕ) (h : Recorded) → history_in l s (recorded_found grid stamp h) ≡ history_read l s grid stamp h
recorded_in l s grid stamp None = refl
recorded_in l s grid stamp (Some n) = refl

recorded_same : (grid stamp : ℕ) (h : Recorded) → is_other (recorded_found grid stamp h) ≡ false
recorded_same grid stamp None = refl
recorded_same grid stamp (Some n) = refl

module _ (l : Lent) (shape : VersionShape) (held : Held) (u : UploadFootprint) (room : ℕ) where
  -- the rule, by what was found
  abbrev pub plan_by : Found → Out ℕ (List PreserveCopy)
  plan_by f = guard (is_other f) 4 (plan_with (model_of l) shape (history_in l shape f) held u room)

  plan_state : (first : ℕ) (t : TextureRecord)
      → plan_found (model_of l) shape held u room (some (state_read l first t)) ≡ plan_by (found_of shape t)
  unfolding state_read found_of guard
  plan_state first t = go (same_shape t.shape shape) refl
    where
      go : (b : Bool) → same_shape t.shape shape ≡ b
          → guard (not b) 4 (plan_with (model_of l) shape (history_read l t.shape t.grid t.stamp t.history) held u room)
          ≡ plan_by (cond b (recorded_found t.grid t.stamp t.history) OtherShape)
      go true e =
          ap (λ (s : VersionShape). plan_with (model_of l) shape (history_read l s t.grid t.stamp t.history) held u room) (same_shape_lem t.shape shape e)
          ∙ sym (ap₂ (λ (b : Bool) (h : Option WriteHistory). guard b 4 (plan_with (model_of l) shape h held u room))
          (recorded_same t.grid t.stamp t.history) (recorded_in l shape t.grid t.stamp t.history))
      go false e = refl

module _ (l : Lent) (fits : Fits l) (id : ℕ) (shape : VersionShape) where
  abbrev place : ℕ
  place = below id (tracked_records l)

  abbrev pub found_in : Found
  found_in = history_found l.textures l.pool.tracked id shape

  -- the record at the place
  record_place : place < l.pool.tracked → get_or (tracked_records l) place (read_texture []) ≡ texture_in l.textures place
  record_place h = get_or_table texture_stride read_texture l.pool.tracked place l.textures (read_texture []) h

  module _ (has : has_id l.textures l.pool.tracked place id ≡ true) where
    within : place < l.pool.tracked
    within = (ids.found l.textures l.pool.tracked place id has).0

    is_there : IsTracked l id (ids_ascend l fits)
    is_there = (within, ap id_of (record_place within) ∙ (ids.found l.textures l.pool.tracked place id has).1)

    found_state : found_in ≡ found_of shape (get_or (tracked_records l) place (read_texture []))
    unfolding history_found
    found_state =
        found_there l.textures l.pool.tracked id shape place (texture_in l.textures place) refl has
        ∙ sym (ap (found_of shape) (record_place within))

  not_there : has_id l.textures l.pool.tracked place id ≡ false → IsTracked l id (ids_ascend l fits) → ⊥
  not_there e (h, f) = ids.not_found l.textures l.pool.tracked place id (ids_ascend l fits) refl e place h (sym (ap id_of (record_place h)) ∙ f)

  pub plan_found_lem : (held : Held) (u : UploadFootprint) (room : ℕ)
      → plan_found (model_of l) shape held u room (find id (model_of l).textures) ≡ plan_by l shape held u room found_in
  unfolding history_found state_of guard
  plan_found_lem held u room = go (has_id l.textures l.pool.tracked place id) refl
    where
      go : (b : Bool) → has_id l.textures l.pool.tracked place id ≡ b
          → plan_found (model_of l) shape held u room (find id (model_of l).textures) ≡ plan_by l shape held u room found_in
      go true e =
          ap (plan_found (model_of l) shape held u room) (places.found l id (ids_ascend l fits) (is_there e))
          ∙ plan_state l shape held u room (first_spare l place) (get_or (tracked_records l) place (read_texture []))
          ∙ ap (plan_by l shape held u room) (sym (found_state e))
      go false e =
          ap (plan_found (model_of l) shape held u room) (places.not_found l id (ids_ascend l fits) (not_there e))
          ∙ sym (ap (plan_by l shape held u room) (found_none l.textures l.pool.tracked id shape place e))

  -- ---- the grids of what was found are there, with their tilings, and their stamps

  abbrev Room : VersionShape → ℕ → ℕ → Recorded → Type 0
  Room s grid stamp h =
      (grid + recorded_grids h s ≤ length l.newest) × (tilings_read l s grid h ≡ true) × (stamp + recorded_stamps h s ≤ length l.stamps)

  recorded_fits : (grid stamp : ℕ) (h : Recorded) (held : Held) → Room shape grid stamp h
      → SinceFits (since_of (recorded_found grid stamp h) held) shape l.newest l.stamps
  recorded_fits grid stamp None held q = tt
  recorded_fits grid stamp (Some n) (Known k) q = (q.0, tiling_there l shape grid q.1, q.2)
  recorded_fits grid stamp (Some n) Unknown q = tt

  state_fits : (t : TextureRecord) (held : Held) → Room t.shape t.grid t.stamp t.history
      → SinceFits (since_of (found_of shape t) held) shape l.newest l.stamps
  unfolding found_of
  state_fits t held q = go (same_shape t.shape shape) refl
    where
      go : (b : Bool) → same_shape t.shape shape ≡ b
          → SinceFits (since_of (cond b (recorded_found t.grid t.stamp t.history) OtherShape) held) shape l.newest l.stamps
      go true e =
          recorded_fits t.grid t.stamp t.history held
          (subst (λ (s : VersionShape). Room s t.grid t.stamp t.history) (same_shape_lem t.shape shape e) q)
      go false e = tt

  first_in : place < l.pool.tracked
      → (let t = get_or (tracked_records l) place (read_texture []) in Room t.shape t.grid t.stamp t.history)
  unfolding tilings_hold
  first_in h = (
    omega (arith, grids_in l fits place h, grid_held_at l fits.starts place h, fits.grids),
    tilings_held_at l fits.tilings place h,
    omega (arith, stamps_in_lem l fits place h, stamp_held_at l fits.starts place h, fits.stamps_counted),
  )

  pub found_fits : (held : Held) → SinceFits (since_of found_in held) shape l.newest l.stamps
  unfolding history_found
  found_fits held = go (has_id l.textures l.pool.tracked place id) refl
    where
      go : (b : Bool) → has_id l.textures l.pool.tracked place id ≡ b
          → SinceFits (since_of found_in held) shape l.newest l.stamps
      go true e = rw (found_state e) (state_fits (get_or (tracked_records l) place (read_texture [])) held (first_in (within e)))
      go false e = rw (found_none l.textures l.pool.tracked id shape place e) tt
