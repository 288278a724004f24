-- No call changes how many places there are. Assumes nothing.
use Prim.Native.Nat.{ℕ}
use mathlib.Core.Path.{◌≡◌, refl}
use mathlib.Core.Bool.{Bool, true, false}
use mathlib.Core.Option.{Option, none, some}
use mathlib.Core.List.{List, [], ◌∷◌}
use lib.Dec.{leb}
use Rattle.base_blocks.proofs.Lists.{either}
use Rattle.grid_shapes.specs.declared.shape.VersionShape.{VersionShape}
use Rattle.grid_shapes.specs.Shapes.{same_shape}
use Rattle.grid_rects.specs.declared.rect.TexelRect.{TexelRect}
use Rattle.pool_rules.specs.declared.held.Held.{Held}
use Rattle.pool_rules.specs.Model.{WriteHistory, Spare, Retiring, VersionState, PoolModel, Out, refused, accepted, guard, find, UploadFootprint}
use Rattle.pool_rules.specs.Updates.{with_retiring}
use Rattle.pool_rules.specs.TakeSpare.{take_tracked, take_renewed, take_found, take_spare}
use Rattle.pool_rules.specs.PreservePlan.{plan_with, plan_found, preserve_plan}
use Rattle.pool_rules.specs.Retire.{retire}
use Rattle.pool_rules.specs.NoteWrite.{note_write, note_mip_regeneration}
use Rattle.pool_rules.specs.PopRetired.{pop_front, pop_retired}
use Rattle.pool_rules.specs.Park.{park_hand, park}
use Rattle.pool_rules.specs.NoteAllocated.{note_allocated}
use Rattle.pool_rules.specs.TakeDoomed.{take_doomed}
use Rattle.pool_rules.specs.DrainVersions.{drain_versions}
use Rattle.pool_rules.specs.Trim.{trim}
use Rattle.pool_rules.specs.ForgetTexture.{forget_texture}
use Rattle.pool_rules.proofs.Parking.{park_cases}

module _ {W : Type 0} (p : PoolModel W) where
  abbrev pub SamePlaces : {A : Type 0} → Out W A → Type 0
  SamePlaces (refused n) = Unit {0}
  SamePlaces (accepted a q) = q.places ≡ p.places

  guarded : {A : Type 0} (b : Bool) (n : ℕ) (o : Out W A) → SamePlaces o → SamePlaces (guard b n o)
  unfolding guard
  guarded true n o h = tt
  guarded false n o h = h

  pub take_spare_places : (id : ℕ) (shape : VersionShape) (records : Bool) (seq : ℕ) → SamePlaces (take_spare p id shape records seq)
  unfolding take_spare
  take_spare_places id shape records seq = guarded _ 2 _ (guarded _ 3 _ (go (find id p.textures)))
    where
      go : (o : Option (VersionState W)) → SamePlaces (take_found p id shape records seq o)
      go none = guarded _ 5 _ (guarded _ 6 _ (guarded _ 12 _ refl))
      go (some t) =
          either (λ (o : Out W (Option (Spare W))). SamePlaces o) (same_shape t.shape shape) (take_tracked p id seq t) (take_renewed p id shape records seq t)
          (λ e. refl) (λ e. guarded _ 6 _ (guarded _ 12 _ refl))

  pub preserve_plan_places : (id : ℕ) (shape : VersionShape) (held : Held) (u : UploadFootprint) (buffer : ℕ)
      → SamePlaces (preserve_plan p id shape held u buffer)
  unfolding preserve_plan
  preserve_plan_places id shape held u buffer = guarded _ 2 _ (go (find id p.textures))
    where
      planned : (h : Option WriteHistory) → SamePlaces (plan_with p shape h held u buffer)
      planned h = guarded _ 11 _ (guarded _ 12 _ refl)

      go : (o : Option (VersionState W)) → SamePlaces (plan_found p shape held u buffer o)
      go none = planned none
      go (some t) = guarded _ 4 _ (planned t.history)

  pub retire_places : (id : ℕ) (view : W) (seq : ℕ) → SamePlaces (retire p id view seq)
  unfolding retire
  retire_places id view seq = guarded _ 3 _ (guarded _ 7 _ (guarded _ 8 _ refl))

  pub note_write_places : (id slice level : ℕ) (r : TexelRect) → SamePlaces (note_write p id slice level r)
  unfolding note_write
  note_write_places id slice level r = guarded _ 12 _ refl

  pub note_mip_regeneration_places : (id : ℕ) → SamePlaces (note_mip_regeneration p id)
  unfolding note_mip_regeneration
  note_mip_regeneration_places id = guarded _ 12 _ refl

  pub pop_retired_places : (settled : ℕ) → SamePlaces (pop_retired p settled)
  unfolding pop_retired
  pop_retired_places settled = guarded _ 3 _ (guarded _ 9 _ (go p.retiring))
    where
      go : (vs : List (Retiring W)) → SamePlaces (pop_front p settled vs)
      go [] = refl
      go (v ∷ vs) =
          either (λ (o : Out W (Option (Retiring W))). SamePlaces o) (leb v.seq settled) (accepted (some v) (with_retiring vs (some v) p)) (accepted none p)
          (λ e. refl) (λ e. refl)

  pub park_places : (failed now : ℕ) → SamePlaces (park p failed now)
  unfolding park
  park_places failed now = guarded _ 3 _ (go p.hand)
    where
      go : (o : Option (Retiring W)) → SamePlaces (park_hand p failed now o)
      go none = tt
      go (some v) =
          park_cases (λ (q : PoolModel W). q.places ≡ p.places) (with_retiring p.retiring none p) failed now v (find v.id p.textures)
          (λ ds. refl) (λ t e f bytes. refl)

  pub note_allocated_places : (allocated : ℕ) → SamePlaces (note_allocated p allocated)
  unfolding note_allocated
  note_allocated_places allocated = refl

  pub take_doomed_places : (buffer : ℕ) → SamePlaces (take_doomed p buffer)
  unfolding take_doomed
  take_doomed_places buffer = guarded _ 11 _ refl

  pub drain_versions_places : (buffer : ℕ) → SamePlaces (drain_versions p buffer)
  unfolding drain_versions
  drain_versions_places buffer = guarded _ 11 _ refl

  pub trim_places : (now : ℕ) → SamePlaces (trim p now)
  unfolding trim
  trim_places now = guarded _ 3 _ refl

  pub forget_texture_places : (id : ℕ) → SamePlaces (forget_texture p id)
  unfolding forget_texture
  forget_texture_places id = refl
