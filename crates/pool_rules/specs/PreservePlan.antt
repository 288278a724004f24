-- Rule: preserve_plan: the copies that bring a rename's new version up to the live one. A plan goes slice by slice, level by level.
use Rattle.std.specs.Prelude.{ℕ, Bool, cond, ◌&&◌, not, ltb, eqb, length, Option as Answer, Some, None}
use Rattle.std.proofs.Math.Option.{Option, none, some}
use mathlib.Core.List.{List, [], ◌∷◌, flat_map}
use Rattle.base_blocks.specs.Lists.{listed, tests}
use Rattle.grid_shapes.specs.declared.shape.VersionShape.{VersionShape}
use Rattle.grid_shapes.specs.Shapes.{is_shape, same_shape, slices_of, level_width, level_height}
use Rattle.grid_rects.specs.declared.rect.TexelRect.{TexelRect}
use Rattle.grid_rects.specs.declared.rect.Region.TheVariants.{Whole, Part}
use Rattle.grid_rects.specs.Rects.{whole_level}
use Rattle.grid_stamps.specs.Grids.{tiling_of, box_since}
use Rattle.pool_rules.specs.declared.held.Held.{Held}
use Rattle.pool_rules.specs.declared.held.Held.TheVariants.{Known, Unknown}
use Rattle.pool_rules.specs.Model.{WriteHistory, VersionState, PoolModel, Out, accepted, guard, find, PreserveCopy, UploadFootprint}
use Rattle.pool_rules.specs.Histories.{in_shape, grid_at, spent}

abbrev pub same_rect : TexelRect → TexelRect → Bool
same_rect a b = tests (eqb a.x b.x ∷ eqb a.y b.y ∷ eqb a.width b.width ∷ eqb a.height b.height ∷ [])

abbrev pub whole_copy : ℕ → ℕ → PreserveCopy
whole_copy slice level = record { slice = slice; level = level; region = Whole }

-- nothing where no tile was stamped since; a box equal to the level is reported as whole
unfoldable pub box_copy : VersionShape → ℕ → ℕ → Answer TexelRect → List PreserveCopy
box_copy s slice level None = []
box_copy s slice level (Some r) =
    record { slice = slice; level = level; region = cond (same_rect r (whole_level (level_width s level) (level_height s level))) Whole (Part r) } ∷ []

-- whole where nothing is known, otherwise the box since the held writes
unfoldable pub copy_of : VersionShape → Option WriteHistory → Held → ℕ → ℕ → List PreserveCopy
copy_of s none held slice level = whole_copy slice level ∷ []
copy_of s (some h) Unknown slice level = whole_copy slice level ∷ []
copy_of s (some h) (Known n) slice level = box_copy s slice level (box_since (tiling_of s level) n (grid_at s h slice level))

-- the subresource that the upload rewrites entirely
abbrev pub covers : UploadFootprint → ℕ → ℕ → Bool
covers u slice level = u.cover && (eqb slice u.slice && eqb level u.level)

unfoldable pub copies : VersionShape → Option WriteHistory → Held → UploadFootprint → List PreserveCopy
copies s h held u =
    flat_map
    (λ (slice : ℕ). flat_map (λ (level : ℕ). cond (covers u slice level) [] (copy_of s h held slice level)) (listed (λ (level : ℕ). level) 0 s.levels))
    (listed (λ (slice : ℕ). slice) 0 (slices_of s))

module _ {W : Type 0} where
  -- 12: a plan would skip a covered level of a history at 2^48, whose covering write could then not be taken
  abbrev pub plan_with : PoolModel W → VersionShape → Option WriteHistory → Held → UploadFootprint → ℕ → Out W (List PreserveCopy)
  plan_with p shape h held u buffer =
      guard (ltb buffer (length (copies shape h held u))) 11
      (guard (u.cover && in_shape shape u.slice u.level && spent h) 12 (accepted (copies shape h held u) p))

  abbrev pub plan_found : PoolModel W → VersionShape → Held → UploadFootprint → ℕ → Option (VersionState W) → Out W (List PreserveCopy)
  plan_found p shape held u buffer none = plan_with p shape none held u buffer
  plan_found p shape held u buffer (some t) = guard (not (same_shape t.shape shape)) 4 (plan_with p shape t.history held u buffer)

  -- `buffer` is how many copies the answer has room for
  unfoldable pub preserve_plan : PoolModel W → ℕ → VersionShape → Held → UploadFootprint → ℕ → Out W (List PreserveCopy)
  preserve_plan p id shape held u buffer = guard (not (is_shape shape)) 2 (plan_found p shape held u buffer (find id p.textures))
