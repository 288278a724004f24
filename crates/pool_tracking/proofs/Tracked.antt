-- What is known of a tracked texture of a pool, by its record. Assumes nothing.
use mathlib.Core.Path.{◌≡◌, sym, ap, ap₂, ◌∙◌}
use mathlib.Core.Bool.{Bool, true}
use mathlib.Core.Option.{some}
use mathlib.Core.List.{[]}
use Prim.Native.Nat.{ℕ, ◌+◌, ◌*◌, ◌≤◌, ◌<◌}
use native.Mathlib.Nat.{mul-one, mul-le-mul_left}
use native.Mathlib.Omega.{arith}
use lib.ListN.{length, get_or}
use Rattle.base_blocks.specs.Lists.{total}
use Rattle.grid_shapes.specs.declared.shape.VersionShape.{VersionShape}
use Rattle.grid_shapes.specs.Shapes.{is_shape, bytes_of}
use Rattle.pool_rules.specs.Model.{find, spare_bytes}
use Rattle.pool_rules.proofs.States.{find_part}
use Rattle.pool_records.specs.declared.texture.TextureRecord.{TextureRecord}
use Rattle.pool_records.specs.Recorded.{RecordedFits}
use Rattle.pool_records.specs.Texture.{read_texture, textures_in}
use Rattle.pool_records.specs.Find.{below}
use Rattle.pool_memory.specs.Lent.{Lent}
use Rattle.pool_memory.specs.Reading.{tracked_records, model_of}
use Rattle.pool_memory.proofs.Fits.{Fits}
use Rattle.pool_memory.proofs.FromPool.{pool_fits}
use Rattle.pool_memory.proofs.Runs.{spares_of, first_spare, state_of}
use Rattle.pool_memory.proofs.Stays.{ids_ascend}
use Rattle.pool_memory.proofs.Places.{IsTracked, found}
use Rattle.pool_memory.proofs.Changes.{spares_in}
use Rattle.pool_memory.proofs.Tracked.{record_read, spares_to_lem, bytes_at, shape_at, count_at, shape_passes, history_fits_lem}
use Rattle.pool_tracking.specs.Cases.{Accepted, record_of, TrackedAt}
use Rattle.pool_records.specs.RecordConstants.{spare_stride, texture_stride}
use Rattle.pool_rules.specs.RuleConstants.{most_places}

module _ (l : Lent) (f : Fits l) (i : ℕ) (h : i < l.pool.tracked) where
  pub record_fits : texture_stride * i + texture_stride ≤ length l.textures
  record_fits = omega (arith, f.textures, f.tracked)

  pub spares_within : first_spare l i + (record_of l i).spares ≤ l.pool.kept
  spares_within = omega (arith, spares_in l i h, f.kept, ap spares_of (record_read l i h))

  pub kept_bound : l.pool.kept ≤ most_places
  kept_bound = omega (arith, f.versions, f.most)

  pub kept_fits : spare_stride * l.pool.kept ≤ length l.spares
  kept_fits = omega (arith, f.versions, f.spares)

  -- ---- bytes

  module _ (id : ℕ) (at : i ≡ below id (tracked_records l)) (e : (record_of l i).id ≡ id) where
    pub is_there : IsTracked l id (ids_ascend l f)
    is_there =
        (omega (arith, at, h), ap (λ (k : ℕ). (get_or (tracked_records l) k (read_texture [])).id) (sym at) ∙ ap (λ (t : TextureRecord). t.id) (record_read l i h) ∙ e)

    pub found_there : find id (model_of l).textures ≡ some (state_of l i)
    found_there = found l id (ids_ascend l f) is_there ∙ ap (λ (k : ℕ). some (state_of l k)) (sym at)

    -- its spares' bytes are part of the parked ones
    pub spares_parked : bytes_of (record_of l i).shape * (record_of l i).spares ≤ l.pool.parked
    unfolding model_of
    spares_parked =
        omega (arith, find_part spare_bytes id (state_of l i) (model_of l).textures found_there, f.formed.parked, both)
      where
        both : spare_bytes (state_of l i) ≡ bytes_of (record_of l i).shape * (record_of l i).spares
        both = ap₂ (λ (a b : ℕ). a * b) (ap bytes_of (shape_at l i h)) (count_at l i h)

    pub spare_parked_lem : 0 < (record_of l i).spares → bytes_of (record_of l i).shape ≤ l.pool.parked
    spare_parked_lem q = omega (arith, spares_parked, mul-one (bytes_of (record_of l i).shape), mul-le-mul_left (bytes_of (record_of l i).shape) q)

-- the id is not at its place: it is not tracked
pub not_there : (l : Lent) (f : Fits l) (i id : ℕ) → i ≡ below id (tracked_records l) → (TrackedAt l i id → ⊥) → IsTracked l id (ids_ascend l f) → ⊥
not_there l f i id at untracked (h, e) =
    let k : i < l.pool.tracked = omega (arith, at, h) in
    untracked (k, sym (ap (λ (t : TextureRecord). t.id) (record_read l i k)) ∙ ap (λ (j : ℕ). (get_or (tracked_records l) j (read_texture [])).id) at ∙ e)

-- what the calls' code asks of a tracked texture's record
pub record Here (l : Lent) (i : ℕ) : Type 0 where
  pub textures : texture_stride * i + texture_stride ≤ length l.textures
  pub history : RecordedFits (record_of l i).history
  pub shape : is_shape (record_of l i).shape ≡ true
  pub bytes : (record_of l i).bytes ≡ bytes_of (record_of l i).shape
  pub first : total spares_of (textures_in i l.textures) ≡ first_spare l i
  pub within : first_spare l i + (record_of l i).spares ≤ l.pool.kept
  pub kept : l.pool.kept ≤ most_places
  pub spares : spare_stride * l.pool.kept ≤ length l.spares
  pub parked : bytes_of (record_of l i).shape * (record_of l i).spares ≤ l.pool.parked
  pub one : 0 < (record_of l i).spares → bytes_of (record_of l i).shape ≤ l.pool.parked

pub here : (l : Lent) (i id : ℕ) (shape : VersionShape) (records : Bool) (seq : ℕ) → Accepted l i id shape records seq → TrackedAt l i id → Here l i
here l i id shape records seq ok (h, e) =
    let f = pool_fits l ok.0 in
    record {
      textures = record_fits l f i h;
      history = history_fits_lem l i h f;
      shape = shape_passes l i h f;
      bytes = bytes_at l i h f;
      first = sym (spares_to_lem l i h);
      within = spares_within l f i h;
      kept = kept_bound l f i h;
      spares = kept_fits l f i h;
      parked = spares_parked l f i h id ok.1.0 e;
      one = spare_parked_lem l f i h id ok.1.0 e;
    }
