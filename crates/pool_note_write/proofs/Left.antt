-- What is left in the lent memory of a texture whose history changes, and of one that keeps it: stamped by a write, made again by a regeneration.
-- Assumes nothing.
use mathlib.Core.Path.{◌≡◌, refl, sym, ap, ap₂, ◌∙◌}
use mathlib.Core.Bool.{true, cond}
use mathlib.Core.Option.{Option, some}
use mathlib.Core.List.{List, flat_map}
use Prim.Native.Nat.{ℕ, suc, ◌+◌, ◌*◌, ◌≤◌, ◌<◌}
use native.Mathlib.Omega.{arith}
use lib.ListN.{length, drop, get_or, set, length-set}
use lib.Seq.{sets}
use Rattle.base_blocks.specs.Lists.{listed, total}
use Rattle.grid_shapes.specs.declared.shape.VersionShape.{VersionShape}
use Rattle.grid_shapes.specs.Shapes.{is_shape, slices_of}
use Rattle.grid_rects.specs.declared.rect.TexelRect.{TexelRect}
use Rattle.grid_stamps.specs.Grids.{StampGrid, grid_in, tiling_of, stamped_by}
use Rattle.grid_stamps.proofs.Tilings.{tiling_ok}
use Rattle.grid_stamps.proofs.Stamps.{length_stamped}
use Rattle.pool_rules.specs.Model.{WriteHistory, VersionState, PoolModel, has_history, grid_count}
use Rattle.pool_rules.specs.Updates.{with_history, with_textures}
use Rattle.pool_rules.specs.Histories.{grid_at, grid_place, stamp_write, regenerate_from, stamp_regeneration}
use Rattle.pool_rules.specs.HistorySizes.{grid_size, grid_start, history_size, newest_used, stamps_used}
use Rattle.pool_rules.specs.RuleConstants.{grid_stride}
use Rattle.pool_rules.proofs.HistorySizes.{grid_size_lem, grid_last}
use Rattle.std.specs.Prelude.{Some}
use Rattle.pool_records.specs.declared.texture.TextureRecord.{TextureRecord}
use Rattle.pool_records.specs.Texture.{write_texture, texture_in}
use Rattle.pool_records.specs.Tilings.{tiling_number, TilingsAt}
use Rattle.pool_memory.specs.Lent.{Lent, lent}
use Rattle.pool_memory.specs.Reading.{grid_read, model_of, grid_on}
use Rattle.pool_memory.specs.Writing.{recorded_history, grids_of, newest_from, textures_after, newest_after, stamps_after, pool_after, lent_after}
use Rattle.pool_memory.proofs.Fits.{Fits}
use Rattle.pool_memory.proofs.NewestNumbers.{length_newest_from}
use Rattle.pool_memory.proofs.Runs.{spare_count, first_grid, first_stamp, state_of, tracked_model, kept_model, grids_model, stamps_used_model}
use Rattle.pool_memory.proofs.Rings.{head_stays, hand_model, first_stays}
use Rattle.pool_memory.proofs.Same.{queued_model, doomed_model}
use Rattle.pool_memory.proofs.Stays.{put_together, book_stays, retiring_stay, doomed_stay, spares_stay}
use Rattle.pool_memory.proofs.Changes.{every_kept}
use Rattle.pool_memory.proofs.Counts.{used_set}
use Rattle.pool_memory.proofs.Starts.{placed_record, textures_set}
use Rattle.pool_memory.proofs.HistoryRuns.{grid_count_at, stamp_count_at, stamps_in_lem, newest_rewritten, stamps_rewritten}
use Rattle.pool_memory.proofs.Written.{grids_at, all_grids, all_stamps, place_grid, grid_held, newest_stamped, stamps_stamped}
use Rattle.pool_memory.proofs.Tracked.{record_at_lem, shape_at, grid_at_lem, stamp_at_lem}
use Rattle.pool_history.specs.Remade.{stamps_in, newest_written, stamps_written, remade_grids}
use Rattle.pool_history.proofs.NewestWritten.{written_all}
use Rattle.pool_history.proofs.Regenerated.{regenerate_listed, length_remade, length_stamps}
use Rattle.pool_note_write.specs.History.{recorded_as, newest_place, stamps_place, stamped_on, remade_at}
use Rattle.pool_note_write.specs.Counts.{with_used}
use Rattle.pool_records.specs.RecordConstants.{texture_stride}

-- what is left of a history that is kept, with another count
abbrev pub kept_lent : Lent → ℕ → ℕ → List ℕ → List ℕ → Lent
kept_lent l i writes newest stamps =
    lent l.pool l.book (sets l.textures (texture_stride * i) (write_texture (recorded_as (Some writes) (texture_in l.textures i))))
    l.retiring l.doomed l.spares newest stamps

module _ (l : Lent) (f : Fits l) (i : ℕ) (h : i < l.pool.tracked) where
  -- ---- any other history

  module _ (o : Option WriteHistory) where
    abbrev pub other_state : VersionState ℕ
    other_state = with_history o (state_of l i)

    abbrev pub other_pool : PoolModel ℕ
    other_pool = with_textures (set (model_of l).textures i other_state) (model_of l)

    pub other_record : placed_record l i other_state ≡ recorded_as (recorded_history o) (texture_in l.textures i)
    other_record = λ j. recorded_as (recorded_history o) (record_at_lem l i h f j)

    kept_left : total spare_count (set (model_of l).textures i other_state) ≡ l.pool.kept
    kept_left = omega (arith, used_set l other_pool spare_count l.pool.kept (kept_model l ∙ f.kept) i other_state h refl)

    pub grids_left : total newest_used (set (model_of l).textures i other_state) + newest_used (state_of l i) ≡ l.pool.grids + newest_used other_state
    grids_left = used_set l other_pool newest_used l.pool.grids (grids_model l ∙ f.claimed) i other_state h refl

    pub stamps_left : total stamps_used (set (model_of l).textures i other_state) + stamps_used (state_of l i) ≡ l.pool.stamps + stamps_used other_state
    stamps_left = used_set l other_pool stamps_used l.pool.stamps (stamps_used_model l ∙ f.stamps_claimed) i other_state h refl

    module _ (grids used : ℕ) (counted : total newest_used (set (model_of l).textures i other_state) ≡ grids)
        (stamped : total stamps_used (set (model_of l).textures i other_state) ≡ used) where
      counts_left : with_used grids used l.pool ≡ pool_after other_pool l
      unfolding pool_after model_of
      counts_left = λ j. record {
        tracked = sym (length-set (model_of l).textures i other_state ∙ tracked_model l) j;
        kept = sym kept_left j;
        grids = sym counted j;
        stamps = sym stamped j;
        head = sym (head_stays l other_pool f.head (omega (arith, hand_model l f.hand))) j;
        popped = sym (hand_model l f.hand) j;
        queued = sym (queued_model l) j;
        first = sym (first_stays l other_pool f.first (omega (arith, doomed_model l))) j;
        doomed = sym (doomed_model l) j;
        since = l.pool.since;
        trackings = l.pool.trackings;
        parked = l.pool.parked;
        dooming = l.pool.dooming;
        cap = l.pool.cap;
        line = l.pool.line;
      }

      pub history_left : (textures newest stamps : List ℕ) → textures ≡ textures_after other_pool l → newest ≡ newest_after other_pool l
          → stamps ≡ stamps_after other_pool l
          → lent (with_used grids used l.pool) l.book textures l.retiring l.doomed l.spares newest stamps ≡ lent_after other_pool l
      history_left textures newest stamps a b c =
          put_together other_pool l (with_used grids used l.pool) l.book textures l.retiring l.doomed l.spares newest stamps
          counts_left (book_stays l f other_pool refl) a (retiring_stay l f other_pool refl refl) (doomed_stay l f other_pool refl)
          (spares_stay l f other_pool (every_kept l i h other_state refl)) b c

  -- ---- a texture with a history, which it keeps

  module _ (old : WriteHistory) (has : (state_of l i).history ≡ some old) where
    abbrev shape : VersionShape
    shape = (state_of l i).shape

    module _ (new : WriteHistory) where
      same_grids : newest_used (other_state (some new)) ≡ newest_used (state_of l i)
      same_grids = sym (ap (λ (o : Option WriteHistory). cond (has_history o) (grid_stride * grid_count shape) 0) has)

      same_stamps : stamps_used (other_state (some new)) ≡ stamps_used (state_of l i)
      same_stamps = sym (ap (λ (o : Option WriteHistory). cond (has_history o) (history_size shape) 0) has)

      still_left : (newest stamps : List ℕ) → newest ≡ newest_after (other_pool (some new)) l → stamps ≡ stamps_after (other_pool (some new)) l
          → kept_lent l i new.writes newest stamps ≡ lent_after (other_pool (some new)) l
      still_left newest stamps a b =
          history_left (some new) l.pool.grids l.pool.stamps (omega (arith, grids_left (some new), same_grids))
          (omega (arith, stamps_left (some new), same_stamps))
          (sets l.textures (texture_stride * i) (write_texture (recorded_as (Some new.writes) (texture_in l.textures i)))) newest stamps
          (ap (λ (t : TextureRecord). sets l.textures (texture_stride * i) (write_texture t)) (sym (other_record (some new)))
          ∙ textures_set l (other_pool (some new)) f i (other_state (some new)) h refl same_grids same_stamps)
          a b

    -- ---- a write

    module _ (slice level : ℕ) (r : TexelRect) (a : slice < slices_of shape) (b : level < shape.levels) (shaped : is_shape shape ≡ true) where
      abbrev place : ℕ
      place = grid_place shape slice level

      abbrev stamped_grid : StampGrid
      stamped_grid = stamped_by (tiling_of shape level) r (suc old.writes) (grid_at shape old slice level)

      abbrev after_write : Option WriteHistory
      after_write = some (stamp_write shape slice level r old)

      new_grids : grids_of after_write ≡ set (grids_at l i) place stamped_grid
      unfolding stamp_write
      new_grids = ap (λ (o : Option WriteHistory). set (grids_of o) place stamped_grid) (sym has)

      newest_place_lem : newest_place l.textures i slice level ≡ first_grid l i + grid_stride * place
      unfolding newest_place
      newest_place_lem = ap₂ (λ (g : ℕ) (s : VersionShape). g + grid_stride * grid_place s slice level) (grid_at_lem l i h f) (sym (shape_at l i h))

      stamps_place_lem : stamps_place l.textures i slice level ≡ first_stamp l i + grid_start shape place
      unfolding stamps_place
      stamps_place_lem = ap₂ (λ (n : ℕ) (s : VersionShape). n + grid_start s (grid_place s slice level)) (stamp_at_lem l i h f) (sym (shape_at l i h))

      stamped_on_lem : stamped_on l.textures i slice level r (suc old.writes) l.newest l.stamps ≡ stamped_grid
      unfolding stamped_on grid_on
      stamped_on_lem =
          ap (λ (s : VersionShape). stamped_by (tiling_of s level) r (suc old.writes)
          (grid_in (tiling_of s level) (get_or l.newest (newest_place l.textures i slice level) 0) (drop (stamps_place l.textures i slice level) l.stamps)))
          (sym (shape_at l i h))
          ∙ ap₂ (λ (p n : ℕ). stamped_by (tiling_of shape level) r (suc old.writes) (grid_in (tiling_of shape level) (get_or l.newest p 0) (drop n l.stamps)))
          newest_place_lem stamps_place_lem
          ∙ ap (stamped_by (tiling_of shape level) r (suc old.writes)) (sym (grid_held l i f h old has slice level a b))

      length_new : length stamped_grid.stamps ≡ grid_size shape place
      length_new =
          length_stamped (tiling_of shape level) (tiling_ok shape shaped level) r (suc old.writes) (grid_at shape old slice level)
          ∙ sym (grid_size_lem shape slice level b)

      pub history_stamped : kept_lent l i (suc old.writes)
          (set l.newest (newest_place l.textures i slice level) (stamped_on l.textures i slice level r (suc old.writes) l.newest l.stamps).newest)
          (sets l.stamps (stamps_place l.textures i slice level) (stamped_on l.textures i slice level r (suc old.writes) l.newest l.stamps).stamps)
          ≡ lent_after (other_pool after_write) l
      unfolding stamp_write
      history_stamped =
          let q = place_grid l i f h old has slice level a b in
          still_left (stamp_write shape slice level r old) _ _
          (ap₂ (λ (p : ℕ) (g : StampGrid). set l.newest p g.newest) newest_place_lem stamped_on_lem
          ∙ newest_stamped l f (other_pool after_write) i h (other_state after_write) refl refl place stamped_grid q new_grids)
          (ap₂ (λ (p : ℕ) (g : StampGrid). sets l.stamps p g.stamps) stamps_place_lem stamped_on_lem
          ∙ stamps_stamped l f (other_pool after_write) i h (other_state after_write) refl refl place stamped_grid q new_grids length_new)

    -- ---- a regeneration

    module _ (shaped : is_shape shape ≡ true) (grids : old.grids ≡ listed (grid_read l shape (first_grid l i) (first_stamp l i)) 0 (grid_count shape))
        (tilings : TilingsAt l.newest (texture_in l.textures i).grid (texture_in l.textures i).shape) where
      abbrev after_regeneration : Option WriteHistory
      after_regeneration = some (stamp_regeneration shape old)

      abbrev made : List StampGrid
      made = remade_grids shape (suc old.writes) l.newest l.stamps (first_grid l i) (first_stamp l i) (grid_count shape)

      -- those that the code makes, by the record
      made_here : remade_at l.textures i (suc old.writes) l.newest l.stamps ≡ made
      unfolding remade_at
      made_here =
          ap (λ (s : VersionShape). remade_grids s (suc old.writes) l.newest l.stamps (texture_in l.textures i).grid (texture_in l.textures i).stamp (grid_count s))
          (sym (shape_at l i h))
          ∙ ap₂ (λ (g n : ℕ). remade_grids shape (suc old.writes) l.newest l.stamps g n (grid_count shape)) (grid_at_lem l i h f) (stamp_at_lem l i h f)

      -- those that the rule makes
      made_grids : made ≡ grids_of after_regeneration
      unfolding stamp_regeneration remade_grids grid_read grid_on
      made_grids =
          sym (ap (regenerate_from shape (suc old.writes) 0) grids
          ∙ regenerate_listed shape (suc old.writes) (grid_read l shape (first_grid l i) (first_stamp l i)) 0 (grid_count shape))

      count_made : length (grids_of after_regeneration) ≡ grid_count shape
      count_made =
          ap length (sym made_grids) ∙ length_remade shape shaped (suc old.writes) l.newest l.stamps (first_grid l i) (first_stamp l i) (grid_count shape)

      numbers_made_lem : length (newest_from shape 0 (grids_of after_regeneration)) ≡ grid_count_at l i
      numbers_made_lem =
          length_newest_from shape 0 (grids_of after_regeneration) ∙ ap (λ (n : ℕ). grid_stride * n) count_made ∙ sym (all_grids l i f h old has)

      -- each beside its tiling, which is there
      beside : TilingsAt l.newest (first_grid l i) shape
      beside k q =
          ap (λ (g : ℕ). get_or l.newest (g + grid_stride * k + 1) 0) (sym (grid_at_lem l i h f))
          ∙ tilings k (omega (arith, q, ap grid_count (shape_at l i h)))
          ∙ ap (λ (s : VersionShape). tiling_number s k) (sym (shape_at l i h))

      stamps_made : length (flat_map stamps_in (grids_of after_regeneration)) ≡ stamp_count_at l i
      stamps_made =
          let room : first_stamp l i + history_size shape ≤ length l.stamps = omega (arith, all_stamps l i f h old has, stamps_in_lem l f i h, f.stamps_counted) in
          ap (λ (gs : List StampGrid). length (flat_map stamps_in gs)) (sym made_grids)
          ∙ length_stamps shape shaped (suc old.writes) l.newest l.stamps (first_grid l i) (first_stamp l i) room (grid_count shape) (omega arith)
          ∙ grid_last shape ∙ sym (all_stamps l i f h old has)

      pub history_regenerated : kept_lent l i (suc old.writes)
          (newest_written l.newest (texture_in l.textures i).grid (remade_at l.textures i (suc old.writes) l.newest l.stamps))
          (stamps_written l.stamps (texture_in l.textures i).stamp (remade_at l.textures i (suc old.writes) l.newest l.stamps))
          ≡ lent_after (other_pool after_regeneration) l
      unfolding stamp_regeneration stamps_written
      history_regenerated =
          still_left (stamp_regeneration shape old) _ _
          (ap₂ (newest_written l.newest) (grid_at_lem l i h f) (made_here ∙ made_grids)
          ∙ written_all shape l.newest (first_grid l i) (grids_of after_regeneration) count_made beside
          ∙ newest_rewritten l f (other_pool after_regeneration) i h (other_state after_regeneration) refl numbers_made_lem)
          (ap₂ (stamps_written l.stamps) (stamp_at_lem l i h f) (made_here ∙ made_grids)
          ∙ stamps_rewritten l f (other_pool after_regeneration) i h (other_state after_regeneration) refl stamps_made)
