-- Texture i of the model by its record, as the code reads it: where its runs begin, what it has, and what holds of it in a pool. Assumes nothing.
use mathlib.Core.Path.{◌≡◌, ap, ap₂, sym, ◌∙◌, subst}
use mathlib.Core.Bool.{true}
use mathlib.Core.Option.{Option, none, some}
use mathlib.Core.List.{[]}
use Prim.Native.Nat.{ℕ, ◌<◌, ◌^◌}
use native.Mathlib.Omega.{arith}
use lib.ListN.{length, get_or}
use Rattle.base_blocks.specs.Lists.{total}
use Rattle.base_blocks.proofs.Lists.{all_get}
use Rattle.base_blocks.proofs.All.{all_at}
use Rattle.base_tables.proofs.Records.{get_or_table, take_table}
use Rattle.grid_shapes.specs.Shapes.{is_shape, bytes_of}
use Rattle.pool_rules.specs.Model.{WriteHistory}
use Rattle.pool_rules.specs.HistorySizes.{newest_used, stamps_used}
use Rattle.pool_rules.specs.Formed.{Given, HistoryFormed, StateFormed}
use Rattle.pool_records.specs.declared.texture.TextureRecord.{TextureRecord}
use Rattle.pool_records.specs.Recorded.{RecordedFits, recorded_number}
use Rattle.pool_records.specs.Texture.{read_texture, texture_in, textures_in, record_grids, record_stamps}
use Rattle.pool_memory.specs.Lent.{Lent}
use Rattle.pool_memory.specs.Reading.{tracked_records, state_read, model_of}
use Rattle.pool_memory.specs.Writing.{recorded_history, texture_record}
use Rattle.pool_memory.specs.IsPool.{bytes_hold, bytes_fit}
use Rattle.pool_memory.proofs.Fits.{Fits}
use Rattle.pool_memory.proofs.Runs.{spares_of, first_grid_in, first_stamp_in, first_spare, first_grid, first_stamp, state_of, tracked_records_lem, tracked_model, model_at, bytes_held, record_state, grids_state, stamps_used_state, grid_held_at, stamp_held_at}
use Rattle.pool_memory.proofs.Starts.{placed_record}
use Rattle.pool_memory.proofs.Changes.{count_state}
use Rattle.pool_records.specs.RecordConstants.{texture_stride}

-- the record that the code reads
abbrev pub texture_at : Lent → ℕ → TextureRecord
texture_at l i = texture_in l.textures i

module _ (l : Lent) (i : ℕ) (h : i < l.pool.tracked) where
  pub record_read : get_or (tracked_records l) i (read_texture []) ≡ texture_at l i
  record_read = get_or_table texture_stride read_texture l.pool.tracked i l.textures (read_texture []) h

  -- its spares begin behind those of the textures before it
  pub spares_to_lem : first_spare l i ≡ total spares_of (textures_in i l.textures)
  unfolding first_spare
  spares_to_lem = ap (total spares_of) (take_table texture_stride read_texture i l.pool.tracked l.textures (omega arith))

  -- its record holds where its grids and its stamps begin
  pub grid_at_lem : Fits l → (texture_at l i).grid ≡ first_grid l i
  grid_at_lem f = ap first_grid_in (sym record_read) ∙ grid_held_at l f.starts i h

  pub stamp_at_lem : Fits l → (texture_at l i).stamp ≡ first_stamp l i
  stamp_at_lem f = ap first_stamp_in (sym record_read) ∙ stamp_held_at l f.starts i h

  -- the record's bytes are those of one version of its shape
  bytes_tracked : Fits l → (get_or (tracked_records l) i (read_texture [])).bytes ≡ bytes_of (get_or (tracked_records l) i (read_texture [])).shape
  unfolding bytes_fit
  bytes_tracked f =
      bytes_held (get_or (tracked_records l) i (read_texture []))
      (all_get bytes_hold (tracked_records l) i (read_texture []) f.bytes (omega (arith, h, tracked_records_lem l)))

  pub bytes_at : Fits l → (texture_at l i).bytes ≡ bytes_of (texture_at l i).shape
  bytes_at f = subst (λ (t : TextureRecord). t.bytes ≡ bytes_of t.shape) record_read (bytes_tracked f)

  pub record_at_lem : Fits l → placed_record l i (state_of l i) ≡ texture_at l i
  unfolding state_of
  record_at_lem f =
      ap₂ (λ (g n : ℕ). texture_record g n (state_of l i)) (sym (grid_held_at l f.starts i h)) (sym (stamp_held_at l f.starts i h))
      ∙ record_state l (first_spare l i) (get_or (tracked_records l) i (read_texture [])) (bytes_tracked f) ∙ record_read

  pub shape_at : (state_of l i).shape ≡ (texture_at l i).shape
  unfolding state_of state_read
  shape_at = ap (λ (t : TextureRecord). t.shape) record_read

  pub count_at : length (state_of l i).spares ≡ (texture_at l i).spares
  count_at = count_state l i ∙ ap spares_of record_read

  pub grids_at_lem : newest_used (state_of l i) ≡ record_grids (texture_at l i)
  unfolding state_of
  grids_at_lem = grids_state l (first_spare l i) (get_or (tracked_records l) i (read_texture [])) ∙ ap record_grids record_read

  pub stamps_at : stamps_used (state_of l i) ≡ record_stamps (texture_at l i)
  unfolding state_of
  stamps_at = stamps_used_state l (first_spare l i) (get_or (tracked_records l) i (read_texture [])) ∙ ap record_stamps record_read

  pub state_formed : Fits l → StateFormed (state_of l i)
  state_formed f =
      subst StateFormed (model_at l i (state_of l 0) h)
      (all_at (model_of l).textures i (state_of l 0) (omega (arith, h, tracked_model l)) f.formed.textures)

  pub shape_passes : Fits l → is_shape (texture_at l i).shape ≡ true
  shape_passes f = ap is_shape (sym shape_at) ∙ (state_formed f).shape

  pub history_fits_lem : Fits l → RecordedFits (texture_at l i).history
  history_fits_lem f = subst (λ (t : TextureRecord). RecordedFits t.history) (record_at_lem f) (go (state_of l i).history (state_formed f).history)
    where
      go : (o : Option WriteHistory) → Given (HistoryFormed (state_of l i).shape) o → recorded_number (recorded_history o) < 2 ^ 64
      go none g = omega arith
      go (some w) g = omega (arith, g.writes)
