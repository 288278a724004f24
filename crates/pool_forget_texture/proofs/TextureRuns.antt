-- The spares, the grids and the stamps of a texture, by the records: where they lie, and how much they are. Assumes nothing.
use mathlib.Core.Path.{◌≡◌, ap, ap₂, ◌∙◌}
use Prim.Native.Nat.{ℕ, ◌+◌, ◌*◌, ◌≤◌, ◌<◌}
use native.Mathlib.Nat.{mul-le-mul}
use native.Mathlib.Omega.{arith}
use Rattle.base_blocks.specs.Lists.{listed}
use Rattle.grid_shapes.specs.Shapes.{bytes_of}
use Rattle.grid_shapes.proofs.ShapeBytes.{bytes_bound}
use Rattle.pool_records.specs.Starts.{grid_end, stamp_end}
use Rattle.pool_records.specs.Texture.{read_texture, texture_in, spares_to}
use Rattle.pool_memory.specs.Lent.{Lent}
use Rattle.pool_memory.specs.Reading.{spare_read, state_read}
use Rattle.pool_memory.proofs.Fits.{Fits}
use Rattle.pool_memory.proofs.Runs.{spares_of, first_grid, first_stamp, state_of}
use Rattle.pool_memory.proofs.HistoryRuns.{grid_count_at, stamp_count_at, grid_next, stamp_next}
use Rattle.pool_memory.proofs.Starts.{grid_end_at, stamp_end_at}
use Rattle.pool_memory.proofs.Tracked.{record_read, spares_to_lem, shape_passes}
use Rattle.pool_access.proofs.Totals.{total_with}
use Rattle.grid_shapes.specs.ShapeConstants.{most_shape_bytes}
use Rattle.grid_stamps.specs.StampConstants.{page_stamps}
use Rattle.pool_records.specs.RecordConstants.{texture_stride}
use Rattle.pool_rules.specs.RuleConstants.{grid_stride, most_places}

-- no more stamps and numbers of `newest` are in use than pages can be lent for
module _ (l : Lent) (f : Fits l) where
  pub stamps_few : l.pool.stamps ≤ page_stamps * most_places
  stamps_few = omega (arith, f.stamps_counted, f.stamps, f.most_pages_lem)

  pub grids_few : l.pool.grids ≤ grid_stride * (page_stamps * most_places)
  grids_few = omega (arith, f.grids, f.newest, f.stamps, f.most_pages_lem)

module _ (l : Lent) (i : ℕ) (h : i < l.pool.tracked) where
  pub spares_in : (state_of l i).spares ≡ listed (spare_read l) (spares_to l.textures i) (texture_in l.textures i).spares
  unfolding state_of state_read
  spares_in = ap₂ (λ (k n : ℕ). listed (spare_read l) k n) (spares_to_lem l i h) (ap spares_of (record_read l i h))

  module _ (f : Fits l) where
    -- they lie within what is counted
    pub spares_within : spares_to l.textures i + (texture_in l.textures i).spares ≤ l.pool.kept
    spares_within = omega (arith, f.kept, total_with texture_stride read_texture spares_of l.textures i l.pool.tracked h)

    -- what its spares take
    pub bytes_within : bytes_of (texture_in l.textures i).shape * (texture_in l.textures i).spares ≤ most_shape_bytes * most_places
    bytes_within =
        let few : (texture_in l.textures i).spares ≤ most_places = omega (arith, spares_within, f.versions, f.most) in
        mul-le-mul (bytes_bound (texture_in l.textures i).shape (shape_passes l i h f)) few

    -- its grids and its stamps end where those of the next texture begin, or with all of them
    pub grids_end : grid_end l.textures l.pool.tracked l.pool.grids i ≡ first_grid l i + grid_count_at l i
    grids_end = grid_end_at l f i h ∙ grid_next l f i h

    pub stamps_end : stamp_end l.textures l.pool.tracked l.pool.stamps i ≡ first_stamp l i + stamp_count_at l i
    stamps_end = stamp_end_at l f i h ∙ stamp_next l f i h
