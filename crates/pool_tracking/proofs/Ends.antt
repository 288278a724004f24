-- Where a texture's grids and stamps begin and end, as the code reads it off the records, and how many there can be. Assumes nothing.
use mathlib.Core.Path.{◌≡◌, refl, sym, ap, ap₂, ◌∙◌}
use mathlib.Core.Bool.{Bool, true, false, cond}
use mathlib.Core.List.{List}
use Prim.Native.Nat.{ℕ, suc, ◌+◌, ◌*◌, ◌≤◌, ◌<◌}
use native.Mathlib.Omega.{arith}
use borrow.Author.Tests.{lt-ltb, le-ltb, ltb-true, ltb-false}
use lib.Dec.{ltb}
use lib.ListN.{length, get_or}
use Rattle.pool_records.specs.RecordConstants.{texture_stride, texture_grid_at, texture_stamp_at}
use Rattle.pool_records.specs.Texture.{texture_in, record_grids, record_stamps}
use Rattle.pool_records.specs.Starts.{grid_end, stamp_end, grids_held, stamps_held}
use Rattle.pool_records.proofs.Starts.{grid_number, stamp_number}
use Rattle.pool_memory.specs.declared.pool.Pool.{Pool as Counts}
use Rattle.pool_memory.specs.Lent.{Lent}
use Rattle.pool_memory.proofs.Fits.{Fits}
use Rattle.pool_memory.proofs.Runs.{first_grid, first_stamp}
use Rattle.pool_memory.proofs.HistoryRuns.{grid_last, grid_next, stamp_last, stamp_next, stamp_bound}
use Rattle.pool_memory.proofs.Starts.{grid_end_at, stamp_end_at}
use Rattle.pool_memory.proofs.Tracked.{record_read, grid_at_lem, stamp_at_lem}
use Rattle.pool_tracking.specs.Refusal.{most_newest, most_stamps}
use Rattle.pool_tracking.specs.Cases.{record_of}
use Rattle.pool_tracking.specs.Start.{first_of, first_at}

-- ---- as the code reads it

module _ (pool : Counts) (textures : List ℕ) (i : ℕ) where
  by_place : (b : Bool) → ltb i pool.tracked ≡ b
      → cond b (first_of (texture_in textures i).grid (texture_in textures i).stamp) (first_of pool.grids pool.stamps) ≡ first_at pool textures i
  unfolding first_at
  by_place b e =
      sym (ap (λ (c : Bool). cond c (first_of (texture_in textures i).grid (texture_in textures i).stamp) (first_of pool.grids pool.stamps)) e)

  pub first_within : i < pool.tracked
      → first_of (get_or textures (texture_stride * i + texture_grid_at) 0) (get_or textures (texture_stride * i + texture_stamp_at) 0) ≡ first_at pool textures i
  first_within h = ap₂ first_of (grid_number textures i) (stamp_number textures i) ∙ by_place true (lt-ltb i pool.tracked h)

  pub first_behind : pool.tracked ≤ i → first_of pool.grids pool.stamps ≡ first_at pool textures i
  first_behind h = by_place false (le-ltb i pool.tracked h)

-- ---- in a pool

module _ (l : Lent) (f : Fits l) where
  pub stamps_most : length l.stamps ≤ most_stamps
  stamps_most = omega (arith, f.stamps, f.most_pages_lem)

  pub newest_most : length l.newest ≤ most_newest
  newest_most = omega (arith, f.newest, stamps_most)

  -- a texture put in at place i
  pub first_there : (i : ℕ) → i ≤ l.pool.tracked → first_at l.pool l.textures i ≡ first_of (first_grid l i) (first_stamp l i)
  first_there i h = go (ltb i l.pool.tracked) refl
    where
      go : (b : Bool) → ltb i l.pool.tracked ≡ b → first_at l.pool l.textures i ≡ first_of (first_grid l i) (first_stamp l i)
      go true e =
          let k = ltb-true i l.pool.tracked e in sym (by_place l.pool l.textures i true e) ∙ ap₂ first_of (grid_at_lem l i k f) (stamp_at_lem l i k f)
      go false e =
          let k = ltb-false i l.pool.tracked e in
          let last : l.pool.tracked ≡ i = omega (arith, h, k) in
          sym (by_place l.pool l.textures i false e)
          ∙ ap₂ first_of (sym (grid_last l f) ∙ ap (first_grid l) last) (sym (stamp_last l f) ∙ ap (first_stamp l) last)

  -- those of texture i
  module _ (i : ℕ) (h : i < l.pool.tracked) where
    pub grid_begins : (record_of l i).grid ≤ grid_end l.textures l.pool.tracked l.pool.grids i
    grid_begins = omega (arith, grid_end_at l f i h, grid_at_lem l i h f, grid_next l f i h)

    pub stamp_begins : (record_of l i).stamp ≤ stamp_end l.textures l.pool.tracked l.pool.stamps i
    stamp_begins = omega (arith, stamp_end_at l f i h, stamp_at_lem l i h f, stamp_next l f i h)

    pub stamp_end_bound : stamp_end l.textures l.pool.tracked l.pool.stamps i ≤ l.pool.stamps
    stamp_end_bound = omega (arith, stamp_end_at l f i h, stamp_bound l f (suc i))

    -- as many as its record claims
    pub grids_held_lem : grids_held l.textures l.pool.tracked l.pool.grids i ≡ record_grids (record_of l i)
    grids_held_lem = omega (arith, grid_end_at l f i h, grid_at_lem l i h f, grid_next l f i h, ap record_grids (record_read l i h))

    pub stamps_held_lem : stamps_held l.textures l.pool.tracked l.pool.stamps i ≡ record_stamps (record_of l i)
    stamps_held_lem = omega (arith, stamp_end_at l f i h, stamp_at_lem l i h f, stamp_next l f i h, ap record_stamps (record_read l i h))
