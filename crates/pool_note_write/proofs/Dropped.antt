-- A history dropped: where its grids and stamps end, what is left in the lent memory, and that all of it can be moved so. Assumes nothing.
use mathlib.Core.Path.{◌≡◌, refl, sym, ap, ap₂, ◌∙◌, subst}
use mathlib.Core.Option.{none}
use mathlib.Core.List.{List}
use Prim.Native.Nat.{ℕ, ◌+◌, ◌*◌, ◌-◌, ◌≤◌, ◌<◌}
use native.Mathlib.Numerals.{add-one}
use native.Mathlib.Omega.{arith}
use lib.ListN.{length}
use lib.Seq.{sets}
use Rattle.pool_rules.specs.Model.{PoolModel}
use Rattle.pool_records.specs.declared.texture.TextureRecord.{TextureRecord}
use Rattle.pool_records.specs.Texture.{write_texture, texture_in}
use Rattle.pool_records.specs.Starts.{less_by, starts_moved, StartsMove, grid_end, stamp_end}
use Rattle.pool_records.specs.RecordConstants.{texture_stride}
use Rattle.pool_memory.specs.Lent.{Lent, lent}
use Rattle.pool_memory.specs.Writing.{textures_after, lent_after}
use Rattle.pool_memory.proofs.Fits.{Fits}
use Rattle.pool_memory.proofs.Runs.{first_grid, first_stamp}
use Rattle.pool_memory.proofs.Stays.{textures_fit_lem}
use Rattle.pool_memory.proofs.Starts.{placed_record, textures_renewed, renewed_moves, grid_end_at, stamp_end_at}
use Rattle.pool_memory.proofs.HistoryRuns.{grid_count_at, stamp_count_at, grid_next, stamp_next, grids_in, stamps_in_lem, newest_dropped_lem, stamps_dropped_lem}
use Rattle.pool_memory.proofs.Written.{used_at, stamps_used_at}
use Rattle.pool_memory.proofs.Tracked.{grid_at_lem, stamp_at_lem}
use Rattle.pool_history.specs.declared.run.Used.{Used}
use Rattle.pool_history.specs.declared.run.HistoryRun.{HistoryRun}
use Rattle.pool_note_write.specs.Dropped.{run_at, record_dropped, records_dropped, newest_dropped, stamps_dropped, CanDrop}
use Rattle.pool_note_write.specs.Counts.{with_used}
use Rattle.pool_note_write.proofs.Left.{other_state, other_pool, other_record, grids_left, stamps_left, history_left}

-- ---- the run that was read

module _ (textures newest stamps : List ℕ) (n : ℕ) (used : Used) (i : ℕ) (d : CanDrop textures newest stamps n used i) (run : HistoryRun)
    (e : run ≡ run_at textures n used i) where
  run_within : ((run_at textures n used i).grid + (run_at textures n used i).grids ≤ used.grids)
      × ((run_at textures n used i).stamp + (run_at textures n used i).stamps ≤ used.stamps)
  unfolding run_at
  run_within = (omega (arith, d.grids_begin, d.grids_end), omega (arith, d.stamps_begin, d.stamps_end))

  -- it lies within those in use
  pub run_in : (run.grid + run.grids ≤ used.grids) × (used.grids ≤ length newest) × (run.stamp + run.stamps ≤ used.stamps) × (used.stamps ≤ length stamps)
  run_in = (
    subst (λ (r : HistoryRun). r.grid + r.grids ≤ used.grids) (sym e) run_within.0,
    d.grids_fit_lem,
    subst (λ (r : HistoryRun). r.stamp + r.stamps ≤ used.stamps) (sym e) run_within.1,
    d.stamps_fit,
  )

  -- and those behind it can be moved down by it
  pub run_moves : (s : List ℕ) → s ≡ record_dropped textures i → StartsMove (less_by run.grids) (less_by run.stamps) (i + 1) n s
  run_moves s k =
      subst (StartsMove (less_by run.grids) (less_by run.stamps) (i + 1) n) (sym k)
      (subst (λ (r : HistoryRun). StartsMove (less_by r.grids) (less_by r.stamps) (i + 1) n (record_dropped textures i)) (sym e) d.behind)

  pub records_left : (s : List ℕ) → s ≡ record_dropped textures i
      → starts_moved (less_by run.grids) (less_by run.stamps) (i + 1) n s ≡ records_dropped textures n (run_at textures n used i) i
  unfolding records_dropped
  records_left s k =
      ap (starts_moved (less_by run.grids) (less_by run.stamps) (i + 1) n) k
      ∙ ap (λ (r : HistoryRun). starts_moved (less_by r.grids) (less_by r.stamps) (i + 1) n (record_dropped textures i)) e

-- ---- what is left

abbrev pub used_in : Lent → Used
used_in l = record { grids = l.pool.grids; stamps = l.pool.stamps }

abbrev pub left_by : Lent → ℕ → HistoryRun → Lent
left_by l i run =
    lent (with_used (l.pool.grids - run.grids) (l.pool.stamps - run.stamps) l.pool) l.book
    (records_dropped l.textures l.pool.tracked run i) l.retiring l.doomed l.spares
    (newest_dropped l.newest (used_in l) run) (stamps_dropped l.stamps (used_in l) run)

abbrev pub dropped_lent : Lent → ℕ → Lent
dropped_lent l i = left_by l i (run_at l.textures l.pool.tracked (used_in l) i)

module _ (l : Lent) (f : Fits l) (i : ℕ) (h : i < l.pool.tracked) where
  -- ---- where its grids and its stamps end

  grid_ends : grid_end l.textures l.pool.tracked l.pool.grids i ≡ first_grid l i + grid_count_at l i
  grid_ends = grid_end_at l f i h ∙ grid_next l f i h

  stamp_ends : stamp_end l.textures l.pool.tracked l.pool.stamps i ≡ first_stamp l i + stamp_count_at l i
  stamp_ends = stamp_end_at l f i h ∙ stamp_next l f i h

  -- so its run is the one that it has
  abbrev held_run : HistoryRun
  held_run = record { grid = first_grid l i; grids = grid_count_at l i; stamp = first_stamp l i; stamps = stamp_count_at l i }

  run_held : run_at l.textures l.pool.tracked (used_in l) i ≡ held_run
  unfolding run_at
  run_held =
      let a : grid_end l.textures l.pool.tracked l.pool.grids i - (texture_in l.textures i).grid ≡ grid_count_at l i =
      omega (arith, grid_ends, grid_at_lem l i h f) in
      let b : stamp_end l.textures l.pool.tracked l.pool.stamps i - (texture_in l.textures i).stamp ≡ stamp_count_at l i =
      omega (arith, stamp_ends, stamp_at_lem l i h f) in
      λ j. record { grid = grid_at_lem l i h f j; grids = a j; stamp = stamp_at_lem l i h f j; stamps = b j }

  -- ---- what is left

  abbrev pool : PoolModel ℕ
  pool = other_pool l f i h none

  textures_dropped : records_dropped l.textures l.pool.tracked held_run i ≡ textures_after pool l
  unfolding records_dropped
  textures_dropped =
      ap₂ (λ (k : ℕ) (t : TextureRecord). starts_moved (less_by (grid_count_at l i)) (less_by (stamp_count_at l i)) k l.pool.tracked (sets l.textures (texture_stride * i) (write_texture t)))
      (add-one i) (sym (other_record l f i h none))
      ∙ textures_renewed l pool f (less_by (grid_count_at l i)) (less_by (stamp_count_at l i)) i (other_state l f i h none) h refl (sym (used_at l i)) refl
      (sym (stamps_used_at l i)) refl

  pub history_dropped : dropped_lent l i ≡ lent_after pool l
  unfolding newest_dropped stamps_dropped
  history_dropped =
      ap (left_by l i) run_held
      ∙ history_left l f i h none (l.pool.grids - grid_count_at l i) (l.pool.stamps - stamp_count_at l i)
      (omega (arith, grids_left l f i h none, used_at l i, grids_in l f i h))
      (omega (arith, stamps_left l f i h none, stamps_used_at l i, stamps_in_lem l f i h)) _ _ _ textures_dropped
      (newest_dropped_lem l f pool i h (other_state l f i h none) refl refl) (stamps_dropped_lem l f pool i h (other_state l f i h none) refl refl)

  -- ---- and it can be left so

  moves : StartsMove (less_by (grid_count_at l i)) (less_by (stamp_count_at l i)) (i + 1) l.pool.tracked (record_dropped l.textures i)
  moves =
      subst (λ (t : TextureRecord). StartsMove (less_by (grid_count_at l i)) (less_by (stamp_count_at l i)) (i + 1) l.pool.tracked (sets l.textures (texture_stride * i) (write_texture t)))
      (other_record l f i h none)
      (subst (λ (k : ℕ). StartsMove (less_by (grid_count_at l i)) (less_by (stamp_count_at l i)) k l.pool.tracked (sets l.textures (texture_stride * i) (write_texture (placed_record l i (other_state l f i h none)))))
      (sym (add-one i))
      (renewed_moves l pool f (less_by (grid_count_at l i)) (less_by (stamp_count_at l i)) (omega arith) (omega arith) i (other_state l f i h none) h (sym (used_at l i))
      (sym (stamps_used_at l i))))

  pub can_drop : CanDrop l.textures l.newest l.stamps l.pool.tracked (used_in l) i
  can_drop = record {
    fit = textures_fit_lem l f;
    there = h;
    grids_begin = omega (arith, grid_ends, grid_at_lem l i h f);
    grids_end = omega (arith, grid_ends, grids_in l f i h);
    grids_fit_lem = f.grids;
    stamps_begin = omega (arith, stamp_ends, stamp_at_lem l i h f);
    stamps_end = omega (arith, stamp_ends, stamps_in_lem l f i h);
    stamps_fit = f.stamps_counted;
    behind =
        subst (λ (r : HistoryRun). StartsMove (less_by r.grids) (less_by r.stamps) (i + 1) l.pool.tracked (record_dropped l.textures i)) (sym run_held) moves;
  }
