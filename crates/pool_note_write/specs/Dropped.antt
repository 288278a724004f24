-- Helper: A texture's record after its history is dropped, those behind it, and what has to hold before.
use Rattle.std.specs.Prelude.{ℕ, ◌+◌, ◌*◌, ◌-◌, ◌≤◌, ◌<◌, List, length}
use Rattle.std.proofs.lemmas.List.Edits.{sets}
use Rattle.base_blocks.specs.Blocks.{moved}
use Rattle.std.specs.Prelude.{None}
use Rattle.pool_records.specs.Texture.{write_texture, texture_in}
use Rattle.pool_records.specs.Starts.{less_by, starts_moved, StartsMove, grid_end, stamp_end, grids_held, stamps_held}
use Rattle.pool_records.specs.RecordConstants.{texture_stride}
use Rattle.pool_history.specs.declared.run.Used.{Used}
use Rattle.pool_history.specs.declared.run.HistoryRun.{HistoryRun}
use Rattle.pool_note_write.specs.History.{recorded_as}

-- where the grids and the stamps of texture i of n begin, and how many they are up to where those of the next one do
unfoldable pub run_at : List ℕ → ℕ → Used → ℕ → HistoryRun
run_at textures n used i = record {
  grid = (texture_in textures i).grid;
  grids = grids_held textures n used.grids i;
  stamp = (texture_in textures i).stamp;
  stamps = stamps_held textures n used.stamps i;
}

-- record i without a history
abbrev pub record_dropped : List ℕ → ℕ → List ℕ
record_dropped textures i = sets textures (texture_stride * i) (write_texture (recorded_as None (texture_in textures i)))

-- and those behind it, up to n, moved down by its grids and stamps
unfoldable pub records_dropped : List ℕ → ℕ → HistoryRun → ℕ → List ℕ
records_dropped textures n run i = starts_moved (less_by run.grids) (less_by run.stamps) (i + 1) n (record_dropped textures i)

-- the others' newest stamps and stamps, those behind it moved down
unfoldable pub newest_dropped : List ℕ → Used → HistoryRun → List ℕ
newest_dropped newest used run = moved newest run.grid (run.grid + run.grids) (used.grids - (run.grid + run.grids))

unfoldable pub stamps_dropped : List ℕ → Used → HistoryRun → List ℕ
stamps_dropped stamps used run = moved stamps run.stamp (run.stamp + run.stamps) (used.stamps - (run.stamp + run.stamps))

-- texture i of n is there, and its grids and stamps lie within those in use, before those of the textures behind it
pub record CanDrop (textures newest stamps : List ℕ) (n : ℕ) (used : Used) (i : ℕ) : Type 0 where
  pub fit : texture_stride * n ≤ length textures
  pub there : i < n
  pub grids_begin : (texture_in textures i).grid ≤ grid_end textures n used.grids i
  pub grids_end : grid_end textures n used.grids i ≤ used.grids
  pub grids_fit_lem : used.grids ≤ length newest
  pub stamps_begin : (texture_in textures i).stamp ≤ stamp_end textures n used.stamps i
  pub stamps_end : stamp_end textures n used.stamps i ≤ used.stamps
  pub stamps_fit : used.stamps ≤ length stamps
  pub behind : StartsMove (less_by (run_at textures n used i).grids) (less_by (run_at textures n used i).stamps) (i + 1) n (record_dropped textures i)
