-- What it takes for lent memory to form a pool, as facts by name: what a call on a pool may use. Assumes nothing.
use mathlib.Core.Path.{◌≡◌}
use mathlib.Core.Bool.{true}
use Prim.Native.Nat.{◌+◌, ◌*◌, ◌≤◌, ◌<◌, min}
use lib.ListN.{length}
use Rattle.base_blocks.specs.Lists.{total}
use Rattle.pool_rules.specs.Open.{are_places}
use Rattle.pool_rules.specs.Formed.{Formed}
use Rattle.pool_records.specs.declared.texture.TextureRecord.{TextureRecord}
use Rattle.pool_memory.specs.Lent.{Lent, version_places}
use Rattle.pool_memory.specs.Reading.{tracked_records, model_of}
use Rattle.pool_memory.specs.IsPool.{bytes_fit, starts_hold, tilings_fit}
use Rattle.grid_stamps.specs.StampConstants.{page_stamps}
use Rattle.pool_records.specs.RecordConstants.{doomed_stride, retiring_stride, spare_stride, texture_stride}
use Rattle.pool_rules.specs.RuleConstants.{grid_stride, most_grids, most_places}
use Rattle.pool_records.specs.Texture.{record_grids, record_stamps}

pub record Fits (l : Lent) : Type 0 where
  -- the slices are as long as whole places, as many as may be lent
  pub places : are_places (model_of l).places ≡ true
  pub textures : texture_stride * (model_of l).places.textures ≡ length l.textures
  pub retiring : retiring_stride * version_places l ≡ length l.retiring
  pub doomed : doomed_stride * version_places l ≡ length l.doomed
  pub spares : spare_stride * version_places l ≡ length l.spares
  pub stamps : page_stamps * (model_of l).places.pages ≡ length l.stamps
  pub newest : length l.newest ≡ grid_stride * min (most_grids * (model_of l).places.textures) (length l.stamps)
  pub least : 1 ≤ version_places l
  pub most : version_places l ≤ most_places
  pub most_pages_lem : (model_of l).places.pages ≤ most_places
  -- the counts fit their places
  pub tracked : l.pool.tracked ≤ (model_of l).places.textures
  pub head : l.pool.head < version_places l
  pub first : l.pool.first < version_places l
  pub hand : l.pool.popped ≤ 1
  pub versions : l.pool.queued + l.pool.popped + l.pool.kept + l.pool.doomed ≤ version_places l
  pub grids : l.pool.grids ≤ length l.newest
  pub stamps_counted : l.pool.stamps ≤ length l.stamps
  -- the records claim just the spares, grids and stamps that are counted
  pub kept : total (λ (t : TextureRecord). t.spares) (tracked_records l) ≡ l.pool.kept
  pub claimed : total record_grids (tracked_records l) ≡ l.pool.grids
  pub stamps_claimed : total record_stamps (tracked_records l) ≡ l.pool.stamps
  -- they hold where their grids and stamps begin
  pub starts : starts_hold l ≡ true
  -- beside the newest stamp of each grid stands its tiling
  pub tilings : tilings_fit l ≡ true
  -- their bytes are those of their shapes
  pub bytes : bytes_fit l ≡ true
  -- the pressure mark is 0 or 1
  pub mark : l.book.pressed ≤ 1
  -- 01's conditions
  pub formed : Formed (model_of l)
