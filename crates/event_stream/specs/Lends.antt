-- Rule: What a program lends. 01: "The event program lends 8 textures, 64 versions, 6 pages, answers of 90 entries".
use Rattle.std.specs.Prelude.{ℕ, ◌*◌, min, ◌≡◌, List, length}
use Rattle.grid_stamps.specs.StampConstants.{page_stamps}
use Rattle.pool_rules.specs.RuleConstants.{grid_stride, most_grids}
use Rattle.pool_memory.specs.MemoryConstants.{copy_stride}
use Rattle.pool_records.specs.RecordConstants.{doomed_stride, retiring_stride, spare_stride, texture_stride}

-- places for this many textures and versions, each store with its numbers a place; pages of stamps, and numbers for as many grids as can be used; and
-- answer buffers of this many entries
pub record Lends (places versions pages entries : ℕ) (textures retiring doomed spares newest stamps copies views : List ℕ) : Type 0 where
  pub textures_are : length textures ≡ texture_stride * places
  pub retiring_are : length retiring ≡ retiring_stride * versions
  pub doomed_are : length doomed ≡ doomed_stride * versions
  pub spares_are : length spares ≡ spare_stride * versions
  pub newest_are : length newest ≡ grid_stride * min (most_grids * places) (page_stamps * pages)
  pub stamps_are : length stamps ≡ page_stamps * pages
  pub copies_are : length copies ≡ copy_stride * entries
  pub views_are : length views ≡ entries
