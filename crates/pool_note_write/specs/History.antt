-- Helper: What a texture's record says of its history, read off the slices at the record's place.
use Rattle.std.specs.Prelude.{ℕ, ◌+◌, ◌*◌, ◌≤◌, ◌≡◌, true, cond, List, length, take, drop}
use Rattle.grid_shapes.specs.Shapes.{is_shape}
use Rattle.grid_rects.specs.declared.rect.TexelRect.{TexelRect}
use Rattle.grid_stamps.specs.Grids.{StampGrid, tiling_of, stamp_count, stamped_by}
use Rattle.pool_rules.specs.Model.{grid_count}
use Rattle.pool_rules.specs.Histories.{grid_place}
use Rattle.pool_rules.specs.HistorySizes.{grid_start, history_size}
use Rattle.pool_rules.specs.RuleConstants.{grid_stride}
use Rattle.pool_records.specs.Recorded.{Recorded}
use Rattle.std.specs.Prelude.{None}
use Rattle.pool_records.specs.declared.texture.TextureRecord.{TextureRecord}
use Rattle.pool_records.specs.Texture.{texture_in}
use Rattle.pool_records.specs.Find.{has_id}
use Rattle.pool_records.specs.Tilings.{TilingsAt}
use Rattle.pool_memory.specs.Reading.{grid_on}
use Rattle.pool_history.specs.Remade.{remade_grids}
use Rattle.pool_records.specs.RecordConstants.{texture_stride}

-- what it says of its history if it is there and has the id
unfoldable pub recorded_at : List ℕ → ℕ → ℕ → ℕ → Recorded
recorded_at textures tracked i id = cond (has_id textures tracked i id) (texture_in textures i).history None

-- a record with another history
abbrev pub recorded_as : Recorded → TextureRecord → TextureRecord
recorded_as h t = record t { history = h }

-- record i is there, its shape passes 2, the numbers of `newest` and the stamps of a history of that shape lie within the lent ones, and beside each
-- grid's newest stamp stands its tiling
pub record HistoryAt (textures newest stamps : List ℕ) (i : ℕ) : Type 0 where
  pub there : texture_stride * i + texture_stride ≤ length textures
  pub shape : is_shape (texture_in textures i).shape ≡ true
  pub grids_in : (texture_in textures i).grid + grid_stride * grid_count (texture_in textures i).shape ≤ length newest
  pub tilings : TilingsAt newest (texture_in textures i).grid (texture_in textures i).shape
  pub stamps_in_lem : (texture_in textures i).stamp + history_size (texture_in textures i).shape ≤ length stamps

-- where a subresource's grid stands in `newest`, and where its stamps begin
unfoldable pub newest_place : List ℕ → ℕ → ℕ → ℕ → ℕ
newest_place textures i slice level = (texture_in textures i).grid + grid_stride * grid_place (texture_in textures i).shape slice level

unfoldable pub stamps_place : List ℕ → ℕ → ℕ → ℕ → ℕ
stamps_place textures i slice level =
    (texture_in textures i).stamp + grid_start (texture_in textures i).shape (grid_place (texture_in textures i).shape slice level)

-- its stamps
unfoldable pub stamps_on : List ℕ → ℕ → ℕ → ℕ → List ℕ → List ℕ
stamps_on textures i slice level stamps = take (stamp_count (tiling_of (texture_in textures i).shape level)) (drop (stamps_place textures i slice level) stamps)

-- its grid stamped
unfoldable pub stamped_on : List ℕ → ℕ → ℕ → ℕ → TexelRect → ℕ → List ℕ → List ℕ → StampGrid
stamped_on textures i slice level r n newest stamps =
    stamped_by (tiling_of (texture_in textures i).shape level) r n
    (grid_on (texture_in textures i).shape level newest stamps (newest_place textures i slice level) (stamps_place textures i slice level))

-- all of its texture's grids made again by a regeneration
unfoldable pub remade_at : List ℕ → ℕ → ℕ → List ℕ → List ℕ → List StampGrid
remade_at textures i n newest stamps =
    remade_grids (texture_in textures i).shape n newest stamps (texture_in textures i).grid (texture_in textures i).stamp
    (grid_count (texture_in textures i).shape)
