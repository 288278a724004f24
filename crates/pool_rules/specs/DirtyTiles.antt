-- Rule: What the dirty-tile query may answer, said a second time: a tile just where it is one of a subresource that is there and was stamped above
-- held, none just where there is no such tile (01, "The stamp grid"). So an edit of the query's condition is seen.
use Rattle.std.specs.Prelude.{ℕ, ◌<◌, ◌≤◌, ◌≡◌, None}
use Rattle.std.proofs.Math.Option.{none, some}
use Rattle.grid_shapes.specs.Shapes.{slices_of}
use Rattle.grid_stamps.specs.Grids.{columns_of, rows_of, stamp_of, tiling_of, some_tile}
use Rattle.pool_rules.specs.Model.{WriteHistory, VersionState, PoolModel, find}
use Rattle.pool_rules.specs.Histories.{grid_at}
use Rattle.pool_rules.specs.NoteWrite.{IsDirtyTileOf}

-- the texture is tracked and keeps a history, slice and level are of its shape, and the tile is one of the level's that was stamped above held
pub record TileAbove {W : Type 0} (p : PoolModel W) (id slice level held column row : ℕ) : Type 0 where
  pub texture : VersionState W
  pub history : WriteHistory
  pub tracked : find id p.textures ≡ some texture
  pub recorded : texture.history ≡ some history
  pub in_slices : slice < slices_of texture.shape
  pub in_levels : level < texture.shape.levels
  pub in_columns_lem : column < columns_of (tiling_of texture.shape level)
  pub in_rows : row < rows_of (tiling_of texture.shape level)
  pub above : held < stamp_of (columns_of (tiling_of texture.shape level)) (grid_at texture.shape history slice level).stamps column row

-- of one question
pub record DirtyTilePinned {W : Type 0} (p : PoolModel W) (id slice level held : ℕ) : Type 0 where
  -- a tile is answered just where it is such a tile
  pub answered : (column row : ℕ) → IsDirtyTileOf p id slice level held (some_tile column row) → TileAbove p id slice level held column row
  pub answerable : (column row : ℕ) → TileAbove p id slice level held column row → IsDirtyTileOf p id slice level held (some_tile column row)
  -- none is answered just where no tile is one
  pub clean : IsDirtyTileOf p id slice level held None → (column row : ℕ) → TileAbove p id slice level held column row → ⊥
  pub none_above : ((column row : ℕ) → TileAbove p id slice level held column row → ⊥) → IsDirtyTileOf p id slice level held None
  -- an absent texture, history or subresource is answered with none, and with nothing else
  pub untracked : find id p.textures ≡ none → IsDirtyTileOf p id slice level held None
  pub untracked_only : find id p.textures ≡ none → (column row : ℕ) → IsDirtyTileOf p id slice level held (some_tile column row) → ⊥
  pub unrecorded : (t : VersionState W) → find id p.textures ≡ some t → t.history ≡ none → IsDirtyTileOf p id slice level held None
  pub unrecorded_only : (t : VersionState W) → find id p.textures ≡ some t → t.history ≡ none
      → (column row : ℕ) → IsDirtyTileOf p id slice level held (some_tile column row) → ⊥
  pub past_slices : (t : VersionState W) → find id p.textures ≡ some t → slices_of t.shape ≤ slice → IsDirtyTileOf p id slice level held None
  pub past_slices_only : (t : VersionState W) → find id p.textures ≡ some t → slices_of t.shape ≤ slice
      → (column row : ℕ) → IsDirtyTileOf p id slice level held (some_tile column row) → ⊥
  pub past_levels : (t : VersionState W) → find id p.textures ≡ some t → t.shape.levels ≤ level → IsDirtyTileOf p id slice level held None
  pub past_levels_only : (t : VersionState W) → find id p.textures ≡ some t → t.shape.levels ≤ level
      → (column row : ℕ) → IsDirtyTileOf p id slice level held (some_tile column row) → ⊥

abbrev pub DirtyTilesPinned : Type 0 → Type 0
DirtyTilesPinned W = (p : PoolModel W) (id slice level held : ℕ) → DirtyTilePinned p id slice level held
