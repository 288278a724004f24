-- Rule: What the dirty-tile call may say, said a second time: refusal 1 just where the memory forms no pool, and otherwise an answer that the model's
-- condition allows, which crates/pool_rules/specs/DirtyTiles.antt has (01, "The stamp grid": "It refuses with 1 only").
use Rattle.std.specs.Prelude.{ℕ, ◌≡◌, true, false, Option, None}
use Rattle.grid_stamps.specs.declared.grid.Tile.{Tile}
use Rattle.grid_stamps.specs.Grids.{some_tile}
use Rattle.pool_rules.specs.DirtyTiles.{TileAbove}
use Rattle.pool_memory.specs.Lent.{Lent}
use Rattle.pool_memory.specs.Reading.{model_of}
use Rattle.pool_memory.specs.IsPool.{is_pool}
use Rattle.pool_memory.specs.Calls.{refused_with, answer}
use Rattle.pool.specs.Queries.{DirtyTileOn}

pub record DirtyCallPinned (l : Lent) (id slice level held : ℕ) : Type 0 where
  -- a refusal is 1, and only where no pool is formed
  pub number : (n : ℕ) → DirtyTileOn l id slice level held (refused_with n) → n ≡ 1
  pub no_pool : (n : ℕ) → DirtyTileOn l id slice level held (refused_with n) → is_pool l ≡ false
  -- where none is formed it is refused
  pub refused : is_pool l ≡ false → DirtyTileOn l id slice level held (refused_with 1)
  pub pool : (t : Option Tile) → DirtyTileOn l id slice level held (answer t) → is_pool l ≡ true
  -- a tile is named just where it is one of the pool's that was stamped above held
  pub tile : (column row : ℕ) → DirtyTileOn l id slice level held (answer (some_tile column row)) → TileAbove (model_of l) id slice level held column row
  pub tile_may : is_pool l ≡ true → (column row : ℕ) → TileAbove (model_of l) id slice level held column row
      → DirtyTileOn l id slice level held (answer (some_tile column row))
  -- none just where no tile is
  pub clean : DirtyTileOn l id slice level held (answer None) → (column row : ℕ) → TileAbove (model_of l) id slice level held column row → ⊥
  pub clean_may : is_pool l ≡ true → ((column row : ℕ) → TileAbove (model_of l) id slice level held column row → ⊥)
      → DirtyTileOn l id slice level held (answer None)

abbrev pub DirtyCallsPinned : Type 0
DirtyCallsPinned = (l : Lent) (id slice level held : ℕ) → DirtyCallPinned l id slice level held
