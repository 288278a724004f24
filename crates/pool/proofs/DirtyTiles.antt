-- What the dirty-tile call may say: refusal 1 just where no pool is formed, and otherwise what the model's condition allows. Assumes nothing.
use Prim.Native.Nat.{ℕ}
use mathlib.Core.Path.{◌≡◌, refl}
use mathlib.Core.Bool.{Bool, true, false, cond}
use Rattle.std.specs.Prelude.{Option, None}
use Rattle.grid_stamps.specs.declared.grid.Tile.{Tile}
use Rattle.grid_stamps.specs.Grids.{some_tile}
use Rattle.pool_rules.specs.NoteWrite.{IsDirtyTileOf}
use Rattle.pool_rules.proofs.DirtyTiles.{tile_answered, tile_answerable, tile_clean, tile_none}
use Rattle.pool_memory.specs.Lent.{Lent}
use Rattle.pool_memory.specs.Reading.{model_of}
use Rattle.pool_memory.specs.IsPool.{is_pool}
use Rattle.pool_memory.specs.Calls.{Told, refused_with, answer}
use Rattle.pool.specs.Queries.{IsTile, DirtyTileOn}
use Rattle.pool.specs.DirtyTiles.{DirtyCallsPinned}
use Rattle.pool.proofs.Asking.{no_tile, tile_said}

module _ (l : Lent) (id slice level held : ℕ) where
  module _ (n : ℕ) where
    number_by : (b : Bool) → cond b (IsTile l id slice level held (refused_with n)) (◌≡◌ {A = Told (Option Tile)} (refused_with n) (refused_with 1)) → n ≡ 1
    number_by true q = absurd q
    number_by false q = cc

    no_pool_by : (b : Bool) → cond b (IsTile l id slice level held (refused_with n)) (◌≡◌ {A = Told (Option Tile)} (refused_with n) (refused_with 1)) → b ≡ false
    no_pool_by true q = absurd q
    no_pool_by false q = refl

    refused_with_1 : DirtyTileOn l id slice level held (refused_with n) → n ≡ 1
    unfolding DirtyTileOn
    refused_with_1 q = number_by (is_pool l) q

    refused_no_pool : DirtyTileOn l id slice level held (refused_with n) → is_pool l ≡ false
    unfolding DirtyTileOn
    refused_no_pool q = no_pool_by (is_pool l) q

  module _ (t : Option Tile) where
    pool_by : (b : Bool) → cond b (IsTile l id slice level held (answer t)) (answer t ≡ refused_with 1) → b ≡ true
    pool_by true q = refl
    pool_by false q = cc

    allowed_by : (b : Bool) → cond b (IsTile l id slice level held (answer t)) (answer t ≡ refused_with 1) → IsDirtyTileOf (model_of l) id slice level held t
    allowed_by true q = q
    allowed_by false q = cc

    answered_pool : DirtyTileOn l id slice level held (answer t) → is_pool l ≡ true
    unfolding DirtyTileOn
    answered_pool q = pool_by (is_pool l) q

    answered_allowed : DirtyTileOn l id slice level held (answer t) → IsDirtyTileOf (model_of l) id slice level held t
    unfolding DirtyTileOn
    answered_allowed q = allowed_by (is_pool l) q

-- the call's condition is what 01 says
pub dirty_calls_pinned : DirtyCallsPinned
dirty_calls_pinned l id slice level held = record {
  number = refused_with_1 l id slice level held;
  no_pool = refused_no_pool l id slice level held;
  refused = λ e. no_tile l e id slice level held;
  pool = answered_pool l id slice level held;
  tile = λ column row q. tile_answered (model_of l) id slice level held column row (answered_allowed l id slice level held (some_tile column row) q);
  tile_may = λ e column row a. tile_said l e id slice level held (some_tile column row) (tile_answerable (model_of l) id slice level held column row a);
  clean = λ q. tile_clean (model_of l) id slice level held (answered_allowed l id slice level held None q);
  clean_may = λ e never. tile_said l e id slice level held None (tile_none (model_of l) id slice level held never);
}
