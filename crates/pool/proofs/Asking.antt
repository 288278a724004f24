-- The queries, case by case. Assumes nothing.
use mathlib.Core.Path.{◌≡◌, refl, sym, ap, ◌∙◌}
use mathlib.Core.Bool.{Bool, true, false, cond}
use Prim.Native.Nat.{ℕ}
use Rattle.std.specs.Prelude.{Option}
use Rattle.grid_stamps.specs.declared.grid.Tile.{Tile}
use Rattle.pool_rules.specs.NoteWrite.{records_writes, IsDirtyTileOf}
use Rattle.pool_memory.specs.Lent.{Lent}
use Rattle.pool_memory.specs.Reading.{model_of}
use Rattle.pool_memory.specs.IsPool.{is_pool}
use Rattle.pool_memory.specs.Calls.{refused_with, answer}
use Rattle.pool.specs.Queries.{records_writes_on, parked_bytes_on, pending_destroy_bytes_on, DirtyTileOn}

module _ (l : Lent) where
  module _ (e : is_pool l ≡ false) where
    pub no_records : (id : ℕ) → refused_with 1 ≡ records_writes_on l id
    unfolding records_writes_on
    no_records id = sym (ap (λ (b : Bool). cond b (answer (records_writes (model_of l) id)) (refused_with 1)) e)

    pub no_parked : refused_with 1 ≡ parked_bytes_on l
    unfolding parked_bytes_on
    no_parked = sym (ap (λ (b : Bool). cond b (answer (model_of l).parked) (refused_with 1)) e)

    pub no_pending : refused_with 1 ≡ pending_destroy_bytes_on l
    unfolding pending_destroy_bytes_on
    no_pending = sym (ap (λ (b : Bool). cond b (answer (model_of l).dooming) (refused_with 1)) e)

    pub no_tile : (id slice level held : ℕ) → DirtyTileOn l id slice level held (refused_with 1)
    unfolding DirtyTileOn
    no_tile id slice level held = rw e refl

  module _ (e : is_pool l ≡ true) where
    pub records_said : (id : ℕ) (b : Bool) → b ≡ records_writes (model_of l) id → answer b ≡ records_writes_on l id
    unfolding records_writes_on
    records_said id b q = ap answer q ∙ sym (ap (λ (b : Bool). cond b (answer (records_writes (model_of l) id)) (refused_with 1)) e)

    pub parked_said : answer l.pool.parked ≡ parked_bytes_on l
    unfolding parked_bytes_on model_of
    parked_said = sym (ap (λ (b : Bool). cond b (answer l.pool.parked) (refused_with 1)) e)

    pub pending_said : answer l.pool.dooming ≡ pending_destroy_bytes_on l
    unfolding pending_destroy_bytes_on model_of
    pending_said = sym (ap (λ (b : Bool). cond b (answer l.pool.dooming) (refused_with 1)) e)

    pub tile_said : (id slice level held : ℕ) (t : Option Tile) → IsDirtyTileOf (model_of l) id slice level held t → DirtyTileOn l id slice level held (answer t)
    unfolding DirtyTileOn
    tile_said id slice level held t q = rw e q
