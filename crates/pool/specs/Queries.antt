-- Rule: The queries, which alter nothing: stores that form no pool are refused with 1; nothing else is refused.
use Rattle.std.specs.Prelude.{ℕ, ◌≡◌, Bool, cond, Option, Result, Ok, Err}
use Rattle.grid_shapes.specs.declared.refusal.Refusal.{Refusal}
use Rattle.grid_shapes.specs.Outcomes.{number_of}
use Rattle.grid_stamps.specs.declared.grid.Tile.{Tile}
use Rattle.pool_rules.specs.NoteWrite.{records_writes, IsDirtyTileOf}
use Rattle.pool_memory.specs.Lent.{Lent}
use Rattle.pool_memory.specs.Reading.{model_of}
use Rattle.pool_memory.specs.IsPool.{is_pool}
use Rattle.pool_memory.specs.Calls.{Told, refused_with, answer}

-- ---- 01's number and value for each case of an answer

abbrev pub query_told : {A : Type 0} → Result A Refusal → Told A
query_told (Ok a) = answer a
query_told (Err e) = refused_with (number_of e)

abbrev pub records_told : Result Bool Refusal → Told Bool
records_told r = query_told r

abbrev pub bytes_told : Result ℕ Refusal → Told ℕ
bytes_told r = query_told r

abbrev pub tile_told : Result (Option Tile) Refusal → Told (Option Tile)
tile_told r = query_told r

-- ---- the queries

-- whether the texture keeps a history
unfoldable pub records_writes_on : Lent → ℕ → Told Bool
records_writes_on l id = cond (is_pool l) (answer (records_writes (model_of l) id)) (refused_with 1)

-- bytes of the spares
unfoldable pub parked_bytes_on : Lent → Told ℕ
parked_bytes_on l = cond (is_pool l) (answer (model_of l).parked) (refused_with 1)

-- bytes of the destroy queue
unfoldable pub pending_destroy_bytes_on : Lent → Told ℕ
pending_destroy_bytes_on l = cond (is_pool l) (answer (model_of l).dooming) (refused_with 1)

-- the one answer that 01 leaves open: some tile stamped above `held`, none only where none is
abbrev pub IsTile : Lent → ℕ → ℕ → ℕ → ℕ → Told (Option Tile) → Type 0
IsTile l id slice level held (refused_with n) = ⊥
IsTile l id slice level held (answer t) = IsDirtyTileOf (model_of l) id slice level held t

unfoldable pub DirtyTileOn : Lent → ℕ → ℕ → ℕ → ℕ → Told (Option Tile) → Type 0
DirtyTileOn l id slice level held r = cond (is_pool l) (IsTile l id slice level held r) (r ≡ refused_with 1)
