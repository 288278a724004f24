-- Rule: The pool of the model that lent memory stands for.
use Rattle.std.specs.Prelude.{ℕ, zero, suc, ◌+◌, ◌*◌, ◌/◌, ◌%◌, List, [], ◌∷◌, eqb, length, drop, get_or}
use Rattle.std.proofs.Math.Option.{Option, none, some}
use Rattle.base_blocks.specs.Lists.{listed}
use Rattle.base_tables.specs.Records.{record_at}
use Rattle.base_tables.specs.Rings.{along}
use Rattle.grid_shapes.specs.declared.shape.VersionShape.{VersionShape}
use Rattle.grid_stamps.specs.Grids.{StampGrid, grid_in, tiling_of}
use Rattle.pool_rules.specs.Model.{WriteHistory, Spare, Retiring, Doomed, VersionState, PoolModel, grid_count}
use Rattle.pool_rules.specs.HistorySizes.{grid_start}
use Rattle.pool_rules.specs.RuleConstants.{grid_stride}
use Rattle.pool_records.specs.Recorded.{Recorded}
use Rattle.std.specs.Prelude.{Some, None}
use Rattle.pool_records.specs.declared.texture.TextureRecord.{TextureRecord}
use Rattle.pool_records.specs.Texture.{textures_in}
use Rattle.pool_records.specs.Spare.{read_spare}
use Rattle.pool_records.specs.Retiring.{read_retiring}
use Rattle.pool_records.specs.Doomed.{read_doomed}
use Rattle.pool_records.specs.Views.{spare_of, retiring_of, doomed_of}
use Rattle.pool_memory.specs.Lent.{Lent, version_places}
use Rattle.grid_stamps.specs.StampConstants.{page_stamps}
use Rattle.pool_records.specs.RecordConstants.{doomed_stride, retiring_stride, spare_stride, texture_stride}

-- the records of the tracked textures
abbrev pub tracked_records : Lent → List TextureRecord
tracked_records l = textures_in l.pool.tracked l.textures

-- ---- histories

-- the k-th grid of a history whose numbers begin at `grid` of `newest` and whose stamps at `stamp`: slice by slice, level by level, one behind the
-- other
unfoldable pub grid_read : Lent → VersionShape → ℕ → ℕ → ℕ → StampGrid
grid_read l s grid stamp k = grid_in (tiling_of s (k % s.levels)) (get_or l.newest (grid + grid_stride * k) 0) (drop (stamp + grid_start s k) l.stamps)

abbrev pub history_read : Lent → VersionShape → ℕ → ℕ → Recorded → Option WriteHistory
history_read l s grid stamp None = none
history_read l s grid stamp (Some n) = some (record { writes = n; grids = listed (grid_read l s grid stamp) 0 (grid_count s) })

-- ---- textures

unfoldable pub spare_read : Lent → ℕ → Spare ℕ
spare_read l k = spare_of (record_at spare_stride read_spare l.spares k)

-- the state of a texture whose spares begin at place `first`; where its grids begin stands in its record
unfoldable pub state_read : Lent → ℕ → TextureRecord → VersionState ℕ
state_read l first t = record {
  id = t.id;
  shape = t.shape;
  epoch = t.epoch;
  history = history_read l t.shape t.grid t.stamp t.history;
  birth = t.birth;
  rename = t.rename;
  due = t.due;
  spares = listed (spare_read l) first t.spares;
}

-- each texture's spares stand behind those of the textures before it
unfoldable pub states_read : Lent → ℕ → List TextureRecord → List (VersionState ℕ)
states_read l first [] = []
states_read l first (t ∷ ts) = state_read l first t ∷ states_read l (first + t.spares) ts

-- ---- the rings

unfoldable pub retiring_read : Lent → ℕ → Retiring ℕ
retiring_read l k = retiring_of (along retiring_stride read_retiring (version_places l) l.pool.head l.retiring k)

-- the ring's front, where a version is in the hand
abbrev pub hand_read : Lent → ℕ → Option (Retiring ℕ)
hand_read l zero = none
hand_read l (suc n) = some (retiring_read l 0)

unfoldable pub doomed_read : Lent → ℕ → Doomed ℕ
doomed_read l k = doomed_of (along doomed_stride read_doomed (version_places l) l.pool.first l.doomed k)

-- ---- the pool

unfoldable pub model_of : Lent → PoolModel ℕ
model_of l = record {
  textures = states_read l 0 (tracked_records l);
  retiring = listed (retiring_read l) l.pool.popped l.pool.queued;
  hand = hand_read l l.pool.popped;
  doomed = listed (doomed_read l) 0 l.pool.doomed;
  since = l.pool.since;
  trackings = l.pool.trackings;
  parked = l.pool.parked;
  dooming = l.pool.dooming;
  places = record { textures = length l.textures / texture_stride; versions = version_places l; pages = length l.stamps / page_stamps };
  budget = record { cap = l.pool.cap; line = l.pool.line };
  pacing = record { arrivals = l.book.arrivals; slot = l.book.slot; pressed = eqb l.book.pressed 1; excess = l.book.excess };
}

-- a level's grid, by its place in `newest` and by where its stamps begin
unfoldable pub grid_on : VersionShape → ℕ → List ℕ → List ℕ → ℕ → ℕ → StampGrid
grid_on s level newest stamps grid stamp = grid_in (tiling_of s level) (get_or newest grid 0) (drop stamp stamps)
