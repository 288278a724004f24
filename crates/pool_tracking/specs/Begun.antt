-- Helper: A tracking just begun, as the lent slices have it.
use Rattle.std.specs.Prelude.{ℕ, ◌*◌, Bool, cond, Some, None}
use Rattle.grid_shapes.specs.declared.shape.VersionShape.{VersionShape}
use Rattle.grid_shapes.specs.Shapes.{bytes_of}
use Rattle.pool_rules.specs.Model.{grid_count}
use Rattle.pool_rules.specs.HistorySizes.{history_size}
use Rattle.pool_rules.specs.RuleConstants.{grid_stride}
use Rattle.pool_records.specs.Recorded.{Recorded}
use Rattle.pool_records.specs.declared.texture.TextureRecord.{TextureRecord}
use Rattle.pool_tracking.specs.declared.begun.NewTracking.{NewTracking}

-- a history with no writes, or none
abbrev pub fresh_history : Bool → Recorded
fresh_history records = cond records (Some 0) None

-- the numbers of `newest` that the history takes, and its stamps
abbrev pub fresh_grids : VersionShape → Bool → ℕ
fresh_grids shape records = cond records (grid_stride * grid_count shape) 0

abbrev pub fresh_stamps : VersionShape → Bool → ℕ
fresh_stamps shape records = cond records (history_size shape) 0

-- the texture's record: due starts at the creating submission; its grids begin at `grid` and its stamps at `stamp`
abbrev pub new_record : NewTracking → (epoch grid stamp : ℕ) → TextureRecord
new_record new epoch grid stamp = record {
  id = new.id;
  shape = new.shape;
  epoch = epoch;
  history = fresh_history new.records;
  birth = 0;
  rename = new.seq;
  due = new.seq;
  spares = 0;
  bytes = bytes_of new.shape;
  grid = grid;
  stamp = stamp;
}
