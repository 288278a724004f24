-- Helper: What `retire` notes, on the records of the lent slices.
use Rattle.std.specs.Prelude.{ℕ, ◌+◌, ◌-◌, Bool, true, false, cond, List, leb, ltb, eqb, Some, None}
use Rattle.base_tables.specs.Rings.{along}
use Rattle.pool_rules.specs.Model.{limit}
use Rattle.pool_records.specs.Recorded.{Recorded}
use Rattle.pool_records.specs.declared.texture.TextureRecord.{TextureRecord}
use Rattle.pool_records.specs.declared.retiring.RetiringRecord.{RetiringRecord}
use Rattle.pool_records.specs.Retiring.{read_retiring}
use Rattle.pool_memory.specs.declared.pool.Pool.{Pool}
use Rattle.pool_retire.specs.Counts.{ring_count}
use Rattle.pool_records.specs.RecordConstants.{retiring_stride}

-- the submission of the last still queued, 0 if none is
unfoldable pub last_queued : Pool → List ℕ → ℕ → ℕ
last_queued p retiring places = cond (eqb p.queued 0) 0 (along retiring_stride read_retiring places p.head retiring (ring_count p - 1)).seq

-- the number of the first refusal, or 0
unfoldable pub retire_refusal : Pool → List ℕ → ℕ → ℕ → ℕ
retire_refusal p retiring places seq =
    cond (ltb limit seq) 3
    (cond (leb places (ring_count p + p.kept + p.doomed)) 7
    (cond (ltb seq (last_queued p retiring places)) 8 0))

abbrev pub writes_counted : Recorded → ℕ
writes_counted None = 0
writes_counted (Some n) = n

-- of a tracked texture by its record; of an untracked one the tracking and all else are 0
unfoldable pub retired_record : Bool → TextureRecord → ℕ → ℕ → ℕ → RetiringRecord
retired_record false t id view seq = record { id = id; view = view; seq = seq; epoch = 0; birth = 0; held = 0; bytes = 0 }
retired_record true t id view seq = record {
  id = id;
  view = view;
  seq = seq;
  epoch = t.epoch;
  birth = t.birth;
  held = writes_counted t.history;
  bytes = t.bytes;
}

-- its live version became live in this submission
abbrev pub born_at : ℕ → TextureRecord → TextureRecord
born_at seq t = record t { birth = seq }
