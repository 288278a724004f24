-- Helper: Spares as entries of the destroy queue.
use Rattle.std.specs.Prelude.{ℕ, List}
use Rattle.base_blocks.specs.Lists.{listed}
use Rattle.base_tables.specs.Records.{record_at}
use Rattle.pool_records.specs.declared.doomed.DoomedRecord.{DoomedRecord}
use Rattle.pool_records.specs.Spare.{read_spare}
use Rattle.pool_records.specs.RecordConstants.{spare_stride}

-- the k spares from place `from` on, each with its texture's bytes
unfoldable pub given_records : List ℕ → ℕ → ℕ → ℕ → List DoomedRecord
given_records spares bytes from k = listed (λ (j : ℕ). record { view = (record_at spare_stride read_spare spares j).view; bytes = bytes }) from k
