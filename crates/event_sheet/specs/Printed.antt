-- Helper: The room that the sheet of a list takes at most, and how many bytes of it were printed.
use Rattle.std.specs.Prelude.{ℕ, ◌+◌, ◌*◌, ◌/◌}
use Rattle.pool_records.specs.RecordConstants.{texture_stride}
use Rattle.pool_memory.specs.Calls.{Told, refused_with, answer}
use Rattle.pool_sheet.specs.Records.{line_bytes}

-- where a store of `numbers` is lent for textures: two lines more than there are places
abbrev pub most_sheet_bytes : ℕ → ℕ
most_sheet_bytes numbers = line_bytes * (numbers / texture_stride + 2)

-- those that the call answers, and none where it was refused
abbrev pub bytes_told : Told ℕ → ℕ
bytes_told (refused_with k) = 0
bytes_told (answer n) = n
