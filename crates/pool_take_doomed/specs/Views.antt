-- Helper: The views of a ring of records, as numbers.
use Rattle.std.specs.Prelude.{ℕ, ◌+◌, ◌*◌, List, get_or}
use Rattle.base_blocks.specs.Lists.{listed}
use Rattle.base_tables.specs.Rings.{place_of}

-- number k of record j: w numbers a record, cap places, the first record at place head
abbrev pub column_number : ℕ → ℕ → ℕ → ℕ → List ℕ → ℕ → ℕ
column_number w k cap head s j = get_or s (w * place_of cap head j + k) 0

-- number k of the n records from the i-th on
unfoldable pub column : ℕ → ℕ → ℕ → ℕ → List ℕ → ℕ → ℕ → List ℕ
column w k cap head s i n = listed (column_number w k cap head s) i n
