-- Rule: The record of a version to be destroyed: two numbers.
use Rattle.std.specs.Prelude.{ℕ, List, [], ◌∷◌, get_or}
use Rattle.pool_records.specs.declared.doomed.DoomedRecord.{DoomedRecord}

unfoldable pub read_doomed : List ℕ → DoomedRecord
read_doomed s = record { view = get_or s 0 0; bytes = get_or s 1 0 }

unfoldable pub write_doomed : DoomedRecord → List ℕ
write_doomed x = x.view ∷ x.bytes ∷ []
