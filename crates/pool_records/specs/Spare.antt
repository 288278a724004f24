-- Rule: A spare's record: three numbers.
use Rattle.std.specs.Prelude.{ℕ, List, [], ◌∷◌, get_or}
use Rattle.pool_records.specs.declared.spare.SpareRecord.{SpareRecord}
use Rattle.pool_records.specs.Held.{held_of, held_number}

unfoldable pub read_spare : List ℕ → SpareRecord
read_spare s = record { view = get_or s 0 0; held = held_of (get_or s 1 0); parked = get_or s 2 0 }

unfoldable pub write_spare : SpareRecord → List ℕ
write_spare x = x.view ∷ held_number x.held ∷ x.parked ∷ []
