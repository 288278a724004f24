-- Rule: A retiring version's record: seven numbers.
use Rattle.std.specs.Prelude.{ℕ, List, [], ◌∷◌, get_or}
use Rattle.pool_records.specs.declared.retiring.RetiringRecord.{RetiringRecord}

unfoldable pub read_retiring : List ℕ → RetiringRecord
read_retiring s = record {
  id = get_or s 0 0;
  view = get_or s 1 0;
  seq = get_or s 2 0;
  epoch = get_or s 3 0;
  birth = get_or s 4 0;
  held = get_or s 5 0;
  bytes = get_or s 6 0;
}

unfoldable pub write_retiring : RetiringRecord → List ℕ
write_retiring x = x.id ∷ x.view ∷ x.seq ∷ x.epoch ∷ x.birth ∷ x.held ∷ x.bytes ∷ []
