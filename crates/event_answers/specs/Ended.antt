-- Helper: The rest of a line of output.
use Rattle.std.specs.Prelude.{ℕ, List, [], ◌∷◌, ◌++◌}
use Rattle.base_digits.specs.Characters.{line_feed}
use Rattle.event_text.specs.Fields.{comma}

-- the rest of a line: each field behind a comma, a line feed
unfoldable pub fields_ended : List (List ℕ) → List ℕ
fields_ended [] = line_feed ∷ []
fields_ended (f ∷ fs) = comma ∷ (f ++ fields_ended fs)
