-- Rule: Text in a column of a page.
use Rattle.std.specs.Prelude.{ℕ, ◌-◌, List, ◌++◌, length, replicate}
use Rattle.base_digits.specs.Characters.{blank}

-- right-aligned in a column of w characters: blanks, then the text. A text that is wider than its column would stand as it is.
unfoldable pub right : ℕ → List ℕ → List ℕ
right w text = replicate (w - length text) blank ++ text
