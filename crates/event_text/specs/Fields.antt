-- Rule: The fields of a line: its parts between commas (01, "Upload rectangle, event program").
use Rattle.std.specs.Prelude.{ℕ, ◌+◌, Bool, true, false, cond, ◌&&◌, List, [], ◌∷◌, eqb, length, drop}
use Rattle.base_digits.specs.Characters.{line_feed}

-- the byte of ","
abbrev pub comma : ℕ
comma = 44

-- the field "-", which stands for no number
abbrev pub dash : List ℕ
dash = 45 ∷ []

-- b put in front of the first of some fields
unfoldable pub in_first : ℕ → List (List ℕ) → List (List ℕ)
in_first b [] = (b ∷ []) ∷ []
in_first b (f ∷ fs) = (b ∷ f) ∷ fs

-- the parts between commas: one where there is no comma, and an empty last one after a comma that ends the line
unfoldable pub fields_of : List ℕ → List (List ℕ)
unfolding in_first
fields_of [] = [] ∷ []
fields_of (b ∷ bs) = cond (eqb b comma) ([] ∷ fields_of bs) (in_first b (fields_of bs))

-- the bytes before the first comma, or all of them
unfoldable pub first_field : List ℕ → List ℕ
first_field [] = []
first_field (b ∷ bs) = cond (eqb b comma) [] (b ∷ first_field bs)

-- the bytes before the first line feed, or all of them
unfoldable pub first_line : List ℕ → List ℕ
first_line [] = []
first_line (b ∷ bs) = cond (eqb b line_feed) [] (b ∷ first_line bs)

-- where the field that starts at `at` ends
unfoldable pub field_end : List ℕ → ℕ → ℕ
field_end line at = at + length (first_field (drop at line))

-- the fields after one that ended: none at the end of the line, otherwise those after its comma
unfoldable pub fields_after : List ℕ → List (List ℕ)
fields_after [] = []
fields_after (b ∷ bs) = fields_of bs

-- the same bytes
unfoldable pub same : List ℕ → List ℕ → Bool
same [] [] = true
same [] (y ∷ ys) = false
same (x ∷ xs) [] = false
same (x ∷ xs) (y ∷ ys) = eqb x y && same xs ys
