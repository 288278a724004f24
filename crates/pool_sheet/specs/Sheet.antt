-- Rule: The pool sheet (02, W-202): "lines of exactly 72 characters, each ended by a line feed: a head line, then one line for each texture in ascending
-- id, then a line of totals".
--
--                   id k lv   sp              parked            last
--                    7 0  1    1               16384              11
--                   12 1  3    0                   0              10
--                              1               16384
use Rattle.std.specs.Prelude.{ℕ, ◌-◌, length, replicate}
use mathlib.Core.List.{List, [], ◌∷◌, ◌++◌, map, flat_map}
use Rattle.base_blocks.specs.Lists.{total}
use Rattle.base_digits.specs.Aligned.{right}
use Rattle.base_digits.specs.Characters.{blank, line_feed}
use Rattle.base_digits.specs.Digits.{digits_of}
use Rattle.pool_sheet.specs.declared.fields.SheetFields.{SheetFields}
use Rattle.pool_rules.specs.Model.{VersionState, PoolModel, spare_bytes}

-- ---- a line

-- the characters of a line, its line feed not counted
abbrev pub line_width : ℕ
line_width = 72

-- "Columns: id 20 wide, kind 1, levels 2, spares 4, parked bytes 19, last rename 15"
abbrev pub column_widths : List ℕ
column_widths = 20 ∷ 1 ∷ 2 ∷ 4 ∷ 19 ∷ 15 ∷ []

-- texts in columns of these widths, "right-aligned with one space between"
unfoldable pub in_columns : List ℕ → List (List ℕ) → List ℕ
in_columns [] texts = []
in_columns (w ∷ ws) [] = []
in_columns (w ∷ []) (t ∷ ts) = right w t
in_columns (w ∷ v ∷ ws) (t ∷ ts) = right w t ++ (blank ∷ in_columns (v ∷ ws) ts)

-- "and the rest blank at the end"
unfoldable pub characters : List (List ℕ) → List ℕ
characters texts = let columns = in_columns column_widths texts in columns ++ replicate (line_width - length columns) blank

unfoldable pub line : List (List ℕ) → List ℕ
line texts = characters texts ++ (line_feed ∷ [])

-- ---- what is printed

module _ {W : Type 0} where
  -- of a texture: `parked` is the bytes of all its spares, `last` the submission of its last rename
  abbrev pub state_fields : VersionState W → SheetFields
  state_fields t = record {
    id = t.id;
    kind = t.shape.kind;
    levels = t.shape.levels;
    spares = length t.spares;
    parked = spare_bytes t;
    last = t.rename;
  }

  -- of every texture that the pool tracks; a pool has them in ascending id
  unfoldable pub pool_fields : PoolModel W → List SheetFields
  pool_fields p = map state_fields p.textures

-- "The head line has id, k, lv, sp, parked and last in the same columns, aligned alike"
abbrev pub head_texts : List (List ℕ)
head_texts =
    (105 ∷ 100 ∷ [])
    ∷ (107 ∷ [])
    ∷ (108 ∷ 118 ∷ [])
    ∷ (115 ∷ 112 ∷ [])
    ∷ (112 ∷ 97 ∷ 114 ∷ 107 ∷ 101 ∷ 100 ∷ [])
    ∷ (108 ∷ 97 ∷ 115 ∷ 116 ∷ [])
    ∷ []

unfoldable pub texture_texts : SheetFields → List (List ℕ)
texture_texts f =
    digits_of f.id ∷ digits_of f.kind ∷ digits_of f.levels ∷ digits_of f.spares ∷ digits_of f.parked ∷ digits_of f.last ∷ []

-- "The total line has spares and parked bytes only, under their columns"
unfoldable pub total_texts : ℕ → ℕ → List (List ℕ)
total_texts spares parked = [] ∷ [] ∷ [] ∷ digits_of spares ∷ digits_of parked ∷ [] ∷ []

-- ---- the sheet

abbrev pub all_spares : List SheetFields → ℕ
all_spares fs = total (λ (f : SheetFields). f.spares) fs

abbrev pub all_parked : List SheetFields → ℕ
all_parked fs = total (λ (f : SheetFields). f.parked) fs

-- the texts of its lines
unfoldable pub sheet_texts : List SheetFields → List (List (List ℕ))
sheet_texts fs = head_texts ∷ (map texture_texts fs ++ (total_texts (all_spares fs) (all_parked fs) ∷ []))

unfoldable pub sheet : List SheetFields → List ℕ
sheet fs = flat_map line (sheet_texts fs)
