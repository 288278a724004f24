-- Rule: What 02 says of sheets, as one claim about every pool that memory stands for. Law `sheet_claims` of proofs/Claims.antt shows it.
use Rattle.std.specs.Prelude.{ℕ, ◌^◌, ◌≤◌, ◌<◌, ◌≡◌, true, List, [], ◌∷◌, ◌++◌, map, length, get_or}
use Rattle.base_blocks.specs.All.{All}
use Rattle.base_blocks.specs.Lists.{ascending}
use Rattle.base_digits.specs.Characters.{line_feed}
use Rattle.pool_memory.specs.Lent.{Lent}
use Rattle.pool_memory.specs.Reading.{model_of}
use Rattle.pool_memory.specs.IsPool.{is_pool}
use Rattle.pool_sheet.specs.declared.fields.SheetFields.{SheetFields}
use Rattle.pool_sheet.specs.Sheet.{column_widths, line, pool_fields, sheet_texts}
use Rattle.pool_sheet.specs.PrintSheet.{sheet_of}

-- "lines of exactly 72 characters, each ended by a line feed", which stands nowhere else in it
pub record IsLine (text : List ℕ) : Type 0 where
  pub front : List ℕ
  pub ended : text ≡ front ++ (line_feed ∷ [])
  pub long : length front ≡ 72
  pub unbroken : All (λ (b : ℕ). b ≡ line_feed → ⊥) front

-- no text is wider than its column
abbrev pub Within : List ℕ → List (List ℕ) → Type 0
Within [] texts = Unit {0}
Within (w ∷ ws) [] = Unit {0}
Within (w ∷ ws) (t ∷ ts) = (length t ≤ w) × Within ws ts

-- lent numbers have 64 bits
abbrev pub Words : List ℕ → Type 0
Words s = (i : ℕ) → get_or s i 0 < 2 ^ 64

-- what is printed of the pool that memory stands for
abbrev pub fields_on : Lent → List SheetFields
fields_on l = pool_fields (model_of l)

pub record SheetClaims : Type 0 where
  -- "one line for each texture in ascending id"
  pub ascend : (l : Lent) → is_pool l ≡ true → ascending (λ (f : SheetFields). f.id) (fields_on l) ≡ true
  pub lines_are : (l : Lent) → is_pool l ≡ true → All IsLine (map line (sheet_texts (fields_on l)))
  -- so nothing that is printed is cut off or pushes what follows it
  pub no_wider : (l : Lent) → is_pool l ≡ true → All (Within column_widths) (sheet_texts (fields_on l))
  -- "A sheet determines the printed fields"
  pub determines : (l m : Lent) → is_pool l ≡ true → is_pool m ≡ true → Words l.textures → Words m.textures → sheet_of l ≡ sheet_of m → fields_on l ≡ fields_on m
  -- "and equal fields give equal sheets"
  pub determined : (l m : Lent) → fields_on l ≡ fields_on m → sheet_of l ≡ sheet_of m
