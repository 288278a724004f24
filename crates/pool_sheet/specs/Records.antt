-- Helper: The sheet by the records that stand in the lent textures, and what of them fits its columns.
use Rattle.std.specs.Prelude.{ℕ, ◌*◌, ◌^◌, ◌<◌}
use mathlib.Core.List.{List, [], ◌∷◌, ◌++◌}
use Rattle.base_digits.specs.Aligned.{right}
use Rattle.base_digits.specs.Characters.{blank}
use Rattle.pool_records.specs.declared.texture.TextureRecord.{TextureRecord}
use Rattle.pool_records.specs.Texture.{texture_in}
use Rattle.pool_sheet.specs.declared.fields.SheetFields.{SheetFields}
use Rattle.pool_sheet.specs.Sheet.{texture_texts, line}

-- the bytes of a line: its characters and a line feed
abbrev pub line_bytes : ℕ
line_bytes = 73

-- what is printed of a texture, by its record
abbrev pub record_fields : TextureRecord → SheetFields
record_fields t = record {
  id = t.id;
  kind = t.shape.kind;
  levels = t.shape.levels;
  spares = t.spares;
  parked = t.bytes * t.spares;
  last = t.rename;
}

unfoldable pub record_line : TextureRecord → List ℕ
record_line t = line (texture_texts (record_fields t))

-- its numbers are no wider than their columns; an id never is
pub record FieldsFit (f : SheetFields) : Type 0 where
  pub kind : f.kind < 10 ^ 1
  pub levels : f.levels < 10 ^ 2
  pub spares : f.spares < 10 ^ 4
  pub parked : f.parked < 10 ^ 19
  pub last : f.last < 10 ^ 15

-- those of the first n records
abbrev pub RecordsFit : List ℕ → ℕ → Type 0
RecordsFit textures n = (i : ℕ) → i < n → FieldsFit (record_fields (texture_in textures i))

-- a column and the blank behind it
unfoldable pub column : ℕ → List ℕ → List ℕ
column w text = right w text ++ (blank ∷ [])
