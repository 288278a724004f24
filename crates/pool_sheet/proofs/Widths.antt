-- Laws of what fits its column: a texture's numbers as texts, its line and the line of totals. Assumes nothing.
use mathlib.Core.Path.{◌≡◌, ap}
use mathlib.Core.List.{List, [], ◌∷◌, ◌++◌}
use Prim.Native.Nat.{ℕ, ◌*◌, ◌-◌, ◌^◌, ◌≤◌, ◌<◌}
use native.Mathlib.Omega.{arith}
use lib.ListN.{length, take, drop, replicate, length-drop}
use lib.Seq.{take_all}
use Rattle.base_tables.specs.Records.{record_at}
use Rattle.base_digits.specs.Characters.{blank, line_feed}
use Rattle.base_digits.specs.Digits.{digits_of}
use Rattle.base_digits.proofs.Aligned.{count_most}
use Rattle.base_digits.proofs.Printing.{digits_room}
use Rattle.pool_records.specs.RecordConstants.{texture_stride}
use Rattle.pool_records.specs.Texture.{read_texture, texture_in}
use Rattle.pool_sheet.specs.declared.fields.SheetFields.{SheetFields}
use Rattle.pool_sheet.specs.Sheet.{texture_texts, total_texts, line}
use Rattle.pool_sheet.specs.Records.{line_bytes, FieldsFit, column}
use Rattle.pool_sheet.proofs.Columns.{line_columns, line_length, totals_columns, ending}

-- a number that has at most four digits, or nineteen
pub four_wide : (n : ℕ) → n < 10 ^ 4 → length (digits_of n) ≤ 4
four_wide n h = count_most 3 n (omega arith) h

pub nineteen_wide : (n : ℕ) → n < 10 ^ 19 → length (digits_of n) ≤ 19
nineteen_wide n h = count_most 18 n (omega arith) h

-- ---- a texture

module _ (f : SheetFields) (fit : FieldsFit f) where
  pub kind_wide : length (digits_of f.kind) ≤ 1
  kind_wide = count_most 0 f.kind (omega arith) fit.kind

  pub levels_wide : length (digits_of f.levels) ≤ 2
  levels_wide = count_most 1 f.levels (omega arith) fit.levels

  pub spares_wide : length (digits_of f.spares) ≤ 4
  spares_wide = four_wide f.spares fit.spares

  pub parked_wide : length (digits_of f.parked) ≤ 19
  parked_wide = nineteen_wide f.parked fit.parked

  pub last_wide : length (digits_of f.last) ≤ 15
  last_wide = count_most 14 f.last (omega arith) fit.last

  pub fields_columns : column 20 (digits_of f.id)
      ++ (column 1 (digits_of f.kind)
      ++ (column 2 (digits_of f.levels)
      ++ (column 4 (digits_of f.spares)
      ++ (column 19 (digits_of f.parked)
      ++ (column 15 (digits_of f.last) ++ ending)))))
      ≡ line (texture_texts f)
  unfolding texture_texts
  fields_columns =
      line_columns (digits_of f.id) (digits_of f.kind) (digits_of f.levels) (digits_of f.spares) (digits_of f.parked) (digits_of f.last)
      (digits_room f.id) kind_wide levels_wide spares_wide parked_wide last_wide

  pub fields_length : length (line (texture_texts f)) ≡ line_bytes
  unfolding texture_texts
  fields_length =
      line_length (digits_of f.id) (digits_of f.kind) (digits_of f.levels) (digits_of f.spares) (digits_of f.parked) (digits_of f.last)
      (digits_room f.id) kind_wide levels_wide spares_wide parked_wide last_wide

-- ---- the totals

module _ (spares parked : ℕ) (few : spares < 10 ^ 4) (fits : parked < 10 ^ 19) where
  pub totals_made : replicate 26 blank ++ (column 4 (digits_of spares) ++ (column 19 (digits_of parked) ++ (replicate 21 blank ++ (line_feed ∷ []))))
      ≡ line (total_texts spares parked)
  unfolding total_texts
  totals_made = totals_columns (digits_of spares) (digits_of parked) (four_wide spares few) (nineteen_wide parked fits)

  pub totals_length : length (line (total_texts spares parked)) ≡ line_bytes
  unfolding total_texts
  totals_length =
      line_length [] [] [] (digits_of spares) (digits_of parked) [] (omega arith) (omega arith) (omega arith) (four_wide spares few) (nineteen_wide parked fits) (omega arith)

-- ---- a record

-- the numbers from a record's first on
pub texture_from : (s : List ℕ) (i : ℕ) → read_texture (take (length s - texture_stride * i) (drop (texture_stride * i) s)) ≡ texture_in s i
unfolding record_at
texture_from s i = ap read_texture (take_all (length s - texture_stride * i) (drop (texture_stride * i) s) (omega (arith, length-drop (texture_stride * i) s)))
