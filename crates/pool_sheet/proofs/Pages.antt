-- Laws of a page: a sheet is its head line, the textures' lines and the line of totals, 73 bytes each. Assumes nothing.
use mathlib.Core.Path.{◌≡◌, refl, ap, ◌∙◌}
use mathlib.Core.List.{List, [], ◌∷◌, ◌++◌, append-nil, map, flat_map}
use Prim.Native.Nat.{ℕ, ◌+◌, ◌*◌, ◌^◌, ◌<◌}
use native.Mathlib.Omega.{arith}
use lib.ListN.{length, length-append}
use Rattle.base_blocks.specs.All.{All, nil, cons}
use Rattle.pool_memory.proofs.Parts.{flat_append}
use Rattle.pool_sheet.specs.declared.fields.SheetFields.{SheetFields}
use Rattle.pool_sheet.specs.Sheet.{line, head_texts, texture_texts, total_texts, all_spares, all_parked, sheet_texts, sheet}
use Rattle.pool_sheet.specs.Records.{line_bytes, FieldsFit}
use Rattle.pool_sheet.proofs.Columns.{head_line}
use Rattle.pool_sheet.proofs.Widths.{fields_length, totals_length}

-- the lines of the textures
abbrev pub texture_lines : List SheetFields → List ℕ
texture_lines fs = flat_map line (map texture_texts fs)

pub sheet_parts : (fs : List SheetFields) → sheet fs ≡ line head_texts ++ (texture_lines fs ++ line (total_texts (all_spares fs) (all_parked fs)))
unfolding sheet sheet_texts flat_map
sheet_parts fs =
    let last : List ℕ = line (total_texts (all_spares fs) (all_parked fs)) in
    ap (λ (l : List ℕ). line head_texts ++ l)
    (flat_append line (map texture_texts fs) (total_texts (all_spares fs) (all_parked fs) ∷ []) ∙ ap (λ (l : List ℕ). texture_lines fs ++ l) (append-nil last))

pub head_length : length (line head_texts) ≡ line_bytes
head_length = ap length head_line

pub lines_length : {fs : List SheetFields} → All FieldsFit fs → length (texture_lines fs) ≡ line_bytes * length fs
unfolding flat_map
lines_length nil = refl
lines_length {fs = f ∷ fs} (cons h hs) =
    let one = fields_length f h in
    let rest = lines_length hs in
    let sum = length-append (line (texture_texts f)) (texture_lines fs) in
    omega (arith, one, rest, sum)

module _ (fs : List SheetFields) (fit : All FieldsFit fs) (few : all_spares fs < 10 ^ 4) (fits : all_parked fs < 10 ^ 19) where
  -- two lines more than textures
  pub sheet_length : length (sheet fs) ≡ line_bytes * (length fs + 2)
  sheet_length =
      let last : List ℕ = line (total_texts (all_spares fs) (all_parked fs)) in
      let all = ap length (sheet_parts fs) in
      let one = length-append (line head_texts) (texture_lines fs ++ last) in
      let two = length-append (texture_lines fs) last in
      omega (arith, all, one, two, head_length, lines_length fit, totals_length (all_spares fs) (all_parked fs) few fits)
