-- The sheet of a pool by its records, as the code reads them. Assumes nothing.
use Rattle.pool_rules.specs.HistorySizes.{newest_used, stamps_used}
use mathlib.Core.Path.{◌≡◌, refl, sym, ap, ap₂, ◌∙◌, subst}
use mathlib.Core.List.{List, [], ◌∷◌, ◌++◌, map, flat_map}
use Prim.Native.Nat.{ℕ, ◌+◌, ◌*◌, ◌^◌, ◌<◌}
use native.Mathlib.Omega.{arith}
use lib.ListN.{length, length-map}
use Rattle.base_blocks.specs.All.{All, nil, cons}
use Rattle.base_blocks.proofs.All.{all_at}
use Rattle.pool_rules.specs.Model.{VersionState}
use Rattle.pool_records.specs.declared.texture.TextureRecord.{TextureRecord}
use Rattle.pool_records.specs.Texture.{read_texture}
use Rattle.pool_memory.specs.Lent.{Lent}
use Rattle.pool_memory.specs.Reading.{tracked_records, model_of}
use Rattle.pool_memory.specs.Writing.{texture_records}
use Rattle.pool_memory.proofs.Fits.{Fits}
use Rattle.pool_memory.proofs.Runs.{kept_model, tracked_records_lem, tracked_model, records_model}
use Rattle.pool_memory.proofs.Tracked.{record_read}
use Rattle.pool_memory.proofs.Parts.{flat_mapped}
use Rattle.pool_sheet.specs.declared.fields.SheetFields.{SheetFields}
use Rattle.pool_sheet.specs.Sheet.{line, head_texts, texture_texts, total_texts, state_fields, pool_fields, all_spares, all_parked}
use Rattle.pool_sheet.specs.PrintSheet.{sheet_of}
use Rattle.pool_sheet.specs.Records.{line_bytes, record_fields, record_line, FieldsFit, RecordsFit}
use Rattle.pool_sheet.proofs.PoolFits.{pool_fields_fit, spares_told, parked_told, spares_fit, parked_fits}
use Rattle.pool_sheet.proofs.Pages.{texture_lines, sheet_parts, sheet_length}

-- what holds of all fields holds of the fields of all records
all_unmapped : (ts : List TextureRecord) → All FieldsFit (map record_fields ts) → All (λ (t : TextureRecord). FieldsFit (record_fields t)) ts
all_unmapped [] a = nil
all_unmapped (t ∷ ts) (cons f fs) = cons f (all_unmapped ts fs)

-- a state's record has its fields
records_fields : (grid stamp : ℕ) (ts : List (VersionState ℕ)) → map record_fields (texture_records grid stamp ts) ≡ map state_fields ts
unfolding texture_records
records_fields grid stamp [] = refl
records_fields grid stamp (t ∷ ts) = ap (λ (fs : List SheetFields). state_fields t ∷ fs) (records_fields (grid + newest_used t) (stamp + stamps_used t) ts)

module _ (l : Lent) (f : Fits l) where
  abbrev fields : List SheetFields
  fields = pool_fields (model_of l)

  pub fields_records : fields ≡ map record_fields (tracked_records l)
  unfolding pool_fields
  fields_records = sym (records_fields 0 0 (model_of l).textures) ∙ ap (map record_fields) (records_model l f.bytes f.starts)

  -- the textures' lines are those of the records
  pub lines_records : flat_map record_line (tracked_records l) ≡ texture_lines fields
  unfolding record_line
  lines_records =
      flat_mapped record_fields (λ (g : SheetFields). line (texture_texts g)) (tracked_records l)
      ∙ ap (flat_map (λ (g : SheetFields). line (texture_texts g))) (sym fields_records)
      ∙ flat_mapped texture_texts line fields

  -- the totals are the pool's counts
  pub kept_told : all_spares fields ≡ l.pool.kept
  kept_told = spares_told (model_of l) f.formed ∙ kept_model l ∙ f.kept

  pub parked_counted : all_parked fields ≡ l.pool.parked
  unfolding model_of
  parked_counted = parked_told (model_of l) f.formed

  pub sheet_made : line head_texts ++ (flat_map record_line (tracked_records l) ++ line (total_texts l.pool.kept l.pool.parked)) ≡ sheet_of l
  sheet_made =
      ap (λ (x : List ℕ). line head_texts ++ (x ++ line (total_texts l.pool.kept l.pool.parked))) lines_records
      ∙ ap₂ (λ (a b : ℕ). line head_texts ++ (texture_lines fields ++ line (total_texts a b))) (sym kept_told) (sym parked_counted)
      ∙ sym (sheet_parts fields)

  pub fields_length : length fields ≡ l.pool.tracked
  unfolding pool_fields
  fields_length = length-map (model_of l).textures state_fields ∙ tracked_model l

  pub sheet_bytes : length (sheet_of l) ≡ line_bytes * (l.pool.tracked + 2)
  sheet_bytes =
      sheet_length fields (pool_fields_fit (model_of l) f.formed) (spares_fit (model_of l) f.formed) (parked_fits (model_of l) f.formed)
      ∙ ap (λ (n : ℕ). line_bytes * (n + 2)) fields_length

  pub kept_fits : l.pool.kept < 10 ^ 4
  kept_fits = omega (arith, kept_told, spares_fit (model_of l) f.formed)

  pub parked_small : l.pool.parked < 10 ^ 19
  parked_small = omega (arith, parked_counted, parked_fits (model_of l) f.formed)

  -- every record that the code reads fits its line
  pub records_fit : RecordsFit l.textures l.pool.tracked
  records_fit i h =
      let d : TextureRecord = read_texture [] in
      let n : i < length (tracked_records l) = omega (arith, h, tracked_records_lem l) in
      let a = subst (All FieldsFit) fields_records (pool_fields_fit (model_of l) f.formed) in
      subst (λ (t : TextureRecord). FieldsFit (record_fields t)) (record_read l i h)
      (all_at (tracked_records l) i d n (all_unmapped (tracked_records l) a))
