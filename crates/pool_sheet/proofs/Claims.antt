-- The claim about sheets holds: their lines, their columns, and that they determine what is printed. Assumes nothing.
use mathlib.Core.Path.{◌≡◌, refl, sym, ap, ◌∙◌, subst}
use mathlib.Core.Bool.{Bool, true, ◌&&◌}
use mathlib.Core.List.{List, [], ◌∷◌, map}
use Prim.Native.Nat.{ℕ, zero, suc, ◌+◌, ◌*◌, ◌-◌, ◌^◌, ◌<◌}
use native.Mathlib.Omega.{arith}
use borrow.Author.Tests.{leb-true}
use lib.Dec.{leb, ltb}
use lib.ListN.{length, replicate}
use lib.Seq.{get_or-drop}
use Rattle.base_blocks.specs.Lists.{ascending}
use Rattle.base_blocks.specs.All.{All, nil, cons}
use Rattle.base_blocks.proofs.Lists.{and_both}
use Rattle.base_blocks.proofs.All.{all_both, all_listed, all_map}
use Rattle.base_tables.specs.Records.{record_at, table}
use Rattle.base_digits.specs.Aligned.{right}
use Rattle.base_digits.specs.Characters.{blank, line_feed}
use Rattle.base_digits.specs.Digits.{is_digit, digits, digits_of}
use Rattle.base_digits.proofs.Printing.{digits_are, digits_room}
use Rattle.pool_rules.specs.Model.{VersionState, PoolModel}
use Rattle.pool_rules.specs.Formed.{Formed}
use Rattle.pool_records.specs.declared.texture.TextureRecord.{TextureRecord}
use Rattle.pool_records.specs.RecordConstants.{texture_stride}
use Rattle.pool_records.specs.Texture.{read_texture}
use Rattle.pool_memory.specs.Lent.{Lent}
use Rattle.pool_memory.specs.Reading.{tracked_records, model_of}
use Rattle.pool_memory.specs.IsPool.{is_pool, state_id}
use Rattle.pool_memory.proofs.FitsTests.{all_holds, ascending_passes}
use Rattle.pool_memory.proofs.Fits.{Fits}
use Rattle.pool_memory.proofs.FromPool.{pool_fits}
use Rattle.pool_sheet.specs.declared.fields.SheetFields.{SheetFields}
use Rattle.pool_sheet.specs.Sheet.{line_width, column_widths, in_columns, characters, line, head_texts, texture_texts, total_texts, state_fields, pool_fields, all_spares, all_parked, sheet_texts, sheet}
use Rattle.pool_sheet.specs.Records.{record_fields, FieldsFit}
use Rattle.pool_sheet.specs.SheetClaims.{IsLine, Within, Words, fields_on, SheetClaims}
use Rattle.pool_sheet.proofs.Columns.{characters_length}
use Rattle.pool_sheet.proofs.Widths.{four_wide, nineteen_wide, kind_wide, levels_wide, spares_wide, parked_wide, last_wide}
use Rattle.pool_sheet.proofs.PoolFits.{pool_fields_fit, spares_fit, parked_fits}
use Rattle.pool_sheet.proofs.OfRecords.{fields_records}
use Rattle.pool_sheet.proofs.Determined.{Printable, Prints, sheet_same}

-- ---- no line feed in a line

-- a byte that is no line feed
abbrev Plain : ℕ → Type 0
Plain b = b ≡ line_feed → ⊥

blank_plain : Plain blank
blank_plain q = let y : ⊥ = omega (arith, q) in y

blanks_plain : (k : ℕ) → All Plain (replicate k blank)
blanks_plain zero = nil
blanks_plain (suc k) = cons blank_plain (blanks_plain k)

digit_plain : (b : ℕ) → is_digit b ≡ true → Plain b
unfolding is_digit
digit_plain b e q = let d = leb-true 48 b (and_both (leb 48 b) (leb b 57) e).0 in let y : ⊥ = omega (arith, d, q) in y

digits_plain : (n : ℕ) → All Plain (digits_of n)
unfolding digits_of
digits_plain n = all_holds is_digit digit_plain (digits 20 n) (digits_are 20 n)

right_plain : (w : ℕ) (text : List ℕ) → All Plain text → All Plain (right w text)
unfolding right
right_plain w text p = all_both (blanks_plain (w - length text)) p

-- texts in columns
columns_plain : (ws : List ℕ) (ts : List (List ℕ)) → All (All Plain) ts → All Plain (in_columns ws ts)
unfolding in_columns
columns_plain [] ts ps = nil
columns_plain (w ∷ ws) [] ps = nil
columns_plain (w ∷ []) (t ∷ ts) (cons p ps) = right_plain w t p
columns_plain (w ∷ v ∷ ws) (t ∷ ts) (cons p ps) = all_both (right_plain w t p) (cons blank_plain (columns_plain (v ∷ ws) ts ps))

characters_plain : (ts : List (List ℕ)) → All (All Plain) ts → All Plain (characters ts)
unfolding characters
characters_plain ts ps = all_both (columns_plain column_widths ts ps) (blanks_plain (line_width - length (in_columns column_widths ts)))

-- ---- a line

-- the texts of a line: six that fit, without line feeds
record Texts (ts : List (List ℕ)) : Type 0 where
  fits : Within column_widths ts
  long : length (characters ts) ≡ 72
  plain : All (All Plain) ts

texts_line : (ts : List (List ℕ)) → Texts ts → IsLine (line ts)
unfolding line
texts_line ts t = record { front = characters ts; ended = refl; long = t.long; unbroken = characters_plain ts t.plain }

plain_head : (b : ℕ) (bs : List ℕ) → 10 < b → All Plain bs → All Plain (b ∷ bs)
plain_head b bs h ps = cons {x = b} (λ q. let y : ⊥ = omega (arith, h, q) in y) ps

head_texts_lem : Texts head_texts
head_texts_lem = record {
  fits = (omega arith, (omega arith, (omega arith, (omega arith, (omega arith, (omega arith, tt))))));
  long = characters_length (105 ∷ 100 ∷ []) (107 ∷ []) (108 ∷ 118 ∷ []) (115 ∷ 112 ∷ []) (112 ∷ 97 ∷ 114 ∷ 107 ∷ 101 ∷ 100 ∷ []) (108 ∷ 97 ∷ 115 ∷ 116 ∷ [])
      (omega arith) (omega arith) (omega arith) (omega arith) (omega arith) (omega arith);
  plain = cons (two 105 100 (omega arith) (omega arith))
      (cons (plain_head 107 [] (omega arith) nil)
      (cons (two 108 118 (omega arith) (omega arith))
      (cons (two 115 112 (omega arith) (omega arith))
      (cons (plain_head 112 _ (omega arith) (plain_head 97 _ (omega arith) (plain_head 114 _ (omega arith) (plain_head 107 _ (omega arith) (two 101 100 (omega arith) (omega arith))))))
      (cons (plain_head 108 _ (omega arith) (plain_head 97 _ (omega arith) (two 115 116 (omega arith) (omega arith)))) nil)))));
}
  where
    two : (a b : ℕ) → 10 < a → 10 < b → All Plain (a ∷ b ∷ [])
    two a b h k = plain_head a (b ∷ []) h (plain_head b [] k nil)

texture_texts_lem : (f : SheetFields) → FieldsFit f → Texts (texture_texts f)
unfolding texture_texts
texture_texts_lem f fit = record {
  fits = (digits_room f.id, (kind_wide f fit, (levels_wide f fit, (spares_wide f fit, (parked_wide f fit, (last_wide f fit, tt))))));
  long = characters_length (digits_of f.id) (digits_of f.kind) (digits_of f.levels) (digits_of f.spares) (digits_of f.parked) (digits_of f.last)
      (digits_room f.id) (kind_wide f fit) (levels_wide f fit) (spares_wide f fit) (parked_wide f fit) (last_wide f fit);
  plain = cons (digits_plain f.id)
      (cons (digits_plain f.kind)
      (cons (digits_plain f.levels)
      (cons (digits_plain f.spares)
      (cons (digits_plain f.parked)
      (cons (digits_plain f.last) nil)))));
}

total_texts_lem : (spares parked : ℕ) → spares < 10 ^ 4 → parked < 10 ^ 19 → Texts (total_texts spares parked)
unfolding total_texts
total_texts_lem spares parked few small =
    let a = four_wide spares few in
    let b = nineteen_wide parked small in
    record {
      fits = (omega arith, (omega arith, (omega arith, (a, (b, (omega arith, tt))))));
      long = characters_length [] [] [] (digits_of spares) (digits_of parked) [] (omega arith) (omega arith) (omega arith) a b (omega arith);
      plain = cons nil (cons nil (cons nil (cons (digits_plain spares) (cons (digits_plain parked) (cons nil nil)))));
    }

all_fitting : {xs : List (List (List ℕ))} → All Texts xs → All (Within column_widths) xs
all_fitting nil = nil
all_fitting (cons t ts) = cons t.fits (all_fitting ts)

-- ---- a sheet

-- the ids of records of 64-bit numbers
tracked_ids : (n : ℕ) (s : List ℕ) → Words s → All (λ (t : TextureRecord). t.id < 2 ^ 64) (table texture_stride read_texture n s)
unfolding table record_at read_texture
tracked_ids n s w =
    all_listed (record_at texture_stride read_texture s) 0 n (λ j h. subst (λ (v : ℕ). v < 2 ^ 64) (sym (get_or-drop (texture_stride * (0 + j)) s 0 0)) (w (texture_stride * (0 + j) + 0)))

with_words : {fs : List SheetFields} → All FieldsFit fs → All (λ (g : SheetFields). g.id < 2 ^ 64) fs → All Printable fs
with_words nil nil = nil
with_words (cons p ps) (cons q qs) = cons (record { fit = p; word = q }) (with_words ps qs)

-- the textures of a pool stand in ascending id, and so do their lines
states_ascend : (ts : List (VersionState ℕ)) → ascending (λ (f : SheetFields). f.id) (map state_fields ts) ≡ ascending state_id ts
unfolding ascending
states_ascend [] = refl
states_ascend (t ∷ []) = refl
states_ascend (t ∷ u ∷ ts) = ap (λ (b : Bool). ltb t.id u.id && b) (states_ascend (u ∷ ts))

fields_ascend : (p : PoolModel ℕ) → Formed p → ascending (λ (f : SheetFields). f.id) (pool_fields p) ≡ true
unfolding pool_fields
fields_ascend p f = states_ascend p.textures ∙ ascending_passes f.ids

module _ (l : Lent) (pooled : is_pool l ≡ true) where
  f : Fits l
  f = pool_fits l pooled

  all_texts : All Texts (sheet_texts (fields_on l))
  unfolding sheet_texts
  all_texts =
      cons head_texts_lem
      (all_both (all_map texture_texts texture_texts_lem (pool_fields_fit (model_of l) f.formed))
      (cons (total_texts_lem (all_spares (fields_on l)) (all_parked (fields_on l)) (spares_fit (model_of l) f.formed) (parked_fits (model_of l) f.formed)) nil))

  -- with ids of 64 bits
  prints : Words l.textures → Prints (fields_on l)
  prints w = record {
    each = with_words (pool_fields_fit (model_of l) f.formed) (subst (All (λ (g : SheetFields). g.id < 2 ^ 64)) (sym (fields_records l f)) (all_map record_fields (λ (t : TextureRecord) h. h) ids));
    spares = spares_fit (model_of l) f.formed;
    parked = parked_fits (model_of l) f.formed;
  }
    where
      ids : All (λ (t : TextureRecord). t.id < 2 ^ 64) (tracked_records l)
      ids = tracked_ids l.pool.tracked l.textures w

pub sheet_claims : SheetClaims
sheet_claims = record {
  ascend = λ l e. fields_ascend (model_of l) (pool_fits l e).formed;
  lines_are = λ l e. all_map line texts_line (all_texts l e);
  no_wider = λ l e. all_fitting (all_texts l e);
  determines = λ l m e d v w q. sheet_same (fields_on l) (fields_on m) (prints l e v) (prints m d w) q;
  determined = λ l m q. ap sheet q;
}
