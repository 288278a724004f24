-- What the call answers and leaves in its buffer, case by case. Assumes nothing.
use mathlib.Core.Path.{◌≡◌, sym, ap, ap₂, ◌∙◌}
use mathlib.Core.Bool.{Bool, true, false, cond}
use mathlib.Core.List.{List, ◌++◌, append_assoc, flat_map}
use Prim.Native.Nat.{ℕ, ◌+◌, ◌*◌, ◌≤◌, ◌<◌}
use native.Mathlib.Omega.{arith}
use borrow.Author.Tests.{lt-ltb, le-ltb}
use lib.ListN.{length, drop, length-append}
use lib.Seq.{sets, sets-eq}
use Rattle.base_blocks.specs.Lists.{over}
use Rattle.base_digits.proofs.ShortNumbers.{sets_append}
use Rattle.pool_records.specs.RecordConstants.{texture_stride}
use Rattle.pool_rules.specs.RuleConstants.{most_places}
use Rattle.pool_memory.specs.Lent.{Lent}
use Rattle.pool_memory.specs.Reading.{tracked_records, model_of}
use Rattle.pool_memory.specs.IsPool.{is_pool}
use Rattle.pool_memory.specs.Calls.{refused_with, answer}
use Rattle.pool_memory.proofs.Fits.{Fits}
use Rattle.pool_memory.proofs.FromPool.{enough, pool_fits}
use Rattle.pool_sheet.specs.Sheet.{line, head_texts, total_texts}
use Rattle.pool_sheet.specs.PrintSheet.{sheet_of, printed_in, print_sheet_on}
use Rattle.pool_sheet.specs.Records.{line_bytes, record_line}
use Rattle.pool_sheet.proofs.Pages.{head_length, lines_length}
use Rattle.pool_sheet.proofs.PoolFits.{pool_fields_fit}
use Rattle.pool_sheet.proofs.OfRecords.{fields_length, lines_records, sheet_made, sheet_bytes}

-- at most 4,096 textures are tracked, and their records are there
pub tracked_most : (l : Lent) → Fits l → l.pool.tracked ≤ most_places
tracked_most l f = omega (arith, f.tracked, (enough (model_of l).places f.places).textures)

pub records_there : (l : Lent) → Fits l → texture_stride * l.pool.tracked ≤ length l.textures
records_there l f = omega (arith, f.tracked, f.textures)

-- text put at the front lies over what was there
over_put : (text buffer : List ℕ) → length text ≤ length buffer → sets buffer 0 text ≡ over text buffer
unfolding over
over_put text buffer h =
    sets-eq text buffer 0 (omega arith) ∙ ap (λ (n : ℕ). text ++ drop n buffer) (let e : 0 + length text ≡ length text = omega arith in e)

-- a buffer that is too short, and one that is not
printed_short : (text buffer : List ℕ) → length buffer < length text → (refused_with 11, buffer) ≡ printed_in text buffer
unfolding printed_in
printed_short text buffer h =
    sym (ap (λ (b : Bool). cond b (refused_with 11, buffer) (answer (length text), over text buffer)) (lt-ltb (length buffer) (length text) h))

printed_whole : (text buffer : List ℕ) → length text ≤ length buffer → (answer (length text), over text buffer) ≡ printed_in text buffer
unfolding printed_in
printed_whole text buffer h =
    sym (ap (λ (b : Bool). cond b (refused_with 11, buffer) (answer (length text), over text buffer)) (le-ltb (length buffer) (length text) h))

module _ (l : Lent) (buffer : List ℕ) where
  pub not_pool : is_pool l ≡ false → (refused_with 1, buffer) ≡ print_sheet_on l buffer
  unfolding print_sheet_on
  not_pool e = sym (ap (λ (b : Bool). cond b (printed_in (sheet_of l) buffer) (refused_with 1, buffer)) e)

  module _ (pooled : is_pool l ≡ true) where
    f : Fits l
    f = pool_fits l pooled

    -- in a pool the buffer alone says what is answered
    as_printed : printed_in (sheet_of l) buffer ≡ print_sheet_on l buffer
    unfolding print_sheet_on
    as_printed = sym (ap (λ (b : Bool). cond b (printed_in (sheet_of l) buffer) (refused_with 1, buffer)) pooled)

    pub too_short : length buffer < line_bytes * (l.pool.tracked + 2) → (refused_with 11, buffer) ≡ print_sheet_on l buffer
    too_short h = printed_short (sheet_of l) buffer (omega (arith, h, sheet_bytes l f)) ∙ as_printed

    -- as the code puts it: the head line, the textures' lines behind it, the totals behind these
    module _ (h : line_bytes * (l.pool.tracked + 2) ≤ length buffer) (one two three : List ℕ) (headed : one ≡ sets buffer 0 (line head_texts))
        (listed : two ≡ sets one line_bytes (flat_map record_line (tracked_records l)))
        (totalled : three ≡ sets two (line_bytes * (l.pool.tracked + 1)) (line (total_texts l.pool.kept l.pool.parked))) where
      abbrev lines : List ℕ
      lines = flat_map record_line (tracked_records l)

      lines_long : length lines ≡ line_bytes * l.pool.tracked
      lines_long =
          ap length (lines_records l f) ∙ lines_length (pool_fields_fit (model_of l) f.formed) ∙ ap (λ (n : ℕ). line_bytes * n) (fields_length l f)

      begun : two ≡ sets buffer 0 (line head_texts ++ lines)
      begun =
          let e : line_bytes ≡ 0 + length (line head_texts) = omega (arith, head_length) in
          listed ∙ ap₂ (λ (s : List ℕ) (i : ℕ). sets s i lines) headed e ∙ sets_append buffer 0 (line head_texts) lines

      long : length (line head_texts ++ lines) ≡ line_bytes * (l.pool.tracked + 1)
      long = length-append (line head_texts) lines ∙ (let e : length (line head_texts) + length lines ≡ line_bytes * (l.pool.tracked + 1) = omega (arith, head_length, lines_long) in e)

      pub page_put : three ≡ over (sheet_of l) buffer
      page_put =
          let last : List ℕ = line (total_texts l.pool.kept l.pool.parked) in
          let e : line_bytes * (l.pool.tracked + 1) ≡ 0 + length (line head_texts ++ lines) = omega (arith, long) in
          totalled
          ∙ ap₂ (λ (s : List ℕ) (i : ℕ). sets s i last) begun e
          ∙ sets_append buffer 0 (line head_texts ++ lines) last
          ∙ ap (sets buffer 0) (append_assoc (line head_texts) lines last ∙ sheet_made l f)
          ∙ over_put (sheet_of l) buffer (omega (arith, h, sheet_bytes l f))

      pub page_told : (answer (line_bytes * (l.pool.tracked + 2)), three) ≡ print_sheet_on l buffer
      page_told =
          ap₂ (λ (n : ℕ) (s : List ℕ). (answer n, s)) (sym (sheet_bytes l f)) page_put
          ∙ printed_whole (sheet_of l) buffer (omega (arith, h, sheet_bytes l f))
          ∙ as_printed
