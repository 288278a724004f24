-- Rule: The call that prints a sheet into a lent buffer: 1 where the stores form no pool, then 11 ("11 covers a sheet buffer that is too short"), and else
-- the sheet at the buffer's front.
use Rattle.std.specs.Prelude.{ℕ, cond, List, ltb, length, Result, Ok, Err}
use Rattle.base_blocks.specs.Lists.{over}
use Rattle.grid_shapes.specs.declared.refusal.Refusal.{Refusal}
use Rattle.grid_shapes.specs.Outcomes.{number_of}
use Rattle.pool_memory.specs.Lent.{Lent}
use Rattle.pool_memory.specs.Reading.{model_of}
use Rattle.pool_memory.specs.IsPool.{is_pool}
use Rattle.pool_memory.specs.Calls.{Told, refused_with, answer}
use Rattle.pool_sheet.specs.Sheet.{pool_fields, sheet}

-- how many bytes the sheet has, or 01's number of a refusal
abbrev pub sheet_told : Result ℕ Refusal → Told ℕ
sheet_told (Ok n) = answer n
sheet_told (Err e) = refused_with (number_of e)

-- what a buffer answers and holds once text is to be printed into it: bytes past the text keep what they held
unfoldable pub printed_in : List ℕ → List ℕ → Told ℕ × List ℕ
printed_in text buffer = cond (ltb (length buffer) (length text)) (refused_with 11, buffer) (answer (length text), over text buffer)

-- the sheet of the pool that the stores stand for
abbrev pub sheet_of : Lent → List ℕ
sheet_of l = sheet (pool_fields (model_of l))

unfoldable pub print_sheet_on : Lent → List ℕ → Told ℕ × List ℕ
print_sheet_on l buffer = cond (is_pool l) (printed_in (sheet_of l) buffer) (refused_with 1, buffer)
