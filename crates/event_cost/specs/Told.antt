-- Helper: What an answer of the code says of the copies of a plan, without the answer buffers.
use Rattle.std.specs.Prelude.{ℕ, cond, List, [], ◌∷◌}
use Rattle.base_digits.specs.Digits.{digits_of}
use Rattle.event_lines.specs.declared.event.Event.{Event}
use Rattle.event_answers.specs.declared.answer.Answer.{Answer}
use Rattle.event_answers.specs.declared.answer.Answer.TheVariants.{Question, Refused, Done, Spare, NoSpare, Version, NothingSettled, Views, Copies}
use Rattle.event_answers.specs.Printed.{row, accepted_row}
use Rattle.event_cost.specs.Costs.{is_plan, sum_field}

-- how many copies of the buffer it has
unfoldable pub copy_count : Answer → ℕ
copy_count Question = 0
copy_count (Refused k) = 0
copy_count Done = 0
copy_count (Spare view held) = 0
copy_count NoSpare = 0
copy_count (Version id view) = 0
copy_count NothingSettled = 0
copy_count (Views n) = 0
copy_count (Copies n) = n

-- the line of a plan whose copies move this many bytes
unfoldable pub row_told : ℕ → ℕ → Answer → List ℕ
row_told n bytes Question = []
row_told n bytes (Refused k) = row n (digits_of k ∷ [])
row_told n bytes Done = []
row_told n bytes (Spare view held) = []
row_told n bytes NoSpare = []
row_told n bytes (Version id view) = []
row_told n bytes NothingSettled = []
row_told n bytes (Views m) = []
row_told n bytes (Copies m) = accepted_row n (sum_field bytes ∷ [])

unfoldable pub event_told : ℕ → ℕ → Event → Answer → List ℕ
event_told n bytes e a = cond (is_plan e) (row_told n bytes a) []
