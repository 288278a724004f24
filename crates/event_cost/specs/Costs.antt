-- Rule: What the copies of plans move, and how it is printed. 02, W-203: "The bytes of a copy are therefore the blocks that its texels in the level touch,
-- at all depths, times the block's bytes", which `copy_outcome` says. Here the bytes of a plan's copies are summed.
use Rattle.std.specs.Prelude.{ℕ, ◌+◌, ◌-◌, ◌^◌, min, Bool, true, false, cond, ltb, get_or}
use Rattle.std.proofs.Math.Option.{Option, none, some}
use mathlib.Core.List.{List, [], ◌∷◌, ◌++◌, flat_map}
use Rattle.base_blocks.specs.Lists.{total}
use Rattle.base_digits.specs.Characters.{line_feed}
use Rattle.base_digits.specs.Digits.{digits_of}
use Rattle.grid_shapes.specs.declared.shape.VersionShape.{VersionShape}
use Rattle.grid_shapes.specs.Outcomes.{Outcome}
use Rattle.grid_rects.specs.declared.rect.Region.TheVariants.{Whole}
use Rattle.grid_rects.specs.Copies.{copy_outcome}
use Rattle.pool_rules.specs.Model.{PreserveCopy}
use Rattle.pool_books.specs.Demand3.{Reply, refusal, done, spare_taken, copies_planned, version_popped, views_handed}
use Rattle.event_text.specs.Fields.{comma, dash}
use Rattle.event_lines.specs.declared.event.Event.{Event}
use Rattle.event_answers.specs.Printed.{row, accepted_row}
use Rattle.event_cost.specs.declared.sums.Sums.{Sums}

-- ---- the bytes of copies

-- the bytes of an outcome: 0 where it is a refusal, which no plan that is accepted meets, since its shape is one
unfoldable pub accepted_bytes : Outcome → ℕ
accepted_bytes o = get_or o.fields 0 0

-- what a copy moves
unfoldable pub copy_cost : VersionShape → PreserveCopy → ℕ
copy_cost s c = accepted_bytes (copy_outcome s c.level c.region)

-- what it would move if it were of its whole level
unfoldable pub whole_cost : VersionShape → PreserveCopy → ℕ
whole_cost s c = accepted_bytes (copy_outcome s c.level Whole)

-- what copies move, and what they would move if each were of its whole level
unfoldable pub plan_bytes : VersionShape → List PreserveCopy → ℕ
plan_bytes s cs = total (copy_cost s) cs

unfoldable pub whole_bytes : VersionShape → List PreserveCopy → ℕ
whole_bytes s cs = total (whole_cost s) cs

-- ---- both sums together, exact

unfoldable pub copy_sums : VersionShape → PreserveCopy → Sums
copy_sums s c = record { moved = copy_cost s c; whole = whole_cost s c }

unfoldable pub plan_sums : VersionShape → List PreserveCopy → Sums
plan_sums s cs = record { moved = plan_bytes s cs; whole = whole_bytes s cs }

unfoldable pub no_sums : Sums
no_sums = record { moved = 0; whole = 0 }

unfoldable pub plus : Sums → Sums → Sums
plus a b = record { moved = a.moved + b.moved; whole = a.whole + b.whole }

-- the copies of a reply: only a plan that was accepted has any
unfoldable pub copies_of : Option Reply → List PreserveCopy
copies_of none = []
copies_of (some (refusal k)) = []
copies_of (some done) = []
copies_of (some (spare_taken view held)) = []
copies_of (some (copies_planned cs)) = cs
copies_of (some (version_popped v)) = []
copies_of (some (views_handed vs)) = []

-- what a reply costs
unfoldable pub plan_cost : VersionShape → Option Reply → Sums
plan_cost s r = plan_sums s (copies_of r)

-- ---- sums in 64 bits: a sum that is larger than 2 ^ 64 - 1 is kept as that

abbrev pub largest_sum : ℕ
largest_sum = 2 ^ 64 - 1

unfoldable pub clipped : ℕ → ℕ
clipped n = min n largest_sum

unfoldable pub clipped_sums : Sums → Sums
clipped_sums a = record { moved = clipped a.moved; whole = clipped a.whole }

-- ---- what is printed

-- a sum: its digits, or "-" from 2 ^ 64 - 1 on, since 64 bits do not tell it from a larger one
unfoldable pub sum_field : ℕ → List ℕ
sum_field n = cond (ltb n largest_sum) (digits_of n) dash

-- the line of a plan: its outcome and, if it was accepted, what its copies move. No call, no line.
unfoldable pub plan_row : ℕ → VersionShape → Option Reply → List ℕ
plan_row n s none = []
plan_row n s (some (refusal k)) = row n (digits_of k ∷ [])
plan_row n s (some done) = []
plan_row n s (some (spare_taken view held)) = []
plan_row n s (some (copies_planned cs)) = accepted_row n (sum_field (plan_bytes s cs) ∷ [])
plan_row n s (some (version_popped v)) = []
plan_row n s (some (views_handed vs)) = []

unfoldable pub is_plan : Event → Bool
is_plan (Event.Plan id held slice level cover) = true
is_plan (Event.Open working) = false
is_plan (Event.Take id shape records seq) = false
is_plan (Event.Retire id view seq) = false
is_plan (Event.Write id slice level rect) = false
is_plan (Event.Regen id) = false
is_plan (Event.Pop settled) = false
is_plan (Event.Park failed now) = false
is_plan (Event.Note allocated) = false
is_plan Event.Doomed = false
is_plan Event.Drain = false
is_plan (Event.Trim now) = false
is_plan (Event.Forget id) = false
is_plan Event.Unread = false

-- the output of line n, whose event had this reply: only a plan's line has any
unfoldable pub cost_row : ℕ → VersionShape → Event → Option Reply → List ℕ
cost_row n s e r = cond (is_plan e) (plan_row n s r) []

-- the last line: "sum", then, each behind a comma, what was moved and what would have been, and a line feed
unfoldable pub sum_row : Sums → List ℕ
sum_row a = 115 ∷ 117 ∷ 109 ∷ (flat_map (λ (f : List ℕ). comma ∷ f) (sum_field a.moved ∷ sum_field a.whole ∷ []) ++ (line_feed ∷ []))

-- no line has more bytes than two numbers of 20 digits, ",0" and what stands behind each; nor has the last more than "sum" and two such numbers
abbrev pub most_cost_row : ℕ
most_cost_row = 44

abbrev pub most_sum_row : ℕ
most_sum_row = 46
