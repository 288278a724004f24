-- The fields are within the line. Assumes nothing.
use mathlib.Core.Path.{sym, ◌∙◌}
use native.Mathlib.Omega.{arith}
use Rattle.event_text.proofs.Numbers.{number_within}
use Rattle.test_pool_lines.proofs.fields.read_numbers.Goals as goal

pub loop-count-preserved : goal.loop-count-preserved
loop-count-preserved c = (number_within _ _ _ _ (omega arith) (sym c.in-Some.is ∙ c.number_at.ensures)).1
