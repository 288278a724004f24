-- `copy_numbers` meets its contract. Assumes nothing.
use mathlib.Core.Path.{sym, ap}
use Rattle.pool_memory.specs.Calls.{copy_numbers}
use Rattle.pool_preserve_plan.specs.Copies.{copy_numbers_of}
use Rattle.pool_preserve_plan.proofs.copy.copy_numbers.Goals as goal

pub returns-in-Whole : goal.returns-in-Whole
unfolding copy_numbers
returns-in-Whole c = sym (ap (copy_numbers_of c.args.slice c.args.level) c.in-Whole.is)

pub returns-in-Part : goal.returns-in-Part
unfolding copy_numbers
returns-in-Part c = let a = c.args in sym (ap (copy_numbers_of a.slice a.level) c.in-Part.is)
