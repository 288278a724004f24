-- `plan_cost` meets its contract: the sums are those of the copies before i. Assumes nothing.
use mathlib.Core.Path.{◌≡◌}
use Rattle.base_tables.specs.Records.{table}
use Rattle.pool_books.specs.LentLists.{read_copy}
use Rattle.pool_memory.specs.MemoryConstants.{copy_stride}
use Rattle.event_cost.specs.Costs.{clipped_sums, plan_sums}
use Rattle.event_cost.proofs.plan_cost.plan_cost.Given as goal

abbrev pub invariant-loop-i : goal.invariant-loop-i
invariant-loop-i l = l.sums ≡ clipped_sums (plan_sums l.shape (table copy_stride read_copy l.i l.copies))
