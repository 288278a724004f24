-- `VersionBudget::from_working_set` meets its contract: each branch is the budget's of its case. Assumes nothing.
use native.Mathlib.Omega.{arith}
use Rattle.pool_rules.proofs.Budgets.{none_recommended, some_recommended}
use Rattle.pool_rules.proofs.budget.VersionBudget.from_working_set.Goals as goal

pub returns-then-working-eq0 : goal.returns-then-working-eq0
returns-then-working-eq0 c = none_recommended c.args.working (omega arith)

pub returns : goal.returns
returns c = some_recommended c.args.working c.min.result (omega arith) c.min.ensures
