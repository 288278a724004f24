-- The budget of a working set, case by case. Assumes nothing.
use Prim.Native.Nat.{ℕ, ◌*◌, ◌/◌, ◌<◌, min}
use mathlib.Core.Path.{◌≡◌}
use native.Mathlib.Omega.{arith}
use borrow.Author.Tests.{eq-eqb, ne_eqb}
use Rattle.pool_rules.specs.declared.budget.VersionBudget.{VersionBudget}
use Rattle.pool_rules.specs.Budget.{budget_of}

pub none_recommended : (working : ℕ) → working ≡ 0 → ◌≡◌ {A = VersionBudget} (record { cap = 1073741824; line = 18446744073709551615 }) (budget_of working)
unfolding budget_of
none_recommended working e = rw (eq-eqb working 0 e)

pub some_recommended : (working cap : ℕ) → 0 < working → cap ≡ min (working / 8) 1073741824
    → ◌≡◌ {A = VersionBudget} (record { cap = cap; line = working / 4 * 3 }) (budget_of working)
unfolding budget_of
some_recommended working cap h e = rw (ne_eqb working 0 (λ q. omega arith), e)
