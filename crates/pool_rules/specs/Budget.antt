-- Rule: The budget (the Rust's `VersionBudget`): the cap of the spares and the pressure line, from the recommended working set.
use Rattle.std.specs.Prelude.{ℕ, ◌-◌, ◌*◌, ◌/◌, ◌^◌, min, cond, eqb}
use Rattle.pool_rules.specs.declared.budget.VersionBudget.{VersionBudget}

-- the Rust's constants of the same names, with its reasons in src/budget.rt
abbrev pub version_pool_ceiling_bytes : ℕ
version_pool_ceiling_bytes = 2 ^ 30

abbrev pub version_pool_working_set_divisor : ℕ
version_pool_working_set_divisor = 8

abbrev pub version_pool_pressure_quarters : ℕ
version_pool_pressure_quarters = 3

-- an eighth of the working set, at most 2^30, and three quarters of it; of a working set of 0 the ceiling, and no line to pass
unfoldable pub budget_of : ℕ → VersionBudget
budget_of working =
    cond (eqb working 0) (record { cap = version_pool_ceiling_bytes; line = 2 ^ 64 - 1 })
    (record { cap = min (working / version_pool_working_set_divisor) version_pool_ceiling_bytes; line = working / 4 * version_pool_pressure_quarters })

-- parking resumes below the line less the cap, at least 0
unfoldable pub resume_below : VersionBudget → ℕ
resume_below b = b.line - b.cap
