-- Helper: The pool's counts with other grids and stamps in use.
use Rattle.std.specs.Prelude.{ℕ}
use Rattle.pool_memory.specs.declared.pool.Pool.{Pool as Counts}

abbrev pub with_used : ℕ → ℕ → Counts → Counts
with_used grids stamps c = record c { grids = grids; stamps = stamps }
