-- Helper: The counts and the pacing book after a take.
use Rattle.std.specs.Prelude.{ℕ, suc, ◌-◌, ◌%◌, List}
use Rattle.base_tables.specs.Rings.{place_of}
use Rattle.pool_memory.specs.declared.pool.Pool.{Pool}
use Rattle.pool_memory.specs.declared.book.PacingBook.{PacingBook}
use Rattle.pool_rules.specs.RuleConstants.{destroy_spread_drains}

-- n versions with these bytes have left the destroy ring's front
unfoldable pub taken_counts : Pool → ℕ → ℕ → ℕ → Pool
taken_counts c places n bytes = record c { first = place_of places c.first n; doomed = c.doomed - n; since = 0; dooming = c.dooming - bytes }

-- the arrivals are noted, and the excess is covered
unfoldable pub taken_book : PacingBook → List ℕ → PacingBook
taken_book b arrivals = record b { arrivals = arrivals; slot = suc b.slot % destroy_spread_drains; excess = 0 }
