-- Helper: The counts after parking.
use Rattle.std.specs.Prelude.{ℕ, ◌+◌}
use Rattle.pool_memory.specs.declared.pool.Pool.{Pool}

-- the hand's version parked; `head` is where the ring begins without it
abbrev pub hand_kept : ℕ → ℕ → Pool → Pool
hand_kept head bytes p = record p { kept = p.kept + 1; head = head; popped = 0; parked = p.parked + bytes }

-- the hand's version queued for destruction
abbrev pub hand_doomed : ℕ → ℕ → Pool → Pool
hand_doomed head bytes p = record p { head = head; popped = 0; doomed = p.doomed + 1; since = p.since + 1; dooming = p.dooming + bytes }
