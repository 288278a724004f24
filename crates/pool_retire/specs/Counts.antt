-- Helper: The counts as a version goes through the pool.
use Rattle.std.specs.Prelude.{ℕ, ◌+◌, ◌-◌}
use Rattle.pool_memory.specs.declared.pool.Pool.{Pool}

-- the versions of the retiring ring: the hand and the queue
abbrev pub ring_count : Pool → ℕ
ring_count p = p.popped + p.queued

-- a version queued at the back
abbrev pub one_queued : Pool → Pool
one_queued p = record p { queued = p.queued + 1 }

-- the queue's front in the hand
abbrev pub front_popped : Pool → Pool
front_popped p = record p { popped = 1; queued = p.queued - 1 }
