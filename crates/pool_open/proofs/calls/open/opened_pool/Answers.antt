-- `opened_pool` meets its contract. Assumes nothing.
use Rattle.pool_memory.specs.Calls.{opened_pool}
use Rattle.pool_open.proofs.calls.open.opened_pool.Goals as goal

pub returns : goal.returns
unfolding opened_pool
returns c = λ i. record {
  tracked = 0;
  kept = 0;
  grids = 0;
  stamps = 0;
  head = 0;
  popped = 0;
  queued = 0;
  first = 0;
  doomed = 0;
  since = 0;
  trackings = 0;
  parked = 0;
  dooming = 0;
  cap = (c.from_working_set-budget.ensures i).cap;
  line = (c.from_working_set-budget.ensures i).line;
}
