-- `drained_counts` meets its contract. Assumes nothing.
use Rattle.pool_take_doomed.specs.DrainVersions.{drained_counts}
use Rattle.pool_take_doomed.proofs.calls.drain_versions.drained_counts.Goals as goal

pub returns : goal.returns
unfolding drained_counts
returns c = rw c.ring_drop-first.ensures.1
