-- `taken_counts` meets its contract. Assumes nothing.
use Rattle.pool_take_doomed.specs.TakeDoomed.{taken_counts}
use Rattle.pool_take_doomed.proofs.calls.take_doomed.taken_counts.Goals as goal

pub returns : goal.returns
unfolding taken_counts
returns c = rw c.ring_drop-first.ensures.1
