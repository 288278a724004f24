-- `first_at` meets its contract: by the record that stands there, or by the counts. Assumes nothing.
use Rattle.pool_tracking.proofs.Ends.{first_within, first_behind}
use Rattle.pool_tracking.proofs.start.first_at.Goals as goal

pub returns-then-i-pool : goal.returns-then-i-pool
returns-then-i-pool c = first_within _ _ _ c.if-i-pool.true

pub returns : goal.returns
returns c = first_behind _ _ _ c.if-i-pool.false
