-- `is_retiring` meets its contract. Assumes nothing.
use mathlib.Core.Path.{ap}
use Rattle.base_blocks.specs.Lists.{tests, after}
use Rattle.pool_records.specs.declared.retiring.RetiringRecord.{RetiringRecord}
use Rattle.pool_records.specs.Views.{retiring_of}
use Rattle.pool_memory.specs.IsPool.{is_retiring}
use Rattle.pool_formed.proofs.rings_fit.is_retiring.Goals as goal

pub returns : goal.returns
unfolding is_retiring tests after
returns c = ap (λ (x : RetiringRecord). is_retiring (retiring_of x)) c.read-x.ensures
