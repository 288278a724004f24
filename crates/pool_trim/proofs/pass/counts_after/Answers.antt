-- `counts_after` meets its contract. Assumes nothing.
use mathlib.Core.Path.{refl}
use Rattle.pool_trim.specs.Pass.{counts_trimmed}
use Rattle.pool_trim.proofs.pass.counts_after.Goals as goal

pub returns : goal.returns
unfolding counts_trimmed
returns c = refl
